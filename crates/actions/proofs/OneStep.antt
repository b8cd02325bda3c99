-- Statements of one step, conditions and guards, from the charge and what the code finds in their records.
use Rattle.std.proofs.Common.{◌≡◌, ℕ, ◌+◌, Bool, List, sym, ◌∙◌}
use Rattle.std.specs.Prelude.{Result, Ok, IsErrAnd}
use Rattle.rules.specs.declared.Machine.{Machine}
use Rattle.rules.specs.declared.Setting.{Setting}
use Rattle.rules.specs.Basics.{part}
use Rattle.rules.specs.Values.{Value, evaluate}
use Rattle.rules.specs.Running.{going, view, charge, perform, condition, guarded}
use Rattle.records.specs.Acceptance.{Accepted, GoodSimple}
use Rattle.records.proofs.Simples as laws
use Rattle.machine.specs.declared.Stop.{Stop}
use Rattle.machine.specs.Runs.{stopped_by, ran, Solvent, assign_value, pay_values, answer_value, demand_value, test_value}
use Rattle.machine.proofs.Performing.{perform-set, perform-transfer, perform-require, perform-return, condition-tests, guarded-demands, perform-ends, condition-ends, guarded-ends}
use Rattle.machine.proofs.Runs.{ran_err}
use Rattle.machine.proofs.Keeping.{ran-keeps, charge-keeps, still-solvent}
use Rattle.actions.proofs.Fields.{long_is, kind_is}
use Rattle.actions.proofs.Leaves.{kind}
use Rattle.actions.proofs.Operations.{size}
use Rattle.actions.proofs.Simples.{first}

pub charged_solvent : (l : ℕ) (m : Machine) {w : Machine} → going tt w ≡ charge l m → Solvent m → Solvent w
charged_solvent l m charged h = still-solvent (ran-keeps (Ok tt) _ charged (charge-keeps l m)) h

-- the charge went through and left w
module _ (c : Setting) (m : Machine) {w : Machine} (charged : going tt w ≡ charge c.limit m) where
  is : charge c.limit m ≡ going tt w
  is = sym charged

  pub condition_does : {s : List ℕ} {v : Value} → ((a : Accepted s) → v ≡ evaluate (view c w) a.tree) → (a : Accepted s) → test_value v w ≡ condition c a.tree m
  condition_does h a = sym (condition-tests c m is _ _ (h a))

  pub guard_does : {s : List ℕ} {v : Value} → ((a : Accepted s) → v ≡ evaluate (view c w) a.tree) → (a : Accepted s) → demand_value 24 23 v w ≡ guarded c a.tree m
  guard_does h a = sym (guarded-demands c m is _ _ (h a))

  module _ {s : List ℕ} {n k : ℕ} (long : n ≡ size s) (was : k ≡ kind s) where
    pub set_does : {q : ℕ} {v : Value} → k ≡ 16 → q ≡ first s → ((e : Accepted (part 6 n s)) → v ≡ evaluate (view c w) e.tree)
        → (a : GoodSimple s) → assign_value q v w ≡ perform c a.tree m
    set_does i e h a = let p = laws.set-tree (long_is s long) a (kind_is s was i) in rw (p.is, perform-set c m is _ _ _ (h p.child), e)

    pub transfer_does : {q : ℕ} {u v : Value} → k ≡ 17 → q ≡ first s
        → ((e : Accepted (part 4 n s)) → u ≡ evaluate (view c w) e.tree) → ((e : Accepted (part (4 + q) n s)) → v ≡ evaluate (view c w) e.tree)
        → (a : GoodSimple s) → pay_values c.accounts u v w ≡ perform c a.tree m
    transfer_does i e g h a =
        let p = laws.transfer-tree (long_is s long) a (kind_is s was i) _ e in
        rw (p.is, perform-transfer c m is _ _ _ _ (g p.account) (h p.amount))

    pub require_does : {v : Value} → k ≡ 18 → ((e : Accepted (part 4 n s)) → v ≡ evaluate (view c w) e.tree)
        → (a : GoodSimple s) → demand_value 25 25 v w ≡ perform c a.tree m
    require_does i h a = let p = laws.require-tree (long_is s long) a (kind_is s was i) in rw (p.is, perform-require c m is _ _ (h p.child))

    pub return_does : {v : Value} → k ≡ 19 → ((e : Accepted (part 4 n s)) → v ≡ evaluate (view c w) e.tree)
        → (a : GoodSimple s) → answer_value v w ≡ perform c a.tree m
    return_does i h a = let p = laws.return-tree (long_is s long) a (kind_is s was i) in rw (p.is, perform-return c m is _ _ (h p.child))

-- the charge was refused: what the exit of its `?` returns
module _ (c : Setting) (m w : Machine) (e : Stop) (refused : stopped_by e w ≡ charge c.limit m) where
  out : charge c.limit m ≡ stopped_by e w
  out = sym refused

  pub perform_stops : {s : List ℕ} (r : Result (Unit {0}) Stop) → IsErrAnd r (λ y. y ≡ e) → (a : GoodSimple s) → ran r w ≡ perform c a.tree m
  perform_stops r h a = ran_err e r w h ∙ sym (perform-ends c m e w out a.tree)

  pub guard_stops : {s : List ℕ} (r : Result (Unit {0}) Stop) → IsErrAnd r (λ y. y ≡ e) → (a : Accepted s) → ran r w ≡ guarded c a.tree m
  guard_stops r h a = ran_err e r w h ∙ sym (guarded-ends c m e w out a.tree)

  pub condition_stops : {s : List ℕ} (r : Result Bool Stop) → IsErrAnd r (λ y. y ≡ e) → (a : Accepted s) → ran r w ≡ condition c a.tree m
  condition_stops r h a = ran_err e r w h ∙ sym (condition-ends c m e w out a.tree)

-- What a statement's parts keep of the machine that a run asks for, and what a turn of a loop costs.
use Rattle.std.proofs.Common.{◌≡◌, ℕ, ◌-◌, ◌<◌, Bool, List, arith, sym, subst}
use Rattle.std.specs.Prelude.{Ok}
use Rattle.rules.specs.declared.Machine.{Machine}
use Rattle.rules.specs.declared.Setting.{Setting}
use Rattle.rules.specs.Syntax.{Expr}
use Rattle.rules.specs.Running.{going, perform, condition, statement}
use Rattle.forms.proofs.Units.{goes, Costs, condition-costs}
use Rattle.records.specs.Acceptance.{Accepted, GoodSimple, Good}
use Rattle.machine.specs.Runs.{Funded}
use Rattle.machine.proofs.Keeping.{Kept, kept_on, still-funded, ran-keeps, perform-keeps, condition-keeps, statement-keeps}

-- a condition that goes on has cost a unit that was left
tested_costs : (c : Setting) (w v : Machine) (e : Expr) (b : Bool) → going b v ≡ condition c e w → (w.units < c.limit) × (w.units < v.units)
tested_costs c w v e b is = let k = subst (Costs c 1 goes w) (sym is) (condition-costs c e w) in (omega (arith, k.1), omega (arith, k.1))

module _ (c : Setting) {o w : Machine} (kept : Kept c.limit o w) (has : Funded c.accounts o) where
  pub performed_kept : {v : Machine} {s : List ℕ} → ((x : GoodSimple s) → going tt v ≡ perform c x.tree w) → GoodSimple s → Kept c.limit o v
  performed_kept is x = kept_on kept (ran-keeps (Ok tt) _ (is x) (perform-keeps c x.tree w (still-funded kept has).room))

  pub ran_kept : {v : Machine} {s : List ℕ} → ((k : Good s) → going tt v ≡ statement c k.tree w) → Good s → Kept c.limit o v
  ran_kept is k = kept_on kept (ran-keeps (Ok tt) _ (is k) (statement-keeps c k.tree w (still-funded kept has).room))

  -- a condition, whose run ended on v
  module _ {v : Machine} {s : List ℕ} {b : Bool} (is : (a : Accepted s) → going b v ≡ condition c a.tree w) (a : Accepted s) where
    pub tested_kept : Kept c.limit o v
    tested_kept = kept_on kept (ran-keeps (Ok b) _ (is a) (condition-keeps c a.tree w (still-funded kept has).room))

    -- the body ran on it, and then a for's closing set
    module _ {u : Machine} {t : List ℕ} (on : (k : Good t) → going tt u ≡ statement c k.tree v) (k : Good t) where
      ran : Kept c.limit v u
      ran = ran-keeps (Ok tt) _ (on k) (statement-keeps c k.tree v (still-funded tested_kept has).room)

      pub turn_kept : Kept c.limit o u
      turn_kept = kept_on tested_kept ran

      pub turn_less : c.limit - u.units < c.limit - w.units
      turn_less = let k = tested_costs c w v a.tree b (is a) in omega (arith, k.0, k.1, ran.units)

      module _ {z : Machine} {y : List ℕ} (closed : (x : GoodSimple y) → going tt z ≡ perform c x.tree u) (x : GoodSimple y) where
        close : Kept c.limit u z
        close = ran-keeps (Ok tt) _ (closed x) (perform-keeps c x.tree u (still-funded turn_kept has).room)

        pub closed_kept : Kept c.limit o z
        closed_kept = kept_on turn_kept close

        pub closed_less : c.limit - z.units < c.limit - w.units
        closed_less = omega (arith, turn_less, close.units)

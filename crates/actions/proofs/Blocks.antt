-- Statements in a row: those that are left after the first.
use Rattle.std.proofs.Common.{◌≡◌, ℕ, ◌+◌, ◌≤◌, ◌<◌, Bool, true, false, leb, List, length, refl, sym, ◌∙◌, arith}
use borrow.Author.Tests.{leb-true, leb-false}
use Rattle.rules.specs.declared.Machine.{Machine}
use Rattle.rules.specs.declared.Setting.{Setting}
use Rattle.rules.specs.Syntax.{Stmt, Stmts, last, ◌then◌}
use Rattle.rules.specs.Running.{Run, going, statement, statements}
use Rattle.records.specs.Checking.{from}
use Rattle.records.specs.Acceptance.{Good, GoodAll}
use Rattle.records.proofs.GoodBlocks.{Turn, turn}
use Rattle.machine.specs.declared.Stop.{Stop}
use Rattle.machine.specs.Runs.{stopped_by}
use Rattle.machine.proofs.Runs.{after_stop}
use Rattle.actions.proofs.Fields.{long_is}
use Rattle.actions.proofs.Operations.{size}

-- what is left of a run x of the statements in s, from i on and from the machine w: nothing, or the statements that are left
pub data Rest (c : Setting) (s : List ℕ) (i : ℕ) (w : Machine) (x : Run (Unit {0})) : Type 0 where
  over : length s ≤ i → x ≡ going tt w → Rest c s i w x
  left : (b : GoodAll (from i s)) → x ≡ statements c b.tree w → Rest c s i w x

last_is : (c : Setting) (w : Machine) {ss : Stmts} {s : Stmt} → ss ≡ last s → statements c ss w ≡ statement c s w
unfolding statements
last_is c w e = rw e

first_is : (c : Setting) (w : Machine) {v : Machine} {ss others : Stmts} {s : Stmt} → ss ≡ s then others → going tt v ≡ statement c s w
    → statements c ss w ≡ statements c others v
unfolding statements
first_is c w e h = rw (e, ← h)

stop_is : (x : Stop) (c : Setting) (w v : Machine) {ss others : Stmts} {s : Stmt} → ss ≡ s then others → stopped_by x v ≡ statement c s w
    → stopped_by x v ≡ statements c ss w
unfolding statements
stop_is x c w v e h = rw (e, ← h) (sym (after_stop x v _))

-- there is a statement at i
pub rest_good : {c : Setting} {s : List ℕ} {i : ℕ} {w : Machine} {x : Run (Unit {0})} → i < length s → Rest c s i w x
    → (b : GoodAll (from i s)) × (x ≡ statements c b.tree w)
rest_good h (over e is) = absurd (omega arith)
rest_good h (left b is) = (b, is)

-- there is none
pub rest_over : {c : Setting} {s : List ℕ} {i : ℕ} {w : Machine} {x : Run (Unit {0})} → length s ≤ i → Rest c s i w x → x ≡ going tt w
rest_over h (over e is) = is
rest_over {s = s} {i} h (left b is) = let t = turn i _ s refl b in absurd (omega (arith, t.low, t.fits))

module _ (c : Setting) (s : List ℕ) (i : ℕ) (w v : Machine) (b : GoodAll (from i s)) where
  -- the first statement ran
  pub turn_rest : {q : ℕ} → q ≡ size (from i s) → ((p : Good (from i s)) → going tt v ≡ statement c p.tree w) → Rest c s (i + q) v (statements c b.tree w)
  turn_rest {q} e h = go (leb (length s) (i + q)) refl
    where
      t : Turn i q s b.at b.tree
      t = turn i q s (long_is _ e) b

      go : (n : Bool) → leb (length s) (i + q) ≡ n → Rest c s (i + q) v (statements c b.tree w)
      go true n =
          let k : length s ≤ i + q = leb-true _ _ n in
          over k (last_is c w (t.ends k) ∙ sym (h t.first))
      go false n = let g = t.goes (leb-false _ _ n) in left g.0 (first_is c w g.2 (h t.first))

  -- it stopped, and ends them all
  pub turn_stops : (e : Stop) → ((p : Good (from i s)) → stopped_by e v ≡ statement c p.tree w) → stopped_by e v ≡ statements c b.tree w
  turn_stops e h = go (leb (length s) (i + size (from i s))) refl
    where
      t : Turn i (size (from i s)) s b.at b.tree
      t = turn i _ s (long_is _ refl) b

      go : (n : Bool) → leb (length s) (i + size (from i s)) ≡ n → stopped_by e v ≡ statements c b.tree w
      go true n = h t.first ∙ sym (last_is c w (t.ends (leb-true _ _ n)))
      go false n = stop_is e c w v (t.goes (leb-false _ _ n)).2 (h t.first)

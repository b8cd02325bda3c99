-- The first step that leaves a node, and where it stands.
use Prim.Native.Nat.{ℕ, suc, ◌+◌, ◌≤◌}
use mathlib.Core.Path.{◌≡◌, refl, ◌∙◌}
use mathlib.Core.Bool.{Bool, true, false}
use mathlib.Core.List.{List, [], ◌∷◌}
use mathlib.Core.Option.{none, some}
use native.Mathlib.Omega.{arith}
use lib.Dec.{eqb}
use lib.ListN.{drop}
use borrow.Author.Tests.{eqb-true}
use Rattle.rules.specs.Basics.{find}
use Rattle.rules.specs.Syntax.{Expr, Simple}
use Rattle.rules.specs.Reading.{expr_at, simple_at}
use Rattle.rules.specs.Expanding.{Step, step}
use Rattle.rules.specs.Stepping.{leaving, step_from}
use Rattle.walker.specs.Tables.{place_from}
use Rattle.walker.proofs.Shape.{Shaped, end, guard, one, two}

module _ (file : List ℕ) (vars : ℕ) where
  -- what stands at the place of the first step that leaves a node: a guard, a statement, or a condition with its two steps
  pub data Leaving (l : List Step) (n k : ℕ) : Type 0 where
    guarding : (s : Step) → drop k l ≡ s ∷ drop (suc k) l → leaving l n ≡ some s → s.kind ≡ 1 → Leaving l n k
    performing : (s : Step) (x : Simple) → drop k l ≡ s ∷ drop (suc k) l → leaving l n ≡ some s → 4 ≤ s.kind → simple_at file vars s.at ≡ some x → Leaving l n k
    deciding : (o y z at : ℕ) (e : Expr) → o ≡ n → drop k l ≡ step o y 2 0 at ∷ drop (suc k) l → drop (suc k) l ≡ step o z 3 0 at ∷ drop (suc (suc k)) l
        → leaving l n ≡ some (step o y 2 0 at) → step_from l n 2 ≡ some (step o y 2 0 at) → step_from l n 3 ≡ some (step o z 3 0 at)
        → expr_at file vars at ≡ some e → Leaving l n k

  -- no step leaves the node, or the first that does stands k places on
  pub data Looked (i : ℕ) (l : List Step) (n : ℕ) : Type 0 where
    nowhere : place_from i l n ≡ 0 → leaving l n ≡ none → Looked i l n
    there : (k : ℕ) → place_from i l n ≡ suc (i + k) → Leaving l n k → Looked i l n

  module _ (s : Step) (l : List Step) (n : ℕ) (other : eqb s.origin n ≡ false) where
    leaving-other : leaving (s ∷ l) n ≡ leaving l n
    unfolding leaving find
    leaving-other = rw other

    from-other : (k : ℕ) → step_from (s ∷ l) n k ≡ step_from l n k
    unfolding step_from find
    from-other k = rw other

    deeper : (k : ℕ) → Leaving l n k → Leaving (s ∷ l) n (suc k)
    deeper k (guarding t d v q) = guarding t d (leaving-other ∙ v) q
    deeper k (performing t x d v q r) = performing t x d (leaving-other ∙ v) q r
    deeper k (deciding o y z at e same d f v p q r) = deciding o y z at e same d f (leaving-other ∙ v) (from-other 2 ∙ p) (from-other 3 ∙ q) r

    place_other : (i : ℕ) → place_from i (s ∷ l) n ≡ place_from (suc i) l n
    unfolding place_from
    place_other i = rw other

    on : (i : ℕ) → Looked (suc i) l n → Looked i (s ∷ l) n
    on i (nowhere p v) = nowhere (place_other i ∙ p) (leaving-other ∙ v)
    on i (there k p v) = let z : suc (suc i + k) ≡ suc (i + suc k) = omega arith in there (suc k) (place_other i ∙ p ∙ z) (deeper k v)

  module _ (s : Step) (l : List Step) (n : ℕ) (same : eqb s.origin n ≡ true) where
    leaving-same : leaving (s ∷ l) n ≡ some s
    unfolding leaving find
    leaving-same = rw same

    place_same : (i : ℕ) → place_from i (s ∷ l) n ≡ suc (i + 0)
    unfolding place_from
    place_same i = let z : suc i ≡ suc (i + 0) = omega arith in rw same z

  place_none : (i n : ℕ) → place_from i [] n ≡ 0
  unfolding place_from
  place_none i n = refl

  leaving-none : (n : ℕ) → leaving [] n ≡ none
  unfolding leaving find
  leaving-none n = refl

  -- of a condition's two steps
  kind-two : (o y z at n : ℕ) (l : List Step) → eqb o n ≡ true → step_from (step o y 2 0 at ∷ step o z 3 0 at ∷ l) n 2 ≡ some (step o y 2 0 at)
  unfolding step_from find
  kind-two o y z at n l e = rw e

  kind-three : (o y z at n : ℕ) (l : List Step) → eqb o n ≡ true → step_from (step o y 2 0 at ∷ step o z 3 0 at ∷ l) n 3 ≡ some (step o z 3 0 at)
  unfolding step_from find
  kind-three o y z at n l e = rw e

  pub looked : (i : ℕ) {l : List Step} → Shaped file vars l → (n : ℕ) → Looked i l n
  looked i end n = nowhere (place_none i n) (leaving-none n)
  looked i (guard {s = s} {l = l} e q r h) n = go (eqb s.origin n) refl (looked (suc i) h n)
    where
      go : (b : Bool) → eqb s.origin n ≡ b → Looked (suc i) l n → Looked i (s ∷ l) n
      go true p w = there 0 (place_same s l n p i) (guarding s refl (leaving-same s l n p) q)
      go false p w = on s l n p i w
  looked i (one {s = s} {l = l} x q r h) n = go (eqb s.origin n) refl (looked (suc i) h n)
    where
      go : (b : Bool) → eqb s.origin n ≡ b → Looked (suc i) l n → Looked i (s ∷ l) n
      go true p w = there 0 (place_same s l n p i) (performing s x refl (leaving-same s l n p) q r)
      go false p w = on s l n p i w
  looked i (two {o = o} {y = y} {z = z} {at = at} {l = l} e r h) n = go (eqb o n) refl (looked (suc (suc i)) h n)
    where
      go : (b : Bool) → eqb o n ≡ b → Looked (suc (suc i)) l n → Looked i (step o y 2 0 at ∷ step o z 3 0 at ∷ l) n
      go true p w =
          there 0 (place_same (step o y 2 0 at) (step o z 3 0 at ∷ l) n p i)
          (deciding o y z at e (eqb-true o n p) refl refl (leaving-same (step o y 2 0 at) (step o z 3 0 at ∷ l) n p) (kind-two o y z at n l p) (kind-three o y z at n l p) r)
      go false p w = on (step o y 2 0 at) (step o z 3 0 at ∷ l) n p i (on (step o z 3 0 at) l n p (suc i) w)

-- The number of steps of each form of statement. It does not depend on the nodes that the steps join.
use Prim.Native.Nat.{ℕ, suc, ◌+◌}
use mathlib.Core.Path.{◌≡◌, refl, sym, ap, ap₂, ◌∙◌}
use mathlib.Core.List.{[], ◌∷◌}
use native.Mathlib.Omega.{arith}
use lib.ListN.{length, length-append}
use Rattle.rules.specs.Syntax.{Expr, Simple, Stmt, simple, block, if_then, if_else, while, for, Stmts, last, ◌then◌}
use Rattle.rules.specs.Expanding.{made, joints, step_of, expand, expand_all}
use Rattle.records.specs.Counting.{step_count}

-- the number by the form
unfoldable mutual
  steps : Stmt → ℕ
  steps (simple at x) = 1
  steps (block ss) = steps_all ss
  steps (if_then at c s) = suc (suc (steps s))
  steps (if_else at c s t) = suc (suc (steps s + steps t))
  steps (while at c s) = suc (suc (steps s))
  steps (for a i at c b k s) = suc (suc (suc (steps s + 1)))

  steps_all : Stmts → ℕ
  steps_all (last s) = steps s
  steps_all (s then ss) = steps s + steps_all ss

mutual
  unfolding expand expand_all steps steps_all

  long : (s : Stmt) (o d r n : ℕ) → length (expand s o d r n) ≡ steps s
  long (simple at x) o d r n = refl
  long (block ss) o d r n = longs ss o n d r (n + joints ss)
  long (if_then at c s) o d r n = ap (λ (k : ℕ). suc (suc k)) (long s n d r (n + 1))
  long (if_else at c s t) o d r n =
      ap (λ (k : ℕ). suc (suc k))
      (length-append (expand s n d r (n + 2)) (expand t (n + 1) d r (n + 2 + made s)) ∙ ap₂ (λ (a b : ℕ). a + b) (long s n d r (n + 2)) (long t (n + 1) d r (n + 2 + made s)))
  long (while at c s) o d r n = ap (λ (k : ℕ). suc (suc k)) (long s n o r (n + 1))
  long (for a i at c b k s) o d r n =
      ap (λ (k : ℕ). suc (suc (suc k)))
      (length-append (expand s (n + 1) (n + 2) r (n + 3)) (step_of b k (n + 2) n r ∷ []) ∙ ap (λ (k : ℕ). k + 1) (long s (n + 1) (n + 2) r (n + 3)))

  longs : (ss : Stmts) (o j d r n : ℕ) → length (expand_all ss o j d r n) ≡ steps_all ss
  longs (last s) o j d r n = long s o d r n
  longs (s then ss) o j d r n =
      length-append (expand s o j r n) (expand_all ss j (j + 1) d r (n + made s)) ∙ ap₂ (λ (a b : ℕ). a + b) (long s o j r n) (longs ss j (j + 1) d r (n + made s))

count-is : (s : Stmt) → step_count s ≡ steps s
unfolding step_count
count-is s = long s 0 0 0 0

-- an expansion between any nodes is as long as the count says
pub expand-length : (s : Stmt) (o d r n : ℕ) → length (expand s o d r n) ≡ step_count s
expand-length s o d r n = long s o d r n ∙ sym (count-is s)

pub count-simple : (at : ℕ) (x : Simple) → step_count (simple at x) ≡ 1
unfolding steps
count-simple at x = count-is (simple at x)

pub count-last : (s : Stmt) → step_count (block (last s)) ≡ step_count s
unfolding steps steps_all
count-last s = count-is (block (last s)) ∙ sym (count-is s)

pub count-more : (s : Stmt) (ss : Stmts) → step_count (block (s then ss)) ≡ step_count s + step_count (block ss)
unfolding steps steps_all
count-more s ss = omega (arith, count-is (block (s then ss)), count-is s, count-is (block ss))

pub count-if : (at : ℕ) (c : Expr) (s : Stmt) → step_count (if_then at c s) ≡ 2 + step_count s
unfolding steps
count-if at c s = omega (arith, count-is (if_then at c s), count-is s)

pub count-while : (at : ℕ) (c : Expr) (s : Stmt) → step_count (while at c s) ≡ 2 + step_count s
unfolding steps
count-while at c s = omega (arith, count-is (while at c s), count-is s)

pub count-else : (at : ℕ) (c : Expr) (s t : Stmt) → step_count (if_else at c s t) ≡ 2 + step_count s + step_count t
unfolding steps
count-else at c s t = omega (arith, count-is (if_else at c s t), count-is s, count-is t)

pub count-for : (a : ℕ) (i : Simple) (at : ℕ) (c : Expr) (b : ℕ) (k : Simple) (s : Stmt) → step_count (for a i at c b k s) ≡ 4 + step_count s
unfolding steps
count-for a i at c b k s = omega (arith, count-is (for a i at c b k s), count-is s)

-- Sums of lists.
use Rattle.std.proofs.Common.{◌≡◌, ℕ, suc, ◌*◌, ◌≤◌, List, [], ◌∷◌, length, get_or, refl, sym, arith}
use Rattle.std.specs.List.{sum_by}
use Rattle.std.proofs.lemmas.List.Recursion.{is_sum_by}
use Rattle.rules.specs.Basics.{sum}

pub sum-bound : (l : List ℕ) (top : ℕ) → ((i : ℕ) → get_or l i 0 ≤ top) → sum l ≤ length l * top
unfolding sum
sum-bound [] top h = omega arith
sum-bound (x ∷ l) top h = let e = sum-bound l top (λ i. h (suc i)) in let f = h 0 in omega arith

-- std's sum is the definitions'
pub sum_by-same : (l : List ℕ) → sum_by (λ x. x) l ≡ sum l
unfolding sum
sum_by-same l = sym (is_sum_by sum (λ x. x) refl (λ _ _. refl) l)

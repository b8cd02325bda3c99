-- The opening balances of an agreement, by their places.
use Prim.Native.Nat.{ℕ, zero, suc, ◌+◌, ◌-◌, ◌*◌, ◌≤◌, ◌<◌}
use mathlib.Core.Path.{◌≡◌, sym, ap, ◌∙◌}
use mathlib.Core.Logic.{◌⊎◌, inl, inr}
use mathlib.Core.List.{List, ◌++◌}
use native.Mathlib.Omega.{arith}
use lib.ListN.{length, get_or, get_or-append, take, drop, replicate, length-append, length-replicate}
use Rattle.std.proofs.lemmas.Bool.{cases_lt}
use Rattle.std.proofs.lemmas.Grind.{same_number_lists}
use Rattle.std.proofs.lemmas.List.{get_or-replicate}
use lib.Seq.{get_or-append_right}
use Rattle.rules.specs.Basics.{padded, number}
use Rattle.grammar.specs.Numbers.{numbers_at}
use Rattle.grammar.proofs.Agreements.{numbers-length}

numbers-at : (k b i : ℕ) (s : List ℕ) → i < k → get_or (numbers_at k b s) i 0 ≡ number (take 4 (drop (b + 4 * i) s))
unfolding numbers_at
numbers-at zero b i s l = absurd (omega arith)
numbers-at (suc k) b zero s l = let z : b ≡ b + 4 * 0 = omega arith in ap (λ (j : ℕ). number (take 4 (drop j s))) z
numbers-at (suc k) b (suc i) s l =
    let z : b + 4 + 4 * i ≡ b + 4 * suc i = omega arith in
    numbers-at k (b + 4) i s (omega arith) ∙ ap (λ (j : ℕ). number (take 4 (drop j s))) z

-- the i-th of them, then zeros
abbrev pub Balance : (n : ℕ) (s : List ℕ) (i y : ℕ) → Type 0
Balance n s i y = (i < n → y ≡ number (take 4 (drop (16 + 4 * i) s))) × (n ≤ i → y ≡ 0)

pub balances-are : (n : ℕ) (s ys : List ℕ) → n ≤ 8 → length ys ≡ 8
    → ((i : ℕ) → i < 8 → Balance n s i (get_or ys i 0)) → ys ≡ padded 8 (numbers_at n 16 s)
unfolding padded
balances-are n s ys few long h =
    same_number_lists ys (xs ++ replicate (8 - length xs) 0) (omega (arith, l, m)) (λ i less. at i (omega arith) (cases_lt i n))
  where
    xs : List ℕ
    xs = numbers_at n 16 s

    l : length xs ≡ n
    l = numbers-length n 16 s

    m : length (xs ++ replicate (8 - length xs) 0) ≡ length xs + (8 - length xs)
    m = length-append xs (replicate (8 - length xs) 0) ∙ ap (λ k. length xs + k) (length-replicate (8 - length xs) 0)

    at : (i : ℕ) → i < 8 → (i < n) ⊎ (n ≤ i) → get_or ys i 0 ≡ get_or (xs ++ replicate (8 - length xs) 0) i 0
    at i less (inl k) = (h i less).0 k ∙ sym (get_or-append xs _ 0 i (omega (arith, l)) ∙ numbers-at n 16 i s k)
    at i less (inr k) =
        (h i less).1 k
        ∙ sym (get_or-append_right xs _ i 0 (omega (arith, l)) ∙ get_or-replicate (8 - length xs) (i - length xs) 0 0 (omega (arith, l)))

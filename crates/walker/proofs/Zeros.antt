-- Places in an array with zeros behind them: one more keeps the zeros.
use Prim.Native.Nat.{ℕ, suc, ◌+◌, ◌-◌, ◌<◌}
use mathlib.Core.Path.{◌≡◌, refl, sym, ap, ap₂, ◌∙◌}
use mathlib.Core.List.{List, [], ◌∷◌, ◌++◌}
use native.Mathlib.Omega.{arith}
use native.Mathlib.Numerals.{add-one}
use lib.ListN.{length, take, drop, set, replicate, length-append}
use lib.Seq.{append_snoc, set_split, drop_at, drop-drop}
use Rattle.std.proofs.lemmas.Grind.{take-set_at}
use Rattle.rules.specs.Basics.{padded}
use Rattle.walker.specs.Entries.{ZerosBehind}

abbrev zeros : ℕ → List ℕ
zeros n = replicate n 0

pub none-yet : ZerosBehind 0 (zeros 1024)
unfolding padded
none-yet = record { fits = omega arith; counts = refl; zeros = refl }

-- one zero fewer
fewer : (n k : ℕ) → n ≡ suc k → drop 1 (zeros n) ≡ zeros k
fewer n k e = rw e refl

module _ {n : ℕ} {xs : List ℕ} (h : ZerosBehind n xs) (full : length xs ≡ 1024) where
  behind : drop n xs ≡ zeros (1024 - n)
  unfolding padded
  behind =
      ap (drop n) (sym h.zeros) ∙ drop_at (take n xs) (zeros (1024 - length (take n xs))) n h.counts ∙ ap (λ k. zeros (1024 - k)) h.counts

  module _ (x : ℕ) (room : n < 1024) where
    -- a place put behind those that are there
    pub one-more : ZerosBehind (n + 1) (set xs n x)
    unfolding padded
    one-more =
        let low : n < length xs = omega (arith, full) in
        let front : take (n + 1) (set xs n x) ≡ take n xs ++ x ∷ [] = take-set_at xs n (n + 1) x refl low in
        let shown : length (take (n + 1) (set xs n x)) ≡ n + 1 = ap length front ∙ length-append (take n xs) (x ∷ []) ∙ ap (λ k. k + 1) h.counts in
        let k = 1024 - length (take (n + 1) (set xs n x)) in
        let left : 1024 - n ≡ suc k = omega (arith, shown) in
        let rest : drop (suc n) xs ≡ zeros k =
        ap (λ k. drop k xs) (sym (add-one n)) ∙ sym (drop-drop 1 n xs) ∙ ap (drop 1) behind ∙ fewer (1024 - n) k left in
        record {
          fits = omega arith;
          counts = shown;
          zeros =
              sym (set_split xs n x low ∙ sym (append_snoc (take n xs) x (drop (suc n) xs)) ∙ ap₂ (λ (a b : List ℕ). a ++ b) (sym front) rest);
        }

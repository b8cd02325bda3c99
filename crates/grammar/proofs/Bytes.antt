-- Laws of bytes: the numbers in them, how many there are, parts of them, and the record that they begin with.
use Prim.Native.Nat.{ℕ, zero, suc, ◌+◌, ◌-◌, ◌≤◌}
use mathlib.Core.Path.{◌≡◌, refl, sym, ap, ◌∙◌}
use mathlib.Core.Bool.{true, ◌&&◌, false≢true}
use mathlib.Core.List.{List, [], ◌∷◌}
use native.Mathlib.Omega.{arith}
use lib.Dec.{leb}
use lib.ListN.{length, get_or, take, drop, length-take, length-drop}
use lib.Seq.{drop-drop, take_all, take-take, take-nil}
use borrow.Author.Tests.{leb-true, le-leb}
use Rattle.rules.specs.Basics.{has, part, number}
use Rattle.rules.specs.Reading.{size_of, kind_of, whole}
use Rattle.laws.proofs.Basics.{both-true}

-- ---- numbers

pub number-one : (s : List ℕ) (i : ℕ) → number (take 1 (drop i s)) ≡ get_or s i 0
unfolding number
number-one [] zero = refl
number-one [] (suc i) = refl
number-one (b ∷ s) zero = omega arith
number-one (b ∷ s) (suc i) = number-one s i

-- ---- how many bytes there are

pub has_all : (n : ℕ) (s : List ℕ) → n ≤ length s → has n s ≡ true
unfolding has
has_all zero s h = refl
has_all (suc n) [] h = absurd (omega arith)
has_all (suc n) (b ∷ s) h = has_all n s (omega arith)

pub has-length : (n : ℕ) (s : List ℕ) → has n s ≡ true → n ≤ length s
unfolding has
has-length zero s h = omega arith
has-length (suc n) [] h = absurd (false≢true h)
has-length (suc n) (b ∷ s) h = omega (arith, has-length n s h)

pub part_length : (i n : ℕ) (s : List ℕ) → n ≤ length s → length (part i n s) ≡ n - i
part_length i n s h = simp (length-take, length-drop) (omega arith)

pub drop-take : (k m : ℕ) (s : List ℕ) → drop k (take m s) ≡ take (m - k) (drop k s)
drop-take zero m s = let z : m - 0 ≡ m = omega arith in rw z
drop-take (suc k) zero s = let z : 0 - suc k ≡ 0 = omega arith in rw z
drop-take (suc k) (suc m) [] = sym (take-nil (suc m - suc k))
drop-take (suc k) (suc m) (b ∷ s) = let z : suc m - suc k ≡ m - k = omega arith in drop-take k m s ∙ rw z

-- what is left of a part
pub part-drop : (i n k : ℕ) (s : List ℕ) → drop k (part i n s) ≡ part (i + k) n s
part-drop i n k s =
    let z : n - i - k ≡ n - (i + k) = omega arith in
    drop-take k (n - i) (drop i s) ∙ rw (drop-drop k i s, z)

-- a number in a part
pub part-number : (i n k : ℕ) (s : List ℕ) → i + k ≤ n → number (take k (part i n s)) ≡ number (take k (drop i s))
part-number i n k s h = let z : k ≤ n - i = omega arith in ap number (take-take k (n - i) (drop i s) z)

-- ---- the record that bytes begin with

-- a whole record: n is its length
pub record Whole (s : List ℕ) (n : ℕ) : Type 0 where
  pub is : whole s ≡ true
  pub size : size_of s ≡ n
  pub low : 4 ≤ n
  pub high : n ≤ length s

pub whole-record : (s : List ℕ) → whole s ≡ true → Whole s (size_of s)
unfolding whole
whole-record s h =
    let p = both-true (has 4 s && leb 4 (size_of s)) (has (size_of s) s) h in
    let q = both-true (has 4 s) (leb 4 (size_of s)) p.0 in
    record { is = h; size = refl; low = leb-true _ _ q.1; high = has-length _ _ p.1 }

pub is_whole : (s : List ℕ) (n : ℕ) → size_of s ≡ n → 4 ≤ n → n ≤ length s → whole s ≡ true
unfolding whole
is_whole s n e l h =
    let p : 4 ≤ length s = omega arith in
    rw (e, has_all 4 s p, le-leb 4 n l, has_all n s h)

-- ---- a record in a part of a file

module _ (i q : ℕ) (s : List ℕ) where
  pub part-body : part 4 q (drop i s) ≡ part (i + 4) (i + q) s
  part-body = let z : i + q - (i + 4) ≡ q - 4 = omega arith in rw (z, drop-drop 4 i s)

  module _ (e : ℕ) where
    pub part-inner : i + q ≤ e → part 4 q (part i e s) ≡ part (i + 4) (i + q) s
    part-inner h =
        let z : i + q - (i + 4) ≡ q - 4 = omega arith in
        let w : q - 4 ≤ e - (i + 4) = omega arith in
        ap (take (q - 4)) (part-drop i e 4 s) ∙ take-take (q - 4) (e - (i + 4)) (drop (i + 4) s) w ∙ rw z

module _ (i e : ℕ) (s : List ℕ) (h : i + 4 ≤ e) where
  pub size-part : size_of (part i e s) ≡ size_of (drop i s)
  unfolding size_of
  size-part = part-number i e 2 s (omega arith)

  pub kind-part : kind_of (part i e s) ≡ kind_of (drop i s)
  unfolding kind_of
  kind-part =
      ap (λ (t : List ℕ). number (take 2 t)) (part-drop i e 2 s) ∙ part-number (i + 2) e 2 s (omega arith)
      ∙ ap (λ (t : List ℕ). number (take 2 t)) (sym (drop-drop 2 i s))

-- bytes up to a list's end are all that follow
pub part-all : (i : ℕ) (s : List ℕ) → part i (length s) s ≡ drop i s
part-all i s = take_all (length s - i) (drop i s) (omega (arith, length-drop i s))

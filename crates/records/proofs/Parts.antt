-- Laws of bytes as the check sees them: the numbers in them, what is left from an offset on, and the record that they begin with.
use Prim.Native.Nat.{ℕ, zero, suc, ◌+◌, ◌-◌, ◌*◌, ◌≤◌, ◌<◌}
use mathlib.Core.Path.{◌≡◌, refl, sym, ap, subst, ◌∙◌}
use mathlib.Core.Bool.{true, false}
use mathlib.Core.List.{List, [], ◌∷◌}
use native.Mathlib.Omega.{arith}
use native.Mathlib.Numerals.{add-one}
use lib.ListN.{length, get_or, take, drop, length-drop}
use lib.Seq.{drop-cons, drop-drop}
use Rattle.rules.specs.Basics.{has, number}
use Rattle.rules.specs.Reading.{is_empty, size_of, whole}
use Rattle.std.specs.Prelude.{Option, Some, None}
use Rattle.laws.proofs.Basics.{if-cases}
use Rattle.grammar.proofs.Bytes.{Whole, whole-record, is_whole, part-all}
use Rattle.records.specs.Checking.{length_of, from}

-- ---- numbers

pub number-two : (s : List ℕ) (i : ℕ) → i + 2 ≤ length s → number (take 2 (drop i s)) ≡ get_or s i 0 + 256 * get_or s (i + 1) 0
unfolding number
number-two s i h =
    let p : i < length s = omega arith in
    let q : suc i < length s = omega arith in
    rw (drop-cons s i 0 p, drop-cons s (suc i) 0 q, add-one) (omega arith)

pub number-four : (s : List ℕ) (i : ℕ) → i + 4 ≤ length s → number (take 4 (drop i s)) ≡ number (take 2 (drop i s)) + 65536 * number (take 2 (drop (i + 2) s))
unfolding number
number-four s i h =
    let p : i < length s = omega arith in
    let q : suc i < length s = omega arith in
    let r : suc (suc i) < length s = omega arith in
    let t : suc (suc (suc i)) < length s = omega arith in
    let e : i + 2 ≡ suc (suc i) = omega arith in
    rw (e, drop-cons s i 0 p, drop-cons s (suc i) 0 q, drop-cons s (suc (suc i)) 0 r, drop-cons s (suc (suc (suc i))) 0 t) (omega arith)

-- ---- how many bytes there are

pub has-few : (n : ℕ) (s : List ℕ) → length s < n → has n s ≡ false
unfolding has
has-few zero s h = absurd (omega arith)
has-few (suc n) [] h = refl
has-few (suc n) (b ∷ s) h = has-few n s (omega arith)

pub from-length : (i : ℕ) (s : List ℕ) → length (from i s) ≡ length s - i
from-length i s = ap length (part-all i s) ∙ length-drop i s

-- what is left from i on, and from there on
pub from-from : (i k : ℕ) (s : List ℕ) → drop k (from i s) ≡ from (i + k) s
from-from i k s = rw (part-all, part-all) (drop-drop k i s)

pub empty : (s : List ℕ) → length s ≡ 0 → is_empty s ≡ true
unfolding is_empty
empty [] h = refl
empty (b ∷ s) h = absurd (omega arith)

pub not-empty : (s : List ℕ) → 0 < length s → is_empty s ≡ false
unfolding is_empty
not-empty [] h = absurd (omega arith)
not-empty (b ∷ s) h = refl

-- ---- the record that bytes begin with

-- the length that the check goes by
pub long : (s : List ℕ) {n : ℕ} → length_of s ≡ Some n → Whole s n
unfolding length_of
long s {n} = if-cases (λ o. o ≡ Some n → Whole s n) (whole s) (λ w e. let z : size_of s ≡ n = cc in subst (Whole s) z (whole-record s w)) (λ w e. cc)

pub short : (s : List ℕ) → length_of s ≡ None → whole s ≡ false
unfolding length_of
short s = if-cases (λ o. o ≡ None → whole s ≡ false) (whole s) (λ w e. cc) (λ w e. w)

-- and how it is found
pub length_none : (s : List ℕ) → (whole s ≡ true → ⊥) → None ≡ length_of s
unfolding length_of
length_none s h = if-cases (λ (o : Option ℕ). None ≡ o) (whole s) (λ w. absurd (h w)) (λ _. refl)

pub length_some : (s : List ℕ) (n : ℕ) → n ≡ size_of s → 4 ≤ n → n ≤ length s → Some n ≡ length_of s
unfolding length_of
length_some s n e l h = rw (is_whole s n (sym e) l h) (ap Some e)

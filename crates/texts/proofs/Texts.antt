-- Putting one text behind another, and the digits of a number.
use Rattle.std.specs.Prelude.{if◌then◌else◌}
use Prim.Native.Nat.{ℕ, zero, suc, ◌+◌, ◌-◌, ◌*◌, ◌/◌, ◌%◌, ◌^◌, ◌≤◌, ◌<◌}
use mathlib.Core.Path.{◌≡◌, refl, sym, ap, ap₂, subst, ◌∙◌}
use mathlib.Core.Bool.{Bool, true, false}
use mathlib.Core.List.{List, [], ◌∷◌, ◌++◌, append_assoc, append-nil}
use lib.ListN.{length, get_or, take, drop, set, replicate, length-append, length-set, length-drop}
use lib.Seq.{append_snoc, set_split, drop_at, length-take-le, take_all, take_at}
use lib.Dec.{ltb}
use borrow.Author.Tests.{lt-ltb, le-ltb}
use native.Mathlib.Nat.{mod-eq_of_lt, pow-suc, mul_comm}
use native.Mathlib.Omega.{arith}
use Rattle.rules.specs.Basics.{joined, each, padded}
use Rattle.rules.specs.Judging.{verdict}
use Rattle.rules.specs.Reporting.{digits, decimal, spaced, rule_line}
use Rattle.access.specs.declared.Layout.{Layout}
use Rattle.access.specs.Trees.{TreeRead}
use Rattle.access.specs.Places.{Laid}
use Rattle.access.proofs.Kept.{laid-of, read-of}
use Rattle.access.proofs.Using.{counts, tree-bounds}
use Rattle.texts.specs.Texts.{Filled}
use borrow.Rule.Slice.PartMut.{put_mid, post_of}

-- the first rows and one more
pub rows_more : (rows : List ℕ) (i : ℕ) → i < length rows
    → joined spaced (take i rows) ++ spaced (get_or rows i 0) ≡ joined spaced (take (suc i) rows)
unfolding joined
rows_more [] i h = absurd (omega arith)
rows_more (r ∷ rows) zero h = sym (append-nil (spaced r))
rows_more (r ∷ rows) (suc i) h =
    append_assoc (spaced r) (joined spaced (take i rows)) (spaced (get_or rows i 0)) ∙ ap (λ (t : List ℕ). spaced r ++ t) (rows_more rows i (omega arith))

-- one line more
pub each_more : (f : ℕ → List ℕ) (i k : ℕ) → each f i k ++ f (i + k) ≡ each f i (suc k)
unfolding each
each_more f i zero = let z : i + 0 ≡ i = omega arith in ap f z ∙ sym (append-nil (f i))
each_more f i (suc k) =
    let z : i + suc k ≡ suc i + k = omega arith in
    append_assoc (f i) (each f (suc i) k) (f (i + suc k))
    ∙ ap (λ (l : List ℕ). f i ++ l) (ap (λ (n : ℕ). each f (suc i) k ++ f n) z ∙ each_more f (suc i) k)

-- ---- the digits of a number

digits_more : (k m : ℕ) → 10 ≤ m → digits (suc k) m ≡ digits k (m / 10) ++ ((48 + m % 10) ∷ [])
unfolding digits
digits_more k m h = rw (le-ltb m 10 h)

digits-one : (k m : ℕ) → m < 10 → digits (suc k) m ≡ (48 + m % 10) ∷ []
unfolding digits
digits-one k m h = rw (lt-ltb m 10 h, mod-eq_of_lt h)

digits-short : (k m : ℕ) → length (digits k m) ≤ k
unfolding digits
digits-short zero m = omega arith
digits-short (suc k) m = go (ltb m 10) (digits-short k (m / 10))
  where
    go : (b : Bool) → length (digits k (m / 10)) ≤ k → length (if b then (48 + m) ∷ [] else digits k (m / 10) ++ ((48 + m % 10) ∷ [])) ≤ suc k
    go true h = omega arith
    go false h = omega (arith, length-append (digits k (m / 10)) ((48 + m % 10) ∷ []))

-- a digit was stored, and those behind it are as they were
stored : (ds : List ℕ) (i d : ℕ) → i < length ds → drop i (set ds i d) ≡ d ∷ drop (suc i) ds
stored ds i d h = ap (drop i) (set_split ds i d h) ∙ drop_at (take i ds) (d ∷ drop (suc i) ds) i (length-take-le i ds (omega arith))

-- the k digits or fewer of what is left of a number, and then those from the k-th on, are the number's
pub record Left (n k m : ℕ) (ds : List ℕ) : Type 0 where
  pub full : length ds ≡ 10
  pub small : m < 10 ^ k
  pub is : decimal n ≡ digits k m ++ drop k ds

pub left-all : (n : ℕ) → n < 2 ^ 32 → Left n 10 n (replicate 10 0)
unfolding decimal
left-all n h = record { full = refl; small = omega arith; is = sym (append-nil (digits 10 n)) }

pub left-none : (n k m : ℕ) {ds : List ℕ} → k ≤ 0 → Left n k m ds → m ≡ 0
left-none n zero m h l = omega (arith, l.small)
left-none n (suc k) m h l = absurd (omega arith)

pub left-more : (n k m d : ℕ) {ds : List ℕ} → 0 < k → k ≤ 10 → 10 ≤ m → d ≡ 48 + m % 10 → Left n k m ds → Left n (k - 1) (m / 10) (set ds (k - 1) d)
left-more n zero m d some less h e l = absurd (omega arith)
left-more n (suc i) m d {ds} some less h e l =
    let here : i < length ds = omega (arith, l.full) in
    let big : m < 10 * 10 ^ i = subst (λ (x : ℕ). m < x) (pow-suc 10 i ∙ mul_comm (10 ^ i) 10) l.small in
    let z : i ≡ suc i - 1 = omega arith in
    subst (λ (k : ℕ). Left n k (m / 10) (set ds k d)) z
    (record {
      full = length-set ds i d ∙ l.full;
      small = omega (arith, big);
      is =
          l.is ∙ ap (λ (x : List ℕ). x ++ drop (suc i) ds) (digits_more i m h)
          ∙ append_snoc (digits i (m / 10)) (48 + m % 10) (drop (suc i) ds)
          ∙ ap (λ (x : ℕ). digits i (m / 10) ++ x ∷ drop (suc i) ds) (sym e)
          ∙ ap (λ (x : List ℕ). digits i (m / 10) ++ x) (sym (stored ds i d here));
    })

-- with the last digit stored, the digits are those from there on
pub left_one : (n k m d : ℕ) {ds : List ℕ} → 0 < k → k ≤ 10 → m < 10 → d ≡ 48 + m % 10 → Left n k m ds
    → take (10 - (k - 1)) (drop (k - 1) (set ds (k - 1) d)) ≡ decimal n
left_one n zero m d some less h e l = absurd (omega arith)
left_one n (suc i) m d {ds} some less h e l =
    let here : i < length ds = omega (arith, l.full) in
    let z : i ≡ suc i - 1 = omega arith in
    subst (λ (k : ℕ). take (10 - k) (drop k (set ds k d)) ≡ decimal n) z
    (take_all (10 - i) (drop i (set ds i d)) (omega (arith, length-drop i (set ds i d), length-set ds i d, l.full))
    ∙ stored ds i d here ∙ ap (λ (x : ℕ). x ∷ drop (suc i) ds) e ∙ sym (l.is ∙ ap (λ (x : List ℕ). x ++ drop (suc i) ds) (digits-one i m h)))

-- ---- a text at the front of zeros

abbrev zeros : ℕ → List ℕ
zeros n = replicate n 0

drop-zeros : (n m : ℕ) → drop n (zeros m) ≡ zeros (m - n)
drop-zeros zero m = let z : m ≡ m - 0 = omega arith in ap zeros z
drop-zeros (suc n) zero = let z : 0 ≡ 0 - suc n = omega arith in ap zeros z
drop-zeros (suc n) (suc m) = let z : m - n ≡ suc m - suc n = omega arith in drop-zeros n m ∙ ap zeros z

pub filled_none : Filled 0 (zeros 1024)
unfolding padded
filled_none = record { fits = omega arith; whole = refl; zeros = refl }

module _ (n : ℕ) (xs text : List ℕ) (f : Filled n xs) (full : length xs ≡ 1024) (room : n + length text ≤ 1024) where
  behind : drop n xs ≡ zeros (1024 - n)
  unfolding padded
  behind =
      let l = length-take-le n xs (omega arith) in
      ap (drop n) f.zeros ∙ drop_at (take n xs) (zeros (1024 - length (take n xs))) n l ∙ ap (λ k. zeros (1024 - k)) l

  -- a text put behind the one that is there
  pub filled-put : Filled (n + length text) (put_mid n (n + length text - n) xs text)
  unfolding padded
  filled-put =
      let l = length-take-le n xs (omega arith) in
      let k = n + length text in
      let rest = post_of n (k - n) xs in
      let here : length (take n xs ++ text) ≡ k = length-append (take n xs) text ∙ ap (λ i. i + length text) l in
      let e : take n xs ++ (text ++ rest) ≡ (take n xs ++ text) ++ rest = sym (append_assoc (take n xs) text rest) in
      let front : take k (take n xs ++ (text ++ rest)) ≡ take n xs ++ text = ap (take k) e ∙ take_at (take n xs ++ text) rest k here in
      let shown : length (take k (take n xs ++ (text ++ rest))) ≡ k = ap length front ∙ here in
      let left : 1024 - n - (k - n) ≡ 1024 - length (take k (take n xs ++ (text ++ rest))) = omega (arith, shown) in
      let zs : rest ≡ zeros (1024 - length (take k (take n xs ++ (text ++ rest)))) =
      ap (drop (k - n)) behind ∙ drop-zeros (k - n) (1024 - n) ∙ ap zeros left in
      record {
        fits = room;
        whole = shown;
        zeros = e ∙ ap₂ (λ (x y : List ℕ). x ++ y) (sym front) zs;
      }

pub decimal-short : (n : ℕ) → length (decimal n) ≤ 10
unfolding decimal
decimal-short n = digits-short 10 n

-- ---- the rules of an accepted file

-- the line of a rule
abbrev pub line : (file : List ℕ) (i : ℕ) → List ℕ
line file i = rule_line i (verdict file i (replicate 5120 0)).answer

pub few : {file : List ℕ} {l : Layout} → Laid file l → TreeRead file → l.rules.count ≤ 8
few h t = omega (arith, (counts h t).2, (tree-bounds t).rules)

pub few-rules : {file : List ℕ} {l : Layout} → ∥ Laid file l ∥₁ → l.rules.count ≤ 8
few-rules h = few (laid-of h) (read-of h)

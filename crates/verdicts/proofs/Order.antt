-- The lists in the order in which they are tried: each list of call rows within the depth stands there once, and nothing else
-- does; the shorter come first, those of one length in dictionary order (places-in-order).
use mathlib.Core.Path.{◌≡◌, refl, sym, ◌∙◌, ap, subst}
use Prim.Native.Nat.{ℕ, zero, suc, ◌+◌, ◌≤◌, ◌<◌}
use native.Mathlib.Decide.{dec_lt}
use native.Mathlib.Omega.{arith}
use mathlib.Core.List.{List, [], ◌∷◌, ◌++◌, map}
use mathlib.Core.Logic.{inl, inr}
use lib.ListN.{length}
use Rattle.rules.specs.Basics.{each}
use Rattle.rules.specs.Lists.{lists_of, lists_to, At, here, there, Positions, Within, Dictionary, Before}
use Rattle.rules.specs.Lists.{first, later}
use Rattle.rules.specs.Demands.{All, none, more, PlacesInOrder}
use Rattle.laws.proofs.Each.{weaken, all_append}
use Rattle.verdicts.proofs.Exact.{at-pos}

-- ---- what holds of each list

pub all-at : {P : List ℕ → Type 0} {ls : List (List ℕ)} {n : ℕ} {l : List ℕ} → All P ls → At ls n l → P l
all-at none x = elim x [ ]
all-at (more h a) here = h
all-at (more h a) (there b) = all-at a b

all_both : {P Q W : List ℕ → Type 0} {ls : List (List ℕ)} → ((l : List ℕ) → P l → W l → Q l) → All P ls → All W ls → All Q ls
all_both f none none = none
all_both f (more {x = l} h a) (more g b) = more (f l h g) (all_both f a b)

module _ {P : List ℕ → Type 0} where
  all_map : {Q : List ℕ → Type 0} {ls : List (List ℕ)} (f : List ℕ → List ℕ) → ((l : List ℕ) → Q l → P (f l)) → All Q ls → All P (map f ls)
  all_map f g none = none
  all_map f g (more {x = l} h a) = more (g l h) (all_map f g a)

  all-each : (F : ℕ → List (List ℕ)) (i n : ℕ) → ((j : ℕ) → i ≤ j → j < i + n → All P (F j)) → All P (each F i n)
  unfolding each
  all-each F i zero g = none
  all-each F i (suc n) g = all_append _ _ (g i (omega arith) (omega arith)) (all-each F (suc i) n (λ j a b. g j (omega arith) (omega arith)))

-- ---- what stands there is a list of call rows within the depth

pub positions-length : {k n : ℕ} {l : List ℕ} → Positions k n l → length l ≡ n
positions-length Positions.none = refl
positions-length (Positions.more h r) = ap suc (positions-length r)

all-positions : (k n : ℕ) → All (Positions k n) (lists_of k n)
unfolding lists_of
all-positions k zero = more Positions.none none
all-positions k (suc n) =
    all-each _ 0 k (λ j a b. all_map (λ l. j ∷ l) (λ l h. Positions.more (omega arith) h) (all-positions k n))

pub all-within : (k depth : ℕ) → All (Within k depth) (lists_to k depth)
unfolding lists_to
all-within k depth = all-each (lists_of k) 0 (suc depth) (λ j a b. weaken (λ l h. (j, omega arith, h)) (all-positions k j))

-- ---- each such list stands there

abbrev Stands : List (List ℕ) → List ℕ → Type 0
Stands ls l = (n : ℕ) × At ls n l

at_left : {ls : List (List ℕ)} (ms : List (List ℕ)) {n : ℕ} {l : List ℕ} → At ls n l → At (ls ++ ms) n l
at_left ms here = here
at_left ms (there a) = there (at_left ms a)

stands-right : (ls ms : List (List ℕ)) {l : List ℕ} → Stands ms l → Stands (ls ++ ms) l
stands-right [] ms s = s
stands-right (x ∷ ls) ms s = let t = stands-right ls ms s in (suc t.0, there t.1)

at_map : (f : List ℕ → List ℕ) {ls : List (List ℕ)} {n : ℕ} {l : List ℕ} → At ls n l → At (map f ls) n (f l)
at_map f here = here
at_map f (there a) = there (at_map f a)

stands-each : (F : ℕ → List (List ℕ)) (i n j : ℕ) {l : List ℕ} → i ≤ j → j < i + n → Stands (F j) l → Stands (each F i n) l
unfolding each
stands-each F i zero j a b s = absurd (omega arith)
stands-each F i (suc n) j {l} a b s = go (dec_lt i j) (λ h. stands-each F (suc i) n j h (omega arith) s)
  where
    go : Dec (i < j) → (i < j → Stands (each F (suc i) n) l) → Stands (F i ++ each F (suc i) n) l
    go (yes h) next = stands-right (F i) (each F (suc i) n) (next h)
    go (no h) next =
        let e : j ≡ i = omega arith in
        let t = subst (λ k. Stands (F k) l) e s in
        (t.0, at_left (each F (suc i) n) t.1)

stands_of : {k n : ℕ} {l : List ℕ} → Positions k n l → Stands (lists_of k n) l
unfolding lists_of
stands_of Positions.none = (1, here)
stands_of {k} (Positions.more {n = n} {i = i} h r) =
    let t = stands_of r in
    stands-each (λ j. map (λ l. j ∷ l) (lists_of k n)) 0 k i (omega arith) (omega arith) (t.0, at_map (λ l. i ∷ l) t.1)

pub stands-within : (k depth : ℕ) {l : List ℕ} → Within k depth l → Stands (lists_to k depth) l
unfolding lists_to
stands-within k depth w = stands-each (lists_of k) 0 (suc depth) w.0 (omega arith) (omega arith) (stands_of w.2)

-- ---- each list goes before all that follow it

data Sorted (Q : List ℕ → List ℕ → Type 0) : List (List ℕ) → Type 0 where
  nil : Sorted Q []
  next : {l : List ℕ} {ls : List (List ℕ)} → All (Q l) ls → Sorted Q ls → Sorted Q (l ∷ ls)

module _ {Q : List ℕ → List ℕ → Type 0} where
  sorted-++ : {ls ms : List (List ℕ)} → Sorted Q ls → Sorted Q ms → All (λ l. All (Q l) ms) ls → Sorted Q (ls ++ ms)
  sorted-++ nil t none = t
  sorted-++ (next h s) t (more c cs) = next (all_append _ _ h c) (sorted-++ s t cs)

  sorted-map : {W : List ℕ → List ℕ → Type 0} {ls : List (List ℕ)} (f : List ℕ → List ℕ)
      → ((l k : List ℕ) → W l k → Q (f l) (f k)) → Sorted W ls → Sorted Q (map f ls)
  sorted-map f g nil = nil
  sorted-map f g (next {l = l} h s) = next (all_map f (g l) h) (sorted-map f g s)

  -- P j is what marks the lists of the part j: beginning with j, or having j entries
  sorted-each : (F : ℕ → List (List ℕ)) (P : ℕ → List ℕ → Type 0) → ((j : ℕ) → All (P j) (F j)) → ((j : ℕ) → Sorted Q (F j))
      → ((j m : ℕ) (l k : List ℕ) → j < m → P j l → P m k → Q l k) → (i n : ℕ) → Sorted Q (each F i n)
  unfolding each
  sorted-each F P a s c i zero = nil
  sorted-each F P a s c i (suc n) =
      sorted-++ (s i) (sorted-each F P a s c (suc i) n)
      (weaken (λ l h. all-each F (suc i) n (λ m u v. weaken (λ k g. c i m l k (omega arith) h g) (a m))) (a i))

  sorted-in : {W : List ℕ → List ℕ → Type 0} {P : List ℕ → Type 0} {ls : List (List ℕ)}
      → ((l k : List ℕ) → P l → P k → W l k → Q l k) → All P ls → Sorted W ls → Sorted Q ls
  sorted-in g none nil = nil
  sorted-in g (more {x = l} h a) (next b s) = next (all_both (λ k u v. g l k h u v) a b) (sorted-in g a s)

  sorted-at : {ls : List (List ℕ)} {n m : ℕ} {l k : List ℕ} → Sorted Q ls → At ls n l → At ls m k → n < m → Q l k
  sorted-at nil x _ e = elim x [ ]
  sorted-at (next h s) here here e = absurd (omega arith)
  sorted-at (next h s) here (there b) e = all-at h b
  sorted-at (next h s) (there a) here e = let q = at-pos a in absurd (omega arith)
  sorted-at (next h s) (there a) (there b) e = sorted-at s a b (omega arith)

data Begins (j : ℕ) : List ℕ → Type 0 where
  begins : {l : List ℕ} → Begins j (j ∷ l)

all-begin : (j : ℕ) (ls : List (List ℕ)) → All (Begins j) (map (λ l. j ∷ l) ls)
all-begin j [] = none
all-begin j (l ∷ ls) = more begins (all-begin j ls)

begin-first : (j m : ℕ) (l k : List ℕ) → j < m → Begins j l → Begins m k → Dictionary l k
begin-first j m l k h begins begins = first h

sorted_of : (k n : ℕ) → Sorted Dictionary (lists_of k n)
unfolding lists_of
sorted_of k zero = next none nil
sorted_of k (suc n) =
    sorted-each (λ j. map (λ l. j ∷ l) (lists_of k n)) Begins
    (λ j. all-begin j (lists_of k n))
    (λ j. sorted-map (λ l. j ∷ l) (λ l m h. later h) (sorted_of k n))
    begin-first 0 k

all-long : (k n : ℕ) → All (λ l. length l ≡ n) (lists_of k n)
all-long k n = weaken (λ l h. positions-length h) (all-positions k n)

sorted-to : (k depth : ℕ) → Sorted Before (lists_to k depth)
unfolding lists_to
sorted-to k depth =
    sorted-each (lists_of k) (λ j l. length l ≡ j) (all-long k)
    (λ j. sorted-in (λ l m (e : length l ≡ j) (f : length m ≡ j) h. inr (e ∙ sym f, h)) (all-long k j) (sorted_of k j))
    (λ j m l l' h (e : length l ≡ j) (f : length l' ≡ m). inl (omega arith)) 0 (suc depth)

-- ---- so no list stands there twice

dictionary-not : {l m : List ℕ} → Dictionary l m → l ≡ m → ⊥
dictionary-not (first {i = i} {j = j} h) e = let f : i ≡ j = cc in omega arith
dictionary-not (later {l = l} {m = m} h) e = dictionary-not h (cc)

before-not : {l : List ℕ} → Before l l → ⊥
before-not (inl h) = omega arith
before-not (inr h) = dictionary-not h.1 refl

module _ (k depth : ℕ) where
  pub ordered : (n m : ℕ) (l l' : List ℕ) → At (lists_to k depth) n l → At (lists_to k depth) m l' → n < m → Before l l'
  ordered n m l l' a b h = sorted-at (sorted-to k depth) a b h

  pub once : (n m : ℕ) (l : List ℕ) → At (lists_to k depth) n l → At (lists_to k depth) m l → n ≡ m
  once n m l a b = go (dec_lt n m) (dec_lt m n)
    where
      go : Dec (n < m) → Dec (m < n) → n ≡ m
      go (yes h) d = absurd (before-not (ordered n m l l a b h))
      go (no h) (yes g) = absurd (before-not (ordered m n l l b a g))
      go (no h) (no g) = omega arith

pub places-in-order : PlacesInOrder
places-in-order k depth =
    (λ n l a. all-at (all-within k depth) a, λ l w. stands-within k depth w, once k depth, ordered k depth)

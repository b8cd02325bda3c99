-- Laws of children of one kind in a row.
use Prim.Native.Nat.{ℕ, zero, suc, ◌+◌, ◌≤◌, ◌<◌}
use mathlib.Core.Path.{◌≡◌, refl, sym, ap, subst, ◌∙◌}
use mathlib.Core.Bool.{true, false, false≢true}
use mathlib.Core.List.{List, ◌∷◌}
use native.Mathlib.Omega.{arith}
use native.Mathlib.Numerals.{add-one}
use lib.ListN.{length, take, drop}
use Rattle.rules.specs.Basics.{number}
use Rattle.rules.specs.Reading.{Reader, size_of, child}
use Rattle.grammar.proofs.Bytes.{part-all}
use Rattle.grammar.proofs.Keeping.{Stored}
use Rattle.grammar.proofs.Agreements.{comes_in, Row, done, member}
use Rattle.access.specs.declared.Group.{Group}
use Rattle.access.specs.Places.{past, Stands, InRow, comes_at, Children}

-- ---- where the records stand

past_next : (file : List ℕ) (at i : ℕ) → past file at (suc i) ≡ past file at i + size_of (drop (past file at i) file)
unfolding past
past_next file at zero = refl
past_next file at (suc i) = past_next file (at + size_of (drop at file)) i

pub stands : {A : Type 0} {r : Reader A} {file : List ℕ} {at to : ℕ} {a : A} → Stored file r at a to → Stands file at
stands h = record { low = omega (arith, h.size, h.four); high = omega (arith, h.size, h.fits) }

-- ---- what was read of them

-- the i-th of these children, which stands at `at`, with what is known of it
pub record Item
    {A : Type 0} (P : ℕ → A → ℕ → Type 0) (kind : ℕ) (body : Reader A) (file : List ℕ) (at : ℕ) (xs : List A) (i : ℕ) : Type 0
  where
    pub value : A
    pub end : ℕ
    pub here : drop i xs ≡ value ∷ drop (suc i) xs
    pub comes : comes_at kind file at ≡ true
    pub stored : Stored file (child (λ _. body)) at value end
    pub is : P at value end

-- a group's children, each at its place
pub record Items
    {A : Type 0} (P : ℕ → A → ℕ → Type 0) (most kind : ℕ) (body : Reader A) (file : List ℕ) (g : Group) (xs : List A) : Type 0
  where
    pub few : length xs ≤ most
    pub counts : g.count ≡ length xs
    pub begins : g.at ≤ length file
    pub item : (i : ℕ) → i < g.count → Item P kind body file (past file g.at i) xs i
    pub none : comes_at kind file (past file g.at g.count) ≡ false
    pub ends : g.end ≡ past file g.at g.count
    pub within : g.end ≤ length file

comes-all : (kind at : ℕ) (file : List ℕ) → comes_at kind file at ≡ comes_in file (length file) kind at
unfolding comes_at comes_in
comes-all kind at file = rw (part-all at file)

module _ {A : Type 0} {P : ℕ → A → ℕ → Type 0} {kind : ℕ} {body : Reader A} {file : List ℕ} where
  pub rowed : {most at to : ℕ} {xs : List A} → at ≤ length file → Row file (length file) kind body P most at xs to
      → Items P most kind body file (record { at = at; count = length xs; end = to }) xs
  unfolding past
  rowed {at = at} h (done c) =
      let none = comes-all kind at file ∙ c in
      record { few = omega arith; counts = refl; begins = h; item = λ i l. absurd (omega arith); none = none; ends = refl; within = h }
  rowed {at = at} h (member {most = most} {m = m} {to = to} {x = x} {xs = xs} c s p r) =
      let g = subst (λ (k : ℕ). Items P most kind body file (record { at = k; count = length xs; end = to }) xs) s.size (rowed s.fits r) in
      record { few = omega (arith, g.few); counts = refl; begins = h; item = at_place g; none = g.none; ends = g.ends; within = g.within }
    where
      at_place : Items P most kind body file (record { at = at + size_of (drop at file); count = length xs; end = to }) xs
          → (i : ℕ) → i < suc (length xs) → Item P kind body file (past file at i) (x ∷ xs) i
      at_place g zero l = record { value = x; end = m; here = refl; comes = comes-all kind at file ∙ c; stored = s; is = p }
      at_place g (suc i) l =
          let n = g.item i (omega arith) in
          record { value = n.value; end = n.end; here = n.here; comes = n.comes; stored = n.stored; is = n.is }

  module _ {most : ℕ} {g : Group} {xs : List A} (h : Items P most kind body file g xs) where
    pub item-at : (i at : ℕ) → i < g.count → at ≡ past file g.at i → Item P kind body file at xs i
    item-at i at less e = subst (λ (k : ℕ). Item P kind body file k xs i) (sym e) (h.item i less)

    pub in-row : (i : ℕ) → i ≤ g.count → InRow file g.at i
    in-row i le = λ k l. stands (h.item k (omega arith)).stored

    unfoldable pub children : Children kind file g.at
    children = record { count = g.count; within = h.begins; row = in-row g.count (omega arith); comes = λ i l. (h.item i l).comes; ends = h.none }

    pub children-at : (at : ℕ) → at ≡ g.at → Children kind file at
    children-at at e = subst (Children kind file) (sym e) children

-- ---- what a loop over them goes by

-- a record that stands at e, and its length n
pub room : {file : List ℕ} (at i e n : ℕ) → e ≡ past file at i → n ≡ number (take 2 (drop e file)) → Stands file (past file at i)
    → (4 ≤ n) × (e + n ≤ length file)
unfolding size_of
room {file} at i e n is m s =
    let z = ap (λ (k : ℕ). number (take 2 (drop k file))) is in
    (omega (arith, s.low), omega (arith, s.high))

pub past_more : (file : List ℕ) (at i : ℕ) → past file at (i + 1) ≡ past file at i + number (take 2 (drop (past file at i) file))
unfolding size_of
past_more file at i = rw add-one (past_next file at i)

-- one record further
pub further : (file : List ℕ) (at i e n : ℕ) → e ≡ past file at i → n ≡ number (take 2 (drop e file)) → e + n ≡ past file at (i + 1)
further file at i e n is m =
    let z = ap (λ (k : ℕ). number (take 2 (drop k file))) is in
    omega (arith, past_more file at i)

module _ {kind : ℕ} {file : List ℕ} {at : ℕ} (g : Children kind file at) (i e : ℕ) (is : e ≡ past file at i) (le : i ≤ g.count) where
  -- the kind comes, so this was not the last
  pub goes_on : true ≡ comes_at kind file e → i < g.count
  goes_on h =
      let more : i ≡ g.count → ⊥ = λ z. false≢true (sym g.ends ∙ sym (ap (comes_at kind file) (is ∙ ap (past file at) z)) ∙ sym h) in
      omega arith

  pub stops : false ≡ comes_at kind file e → i ≡ g.count
  stops h =
      let last : i < g.count → ⊥ = λ l. false≢true (h ∙ ap (comes_at kind file) is ∙ g.comes i l) in
      omega arith

-- the group that was found
pub group-same : (at : ℕ) {i j e f : ℕ} → i ≡ j → e ≡ f
    → ◌≡◌ {A = Group} (record { at = at; count = i; end = e }) (record { at = at; count = j; end = f })
group-same at p q = λ i. record { at = at; count = p i; end = q i }

-- The index of nodes and the places of kind 1 steps, one more step at a time.
use Prim.Native.Nat.{ℕ, suc, ◌+◌, ◌≤◌, ◌<◌}
use mathlib.Core.Path.{◌≡◌, refl, sym, ap, ◌∙◌}
use mathlib.Core.Bool.{Bool, true, false}
use mathlib.Core.List.{List, [], ◌∷◌, ◌++◌, append-nil}
use native.Mathlib.Omega.{arith}
use native.Mathlib.Numerals.{add-one}
use lib.Dec.{eqb, ltb}
use lib.ListN.{length, get_or, drop, set, replicate, length-replicate, get_or-replicate, get_or-eq_default, drop_of_length-le}
use lib.Seq.{get_or-set_same, get_or-set_other, append_snoc}
use borrow.Author.Tests.{ltb-true, ltb-false, eqb-true, eqb-false, eq-eqb, ne_eqb}
use Rattle.rules.specs.Expanding.{Step}
use Rattle.walker.specs.Tables.{word_at, place_from, Indexed, guard_places}
use Rattle.walker.proofs.Tables.{Here}

-- ---- nodes

-- the steps from the i-th on are in the index
abbrev pub IndexedFrom : (i : ℕ) → List Step → (nodes : List ℕ) → Type 0
IndexedFrom i steps nodes = (n : ℕ) → get_or nodes n 0 ≡ place_from i (drop i steps) n

zeros : (k n : ℕ) → ◌≡◌ {A = ℕ} (get_or (replicate k 0) n 0) 0
zeros k n = go (ltb n k) refl
  where
    go : (b : Bool) → ltb n k ≡ b → ◌≡◌ {A = ℕ} (get_or (replicate k 0) n 0) 0
    go true e = get_or-replicate k n 0 0 (ltb-true n k e)
    go false e = get_or-eq_default (replicate k 0) 0 (omega (arith, ltb-false n k e, length-replicate {A = ℕ} k 0))

pub index-none : (k i : ℕ) (steps : List Step) → i ≡ length steps → IndexedFrom i steps (replicate k 0)
unfolding place_from
index-none k i steps h n = zeros k n ∙ sym (rw (drop_of_length-le steps {i = i} (omega arith)))

pub index-more :
    {words : List ℕ} {steps : List Step} {i j o : ℕ} (nodes : List ℕ) → Here words steps j → i ≡ suc j → o ≡ word_at words j 0 → o < length nodes →
    IndexedFrom i steps nodes → IndexedFrom j steps (set nodes o (j + 1))
unfolding place_from
index-more {words} {steps} {i} {j} {o} nodes h e q low f n = go (eqb o n) refl
  where
    go : (b : Bool) → eqb o n ≡ b → get_or (set nodes o (j + 1)) n 0 ≡ place_from j (drop j steps) n
    go true p =
        ap (λ (n : ℕ). get_or (set nodes o (j + 1)) n 0) (sym (eqb-true o n p)) ∙ get_or-set_same nodes o (j + 1) 0 low ∙ rw (h.here, ← q, p) (add-one j)
    go false p = get_or-set_other nodes o n (j + 1) 0 (λ z. eqb-false o n p (sym z)) ∙ f n ∙ rw (h.here, ← q, p, e)

pub index-all : (steps : List Step) (nodes : List ℕ) {i : ℕ} → i ≡ 0 → length nodes ≡ 1091 → IndexedFrom i steps nodes → Indexed steps nodes
index-all steps nodes e l f = record { full = l; has = λ n. f n ∙ ap (λ (i : ℕ). place_from i (drop i steps) n) e }

-- ---- entries

-- the entries are the kind 1 steps before the i-th
abbrev pub EnteredTo : (i : ℕ) → List Step → (entries : List ℕ) → Type 0
EnteredTo i steps entries = guard_places 0 steps ≡ entries ++ guard_places i (drop i steps)

module _ {words : List ℕ} {steps : List Step} {i : ℕ} (h : Here words steps i) (entries : List ℕ) (f : EnteredTo i steps entries) where
  pub entries-here : word_at words i 2 ≡ 1 → EnteredTo (i + 1) steps (entries ++ i ∷ [])
  unfolding guard_places
  entries-here e = f ∙ rw (h.here, eq-eqb _ _ e, add-one i) (sym (append_snoc entries i (guard_places (suc i) (drop (suc i) steps))))

  pub entries-other : (word_at words i 2 ≡ 1 → ⊥) → EnteredTo (i + 1) steps entries
  unfolding guard_places
  entries-other e = f ∙ rw (h.here, ne_eqb _ _ e, add-one)

pub entries-all : (steps : List Step) (entries : List ℕ) (i : ℕ) → length steps ≤ i → EnteredTo i steps entries → entries ≡ guard_places 0 steps
unfolding guard_places
entries-all steps entries i h f = sym (f ∙ rw (drop_of_length-le steps {i = i} h) (append-nil entries))

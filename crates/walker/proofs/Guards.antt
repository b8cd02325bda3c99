-- What is found among the kind 1 steps, by their places.
use Rattle.std.specs.Prelude.{if◌then◌else◌, Some, None, Ok}
use Prim.Native.Nat.{ℕ, zero, suc, ◌+◌, ◌≤◌, ◌<◌}
use mathlib.Core.Path.{◌≡◌, refl, sym, ap, subst, ◌∙◌}
use mathlib.Core.Bool.{Bool, true, false, ◌&&◌, ◌||◌}
use mathlib.Core.List.{List, [], ◌∷◌, map}
use native.Mathlib.Omega.{arith}
use native.Mathlib.Numerals.{add-one}
use Rattle.std.proofs.Math.Bool.{or-true}
use lib.Dec.{eqb}
use lib.ListN.{length, get_or, drop, drop_of_length-le}
use lib.Seq.{drop-cons}
use borrow.Author.Tests.{eqb-true, eq-eqb, ne_eqb}
use Rattle.rules.specs.Basics.{any, find}
use Rattle.rules.specs.Expanding.{Step, table}
use Rattle.rules.specs.Stepping.{begins_with, entry_of, entry_known}
use Rattle.rules.specs.Demands.{All}
use Rattle.walker.specs.Tables.{word_at, step_at, guard_places, EntryFound}
use Rattle.access.specs.FoundAnswers.{Found, elsewhere}
use Rattle.walker.proofs.Tables.{Here, step-here, here-at}

-- the steps are those in the words from the i-th on
data Stands (words : List ℕ) : ℕ → List Step → Type 0 where
  end : {i : ℕ} → Stands words i []
  next : {i : ℕ} {s : Step} {l : List Step} → s ≡ step_at words i → Stands words (suc i) l → Stands words i (s ∷ l)

stand : (words : List ℕ) (i : ℕ) (l : List Step) → ((j : ℕ) → j < length l → drop j l ≡ step_at words (i + j) ∷ drop (suc j) l) → Stands words i l
stand words i [] f = end
stand words i (s ∷ l) f =
    let z = f 0 (omega arith) in
    let e : i + 0 ≡ i = omega arith in
    let h : s ≡ step_at words (i + 0) = cc in
    next (h ∙ ap (step_at words) e) (stand words (suc i) l λ j lt. let q : i + suc j ≡ suc i + j = omega arith in rw (← q) (f (suc j) (omega arith)))

-- What F makes of the steps is what G makes of those of kind 1, if F passes the others over.
module _ {A : Type 0} (words : List ℕ) (F G : List Step → A) (none : F [] ≡ G [])
    (yes : (s : Step) (l m : List Step) → eqb s.kind 1 ≡ true → F l ≡ G m → F (s ∷ l) ≡ G (s ∷ m))
    (no : (s : Step) (l : List Step) → eqb s.kind 1 ≡ false → F (s ∷ l) ≡ F l) where
  by-guards : (i : ℕ) (l : List Step) → Stands words i l → F l ≡ G (map (step_at words) (guard_places i l))
  unfolding guard_places
  by-guards i l end = none
  by-guards i l (next {s = s} {l = r} e h) = go (eqb s.kind 1) refl (by-guards (suc i) r h)
    where
      go : (b : Bool) → eqb s.kind 1 ≡ b → F r ≡ G (map (step_at words) (guard_places (suc i) r))
          → F (s ∷ r) ≡ G (map (step_at words) (if b then i ∷ guard_places (suc i) r else guard_places (suc i) r))
      go true p w = rw (← e) (yes s r _ p w)
      go false p w = no s r p ∙ w

-- each of the places is that of a kind 1 step
guard-places : (words : List ℕ) (i : ℕ) (l : List Step) → Stands words i l → All (λ p. (p < i + length l) × (word_at words p 2 ≡ 1)) (guard_places i l)
unfolding guard_places
guard-places words i l h = go i l h (i + length l) (omega arith)
  where
    go : (i : ℕ) (l : List Step) → Stands words i l → (n : ℕ) → i + length l ≤ n → All (λ p. (p < n) × (word_at words p 2 ≡ 1)) (guard_places i l)
    go i l end n le = All.none
    go i l (next {s = s} {l = r} e h) n le = by (eqb s.kind 1) refl (go (suc i) r h n (omega arith))
      where
        by : (b : Bool) → eqb s.kind 1 ≡ b → All (λ p. (p < n) × (word_at words p 2 ≡ 1)) (guard_places (suc i) r)
            → All (λ p. (p < n) × (word_at words p 2 ≡ 1)) (if b then i ∷ guard_places (suc i) r else guard_places (suc i) r)
        by true p w = All.more {x = i} (omega arith, sym (ap (λ (s : Step). s.kind) e) ∙ eqb-true s.kind 1 p) w
        by false p w = w

all-at : {A : Type 0} (P : A → Type 0) (i : ℕ) (l : List A) (x : A) (r : List A) → All P l → drop i l ≡ x ∷ r → P x
all-at P zero [] x r All.none e = absurd cc
all-at P (suc i) [] x r All.none e = absurd cc
all-at P zero (y ∷ l) x r (All.more h hs) e = let z : y ≡ x = cc in subst P z h
all-at P (suc i) (y ∷ l) x r (All.more h hs) e = all-at P i l x r hs e

-- a kind 1 step has the name; and leaves the state
abbrev named : (name : ℕ) → Step → Bool
named name s = eqb s.name name

abbrev fits : (name n : ℕ) → Step → Bool
fits name n s = eqb s.name name && eqb s.origin n

-- what is answered where no step has both
abbrev pub unfound : (known : Bool) → Found
unfound true = elsewhere
unfound false = Ok None

module _ (words : List ℕ) (steps : List Step) where
  -- what is found, from whether a step passed has the name, and the places that are left
  pub record Left (elsewhere : Bool) (name n : ℕ) (places : List ℕ) : Type 0 where
    pub known : entry_known steps name ≡ (elsewhere || any (named name) (map (step_at words) places))
    pub found : entry_of steps name n ≡ find (fits name n) (map (step_at words) places)

  -- the i-th of the places
  pub record Place (i p : ℕ) : Type 0 where
    pub here : Here words steps p
    pub guard : word_at words p 2 ≡ 1
    pub next : drop i (guard_places 0 steps) ≡ p ∷ drop (suc i) (guard_places 0 steps)

  module _ (begins : begins_with words (table steps) ≡ true) where
    stands : Stands words 0 steps
    stands = stand words 0 steps λ j lt. let z : 0 + j ≡ j = omega arith in rw z (step-here words steps begins j lt).here

    pub left-all : (name n : ℕ) → Left false name n (guard_places 0 steps)
    unfolding entry_known entry_of any find
    left-all name n =
        record {
          known = by-guards words (any _) (any (named name)) refl (λ s l m e h. rw (e, h)) (λ s l e. rw e) 0 steps stands;
          found = by-guards words (find _) (find (fits name n)) refl (λ s l m e h. rw (e, h)) (λ s l e. rw e) 0 steps stands;
        }

    pub place : (entries : List ℕ) → entries ≡ guard_places 0 steps → (i : ℕ) → i < length entries → Place i (get_or entries i 0)
    place entries are i lt =
        let e : drop i (guard_places 0 steps) ≡ get_or entries i 0 ∷ drop (suc i) (guard_places 0 steps) = rw (← are) (drop-cons entries i 0 lt) in
        let q = all-at _ i _ _ _ (guard-places words 0 steps stands) e in
        record { here = step-here words steps begins (get_or entries i 0) (omega (arith, q.0)); guard = q.1; next = e }

  module _ {i p : ℕ} (h : Place i p) (b : Bool) (name n : ℕ) (left : Left b name n (drop i (guard_places 0 steps))) where
    after : drop i (guard_places 0 steps) ≡ p ∷ drop (i + 1) (guard_places 0 steps)
    after = rw add-one h.next

    pub found_here : word_at words p 3 ≡ name → word_at words p 0 ≡ n → EntryFound steps name n (Ok (Some p))
    unfolding find
    found_here e f =
        (step_at words p, record { here = here-at h.here; guard = h.guard }, left.found ∙ rw (after, eq-eqb _ _ e, eq-eqb _ _ f))

    pub found-other : word_at words p 3 ≡ name → (word_at words p 0 ≡ n → ⊥) → Left true name n (drop (i + 1) (guard_places 0 steps))
    unfolding find any
    found-other e f =
        record {
          known = left.known ∙ rw (after, eq-eqb _ _ e) (or-true b);
          found = left.found ∙ rw (after, eq-eqb _ _ e, ne_eqb _ _ f);
        }

    pub found_none : (word_at words p 3 ≡ name → ⊥) → Left b name n (drop (i + 1) (guard_places 0 steps))
    unfolding find any
    found_none e =
        record {
          known = left.known ∙ rw (after, ne_eqb _ _ e);
          found = left.found ∙ rw (after, ne_eqb _ _ e);
        }

  pub found-end :
      (entries : List ℕ) → entries ≡ guard_places 0 steps → (i : ℕ) → length entries ≤ i → (b : Bool) (name n : ℕ) → Left b name n (drop i (guard_places 0 steps)) →
      EntryFound steps name n (unfound b)
  unfolding find any
  found-end entries are i le b name n left = go b left
    where
      z : drop i (guard_places 0 steps) ≡ []
      z = drop_of_length-le (guard_places 0 steps) {i = i} (omega (arith, ap length are))

      go : (b : Bool) → Left b name n (drop i (guard_places 0 steps)) → EntryFound steps name n (unfound b)
      go true left = (left.known, left.found ∙ rw z)
      go false left = (left.known ∙ rw z, left.found ∙ rw z)

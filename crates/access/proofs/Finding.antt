-- Laws of the search among transitions, one more of them at a time.
use Rattle.std.specs.Prelude.{Some, Ok}
use Prim.Native.Nat.{ℕ, zero, suc, ◌+◌, ◌≤◌, ◌<◌}
use mathlib.Core.Path.{◌≡◌, refl, sym, ap, ◌∙◌}
use mathlib.Core.Bool.{Bool, true, false, ◌||◌}
use mathlib.Core.List.{List, [], ◌∷◌}
use mathlib.Core.Option.{none, some}
use native.Mathlib.Omega.{arith}
use native.Mathlib.Numerals.{add-one}
use Rattle.std.proofs.Math.Bool.{or-true, or-false, or_comm}
use lib.Dec.{eqb}
use lib.ListN.{length, get_or, take, drop, drop_of_length-le}
use borrow.Author.Tests.{eq-eqb, ne_eqb}
use Rattle.rules.specs.Basics.{any, find}
use Rattle.rules.specs.Syntax.{Transition, Agreement}
use Rattle.rules.specs.Accepting.{first_repeat}
use Rattle.rules.specs.Reading.{transition_body}
use Rattle.rules.specs.Calling.{known, transition_of}
use Rattle.grammar.proofs.Agreements.{TransitionIn}
use Rattle.access.specs.declared.Layout.{Layout}
use Rattle.access.specs.Trees.{TreeRead}
use Rattle.access.specs.Places.{past, Laid}
use Rattle.access.specs.FoundAnswers.{Found, found_of, same}
use Rattle.access.proofs.Groups.{Item, item-at}
use Rattle.access.proofs.Trees.{laid, parts}

-- the i-th transition, at its offset
abbrev Nth : (file : List ℕ) (vars S : ℕ) (ts : List Transition) (at i : ℕ) → Type 0
Nth file vars S ts at i = Item (TransitionIn file vars S) 2 (transition_body vars S) file at ts i

abbrev pub Here : (file : List ℕ) (a : Agreement) (at i : ℕ) → Type 0
Here file a at i = Nth file a.fields.variables a.fields.states a.transitions at i

pub here : {file : List ℕ} {l : Layout} → Laid file l → (i at : ℕ) → i < l.transitions.count → at ≡ past file l.transitions.at i
    → (a : TreeRead file) → Here file a.tree at i
here h i at less e a = item-at (parts h a).transitions i at less e

-- all of them have been passed
pub all-passed : {file : List ℕ} {l : Layout} → Laid file l → (a : TreeRead file) (i : ℕ) → l.transitions.count ≤ i
    → drop i a.tree.transitions ≡ []
all-passed h a i le =
    let few : length a.tree.transitions ≤ i = omega (arith, (laid h a).transitions.counts) in
    drop_of_length-le a.tree.transitions few

-- ---- a name and a state

-- what is found, from whether a transition passed bears the name, and those that are left
abbrev pub Left : (elsewhere : Bool) (name state : ℕ) → List Transition → Found
Left elsewhere name state us = found_of (elsewhere || any (λ (t : Transition). eqb t.name name) us) (find (same name state) us)

pub find-all : (a : Agreement) (name state : ℕ)
    → found_of (known a name) (transition_of a name state) ≡ Left false name state (drop 0 a.transitions)
unfolding known transition_of
find-all a name state = refl

module _ {file : List ℕ} {vars S at i : ℕ} {ts : List Transition} (h : Nth file vars S ts at i) (name state : ℕ) (b : Bool) where
  next : drop i ts ≡ h.value ∷ drop (i + 1) ts
  next = rw add-one h.here

  pub find-here : get_or file (at + 4) 0 ≡ name → get_or file (at + 5) 0 ≡ state → Left b name state (drop i ts) ≡ Ok (Some at)
  unfolding any find
  find-here p q = rw (h.here, eq-eqb _ _ (h.is.name ∙ p), eq-eqb _ _ (h.is.from ∙ q)) (ap (λ (k : ℕ). Ok (Some k)) h.is.placed)

  pub find-other :
      get_or file (at + 4) 0 ≡ name → (get_or file (at + 5) 0 ≡ state → ⊥) →
      Left b name state (drop i ts) ≡ Left true name state (drop (i + 1) ts)
  unfolding any find
  find-other p q = rw (next, eq-eqb _ _ (h.is.name ∙ p), ne_eqb _ _ (λ z. q (sym h.is.from ∙ z)), or-true b)

  pub find_none : (get_or file (at + 4) 0 ≡ name → ⊥) → Left b name state (drop i ts) ≡ Left b name state (drop (i + 1) ts)
  unfolding any find
  find_none p = rw (next, ne_eqb _ _ (λ z. p (sym h.is.name ∙ z)))

pub find-end : (ts : List Transition) (i name state : ℕ) (b : Bool) → drop i ts ≡ [] → Left b name state (drop i ts) ≡ found_of b none
unfolding any find
find-end ts i name state b e = rw (e, or-false b)

-- ---- repeated names and origins

any-more : {A : Type 0} (p : A → Bool) (i : ℕ) (ts us : List A) (t : A) → drop i ts ≡ t ∷ us
    → any p (take (suc i) ts) ≡ (any p (take i ts) || p t)
unfolding any
any-more p zero [] us t e = absurd cc
any-more p (suc i) [] us t e = absurd cc
any-more p zero (x ∷ ts) us t e = let z : x ≡ t = cc in or-false (p x) ∙ ap p z
any-more {A} p (suc i) (x ∷ ts) us t e = go (p x) (any-more p i ts us t e)
  where
    go : (b : Bool) → any p (take (suc i) ts) ≡ (any p (take i ts) || p t) → (b || any p (take (suc i) ts)) ≡ (b || any p (take i ts) || p t)
    go true h = refl
    go false h = h

any-longer : {A : Type 0} (p : A → Bool) (i n : ℕ) (ts : List A) → i ≤ n → any p (take i ts) ≡ true → any p (take n ts) ≡ true
unfolding any
any-longer p zero n ts h e = absurd cc
any-longer p (suc i) zero ts h e = absurd (omega arith)
any-longer p (suc i) (suc n) [] h e = e
any-longer p (suc i) (suc n) (x ∷ ts) h e = go (p x) (any-longer p i n ts (omega arith)) e
  where
    go : (b : Bool) → (any p (take i ts) ≡ true → any p (take n ts) ≡ true)
        → (b || any p (take i ts)) ≡ true → (b || any p (take n ts)) ≡ true
    go true k e = refl
    go false k e = k e

module _ {file : List ℕ} {vars S at i : ℕ} {ts : List Transition} (h : Nth file vars S ts at i) (n name from : ℕ) where
  pub among-here : get_or file (at + 4) 0 ≡ name → get_or file (at + 5) 0 ≡ from → i < n → any (same name from) (take n ts) ≡ true
  among-here p q less =
      let m = any-more (same name from) i ts _ h.value h.here in
      any-longer (same name from) (suc i) n ts less
      (m ∙ rw (eq-eqb _ _ (h.is.name ∙ p), eq-eqb _ _ (h.is.from ∙ q)) (or-true (any (same name from) (take i ts))))

  among_next : same name from h.value ≡ false → any (same name from) (take i ts) ≡ false → any (same name from) (take (i + 1) ts) ≡ false
  among_next p e = rw add-one (any-more (same name from) i ts _ h.value h.here ∙ rw (e, p))

  pub among-no-name : (get_or file (at + 4) 0 ≡ name → ⊥)
      → any (same name from) (take i ts) ≡ false → any (same name from) (take (i + 1) ts) ≡ false
  among-no-name p = among_next (rw (ne_eqb _ _ (λ z. p (sym h.is.name ∙ z))))

  pub among-no-origin :
      get_or file (at + 4) 0 ≡ name → (get_or file (at + 5) 0 ≡ from → ⊥) →
      any (same name from) (take i ts) ≡ false → any (same name from) (take (i + 1) ts) ≡ false
  among-no-origin p q = among_next (rw (eq-eqb _ _ (h.is.name ∙ p), ne_eqb _ _ (λ z. q (sym h.is.from ∙ z))))

-- the first i transitions have been passed, and none repeats an earlier one
pub record Passed (ts : List Transition) (i : ℕ) : Type 0 where
  pub earlier : List Transition
  pub rest : first_repeat [] ts ≡ first_repeat earlier (drop i ts)
  pub same-any : (p : Transition → Bool) → any p earlier ≡ any p (take i ts)

pub passed_none : (ts : List Transition) → Passed ts 0
unfolding any
passed_none ts = record { earlier = []; rest = refl; same-any = λ p. refl }

module _ {file : List ℕ} {vars S at i : ℕ} {ts : List Transition} (h : Nth file vars S ts at i) (w : Passed ts i) where
  -- whether the i-th repeats an earlier one
  Repeats : Bool
  Repeats = any (same (get_or file (at + 4) 0) (get_or file (at + 5) 0)) (take i ts)

  repeats : any (same h.value.name h.value.from) w.earlier ≡ Repeats
  unfolding Repeats
  repeats = w.same-any (same h.value.name h.value.from) ∙ rw (h.is.name, h.is.from)

  pub repeat-here : true ≡ any (same (get_or file (at + 4) 0) (get_or file (at + 5) 0)) (take i ts) → first_repeat [] ts ≡ some at
  unfolding first_repeat Repeats
  repeat-here e = w.rest ∙ rw (h.here, repeats, ← e) (ap some h.is.placed)

  pub repeat-next : false ≡ any (same (get_or file (at + 4) 0) (get_or file (at + 5) 0)) (take i ts) → Passed ts (i + 1)
  unfolding first_repeat any Repeats
  repeat-next e =
      record {
        earlier = h.value ∷ w.earlier;
        rest = w.rest ∙ rw (h.here, repeats, ← e, add-one);
        same-any = λ p. rw add-one (swap p ∙ sym (any-more p i ts _ h.value h.here));
      }
    where
      swap : (p : Transition → Bool) → (p h.value || any p w.earlier) ≡ (any p (take i ts) || p h.value)
      swap p = or_comm (p h.value) (any p w.earlier) ∙ rw (w.same-any p)

pub repeat-end : {ts : List Transition} {i : ℕ} → Passed ts i → drop i ts ≡ [] → first_repeat [] ts ≡ none
unfolding first_repeat
repeat-end w e = w.rest ∙ rw e

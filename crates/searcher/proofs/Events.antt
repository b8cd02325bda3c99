-- How a rule stands, one event at a time.
use Rattle.std.specs.Prelude.{Some}
use Prim.Native.Nat.{ℕ, suc, zero, ◌-◌, ◌≤◌}
use mathlib.Core.Path.{◌≡◌, refl, sym, ap, subst, subst₂, ◌∙◌}
use mathlib.Core.Bool.{Bool, true, false, ◌&&◌, ◌||◌, beq}
use mathlib.Core.Bool
use Rattle.std.proofs.Math.Bool.{or-true, or-false}
use mathlib.Core.List.{List, [], ◌∷◌}
use mathlib.Core.Logic.{◌⊎◌, inl, inr}
use borrow.Author.Tests.{eq-eqb, ne_eqb}
use lib.Dec.{eqb}
use lib.ListN.{length, get_or, take, drop, length-drop, replicate}
use lib.Seq.{take_all}
use native.Mathlib.Omega.{arith}
use Rattle.rules.specs.declared.State.{State}
use Rattle.rules.specs.Values.{Value}
use Rattle.rules.specs.Basics.{any}
use Rattle.rules.specs.Syntax.{Expr, constant, variable, local, argument, context, binary, not, Rule, always, not_after, only_after}
use Rattle.rules.specs.Values.{View, on_value, negated, evaluate}
use Rattle.rules.specs.Judging.{Event, not_true, violated, later, unpreceded, breaks_by}
use Rattle.records.specs.Acceptance.{Accepted}
use Rattle.access.specs.declared.RuleAt.{RuleAt}
use Rattle.access.specs.declared.RuleAt.TheVariants.{Always, NotAfter, OnlyAfter}
use Rattle.searcher.specs.declared.Status.{Status}
use Rattle.searcher.specs.Standing.{ExpressionAt, HeldAs, breaks_after, names}

-- ---- an expression's value in a rule: there are no locals and no arguments, and the code lends zeros

pub zeros : (n i : ℕ) → ◌≡◌ {A = ℕ} (get_or (replicate n 0) i 0) 0
zeros zero i = refl
zeros (suc n) zero = refl
zeros (suc n) (suc i) = zeros n i

abbrev lent : (variables locals arguments : List ℕ) (own state : ℕ) → View
lent v l a own s = record { variables = v; locals = l; arguments = a; context = 0 ∷ 0 ∷ own ∷ s ∷ [] }

blank : (v : List ℕ) (own s n m : ℕ) (e : Expr) → evaluate (lent v (replicate n 0) (replicate m 0) own s) e ≡ evaluate (lent v [] [] own s) e
unfolding evaluate
blank v own s n m (constant x) = refl
blank v own s n m (variable i) = refl
blank v own s n m (local i) = ap Some (zeros n i)
blank v own s n m (argument i) = ap Some (zeros m i)
blank v own s n m (context i) = refl
blank v own s n m (binary o l r) = rw (blank v own s n m l, blank v own s n m r)
blank v own s n m (not e) = ap (on_value negated) (blank v own s n m e)

-- the value that the code finds at an offset tells whether the expression there is violated
module _ (file : List ℕ) (at : ℕ) where
  abbrev rest : List ℕ
  rest = take (length file - at) (drop at file)

  from-here : at ≤ length file → rest ≡ drop at file
  from-here h = take_all (length file - at) (drop at file) (omega (arith, length-drop at file))

  pub here : (e : Expr) → ExpressionAt file at e → (g : Accepted rest) × (g.tree ≡ e)
  here e h = h.accepted rest (from-here h.within)

  pub violated-by : (s : State) (v : Value) → ((g : Accepted rest) → v ≡ evaluate (lent s.variables (replicate 8 0) (replicate 4 0) s.own s.state) g.tree)
      → (e : Expr) → ExpressionAt file at e → not_true v ≡ violated e s
  unfolding violated
  violated-by s v h e k =
      let g = here e k in
      ap not_true (h g.0 ∙ rw g.1 (blank s.variables s.own s.state 8 4 e))

-- ---- a rule by the type that the code holds

module _ (file : List ℕ) (r : RuleAt) (P : Rule → Type 0) where
  pub type-one : (at : ℕ) (rule : Rule) → HeldAs file rule r → r ≡ Always at → ((e : Expr) → ExpressionAt file at e → P (always e)) → P rule
  type-one at (always e) h k f = let z : h.0 ≡ at = cc (h.1, k) in f e (subst (λ (n : ℕ). ExpressionAt file n e) z h.2)
  type-one at (not_after p q) h k f = absurd cc
  type-one at (only_after p q) h k f = absurd cc

  pub type-two : (p q : ℕ) (rule : Rule) → HeldAs file rule r → r ≡ NotAfter p q → P (not_after p q) → P rule
  type-two p q (always e) h k f = absurd (cc (h.1, k))
  type-two p q (not_after a b) h k f = let y : p ≡ a = cc in let z : q ≡ b = cc in subst₂ (λ p q. P (not_after p q)) y z f
  type-two p q (only_after a b) h k f = absurd cc

  pub type-three : (p q : ℕ) (rule : Rule) → HeldAs file rule r → r ≡ OnlyAfter p q → P (only_after p q) → P rule
  type-three p q (always e) h k f = absurd (cc (h.1, k))
  type-three p q (not_after a b) h k f = absurd cc
  type-three p q (only_after a b) h k f = let y : p ≡ a = cc in let z : q ≡ b = cc in subst₂ (λ p q. P (only_after p q)) y z f

-- by the end of the events es a rule has broken from how it stands at t as it has from s with one event before them
abbrev pub Follows : (t s : Status) → Event → List Event → Rule → Type 0
Follows t s v es rule = breaks_after rule t es ≡ breaks_after rule s (v ∷ es)

-- ---- how a rule stands at first

pub begins-always : (e : Expr) (s : State) (b : Bool) → b ≡ violated e s → (es : List Event)
    → breaks_after (always e) (record { broken = b; seen = false }) es ≡ breaks_by (always e) s es
unfolding breaks_after breaks_by
begins-always e s b h es = rw h

pub begins-other : (file : List ℕ) (r : RuleAt) (rule : Rule) → HeldAs file rule r → ((at : ℕ) → r ≡ Always at → ⊥) → (s : State) (es : List Event)
    → breaks_after rule (record { broken = false; seen = false }) es ≡ breaks_by rule s es
unfolding breaks_after breaks_by
begins-other file r (always e) h k s es = absurd (k h.0 h.1)
begins-other file r (not_after p q) h k s es = refl
begins-other file r (only_after p q) h k s es = refl

-- ---- what an event does to how a rule stands

pub ends : (r : Rule) (s : Status) → breaks_after r s [] ≡ s.broken
unfolding breaks_after any later unpreceded
ends (always e) s = or-false s.broken
ends (not_after p q) s = go s.broken s.seen
  where
    go : (b c : Bool) → b || (c && false || false) ≡ b
    go true c = refl
    go false true = refl
    go false false = refl
ends (only_after p q) s = go s.broken s.seen
  where
    go : (b c : Bool) → b || (Bool.not c && false) ≡ b
    go true c = refl
    go false true = refl
    go false false = refl

module _ (e : Expr) (s : Status) (v : Event) (es : List Event) where
  pub always-broken : true ≡ violated e v.state → breaks_after (always e) (record { broken = true; seen = s.seen }) es ≡ breaks_after (always e) s (v ∷ es)
  unfolding breaks_after any
  always-broken h = rw (← h) (sym (or-true s.broken))

  pub always-kept : false ≡ violated e v.state → breaks_after (always e) s es ≡ breaks_after (always e) s (v ∷ es)
  unfolding breaks_after any
  always-kept h = rw (← h)

-- a call of this name counts as q
abbrev pub counted : (q : ℕ) → Status → (name : ℕ) → Status
counted q s n = record { broken = s.broken; seen = s.seen || eqb n q }

pub alike : (a b : Bool) → beq a b ≡ true → a ≡ b
alike true true h = refl
alike false false h = refl
alike true false h = sym h
alike false true h = h

pub unlike : (a b c : Bool) → beq a b ≡ false → b ≡ Bool.not c → a ≡ c
unlike true true c h k = absurd cc
unlike false false c h k = absurd cc
unlike true false true h k = refl
unlike true false false h k = absurd cc
unlike false true true h k = absurd cc
unlike false true false h k = refl

module _ (p q : ℕ) (s : Status) (v : Event) (es : List Event) where
  pub not-after-broken : v.name ≡ p → s.seen ≡ true → breaks_after (not_after p q) (record { broken = true; seen = s.seen }) es ≡ breaks_after (not_after p q) s (v ∷ es)
  unfolding breaks_after any later
  not-after-broken h k = rw (k, eq-eqb p v.name (sym h)) (sym (or-true s.broken))

  pub not-after-counted : (v.name ≡ p → ⊥) ⊎ (s.seen ≡ false) → breaks_after (not_after p q) (counted q s v.name) es ≡ breaks_after (not_after p q) s (v ∷ es)
  unfolding breaks_after any later
  not-after-counted (inl h) = rw (ne_eqb p v.name (λ k. h (sym k))) (go s.broken s.seen (eqb v.name q) (any (eqb p) (names es)) (later p q (names es)))
    where
      go : (b c d a l : Bool) → b || ((c || d) && a || l) ≡ b || (c && a || (d && a || l))
      go true c d a l = refl
      go false false d a l = refl
      go false true d true l = refl
      go false true true false l = refl
      go false true false false l = refl
  not-after-counted (inr h) = rw h

  pub only-after-broken : v.name ≡ p → s.seen ≡ false → breaks_after (only_after p q) (record { broken = true; seen = s.seen }) es ≡ breaks_after (only_after p q) s (v ∷ es)
  unfolding breaks_after unpreceded
  only-after-broken h k = rw (k, eq-eqb v.name p h) (sym (or-true s.broken))

  pub only-after-counted : (v.name ≡ p → ⊥) ⊎ (s.seen ≡ true) → breaks_after (only_after p q) (counted q s v.name) es ≡ breaks_after (only_after p q) s (v ∷ es)
  unfolding breaks_after unpreceded
  only-after-counted (inl h) = rw (ne_eqb v.name p h) (go s.seen (eqb v.name q) (unpreceded p q (names es)))
    where
      go : (c d u : Bool) → s.broken || (Bool.not (c || d) && u) ≡ s.broken || (Bool.not c && (Bool.not d && u))
      go true d u = refl
      go false d u = refl
  only-after-counted (inr h) = rw h

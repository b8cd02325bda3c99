-- The whole table of an accepted agreement: each action is wired into it, and a call's entry is that of its transition.
use mathlib.Core.Path.{◌≡◌, refl, ◌∙◌, ap}
use Prim.Native.Nat.{ℕ, ◌+◌, ◌≤◌, ◌<◌}
use native.Mathlib.Omega.{arith}
use mathlib.Core.Bool.{Bool, false, ◌&&◌, ◌||◌}
use mathlib.Core.Option.{Option, none, some}
use mathlib.Core.List.{List, [], ◌∷◌, ◌++◌}
use lib.Dec.{eqb}
use Rattle.rules.specs.declared.Fields.{Fields}
use Rattle.rules.specs.Basics.{any, find}
use Rattle.rules.specs.Syntax.{Transition, Agreement}
use Rattle.rules.specs.Expanding.{Step, step, made, expand, expand_transitions, expansion}
use Rattle.rules.specs.Calling.{known, transition_of}
use Rattle.rules.specs.Stepping.{entry_of, entry_known}
use Rattle.rules.specs.Demands.{All}
use Rattle.laws.proofs.Basics.{if-by}
use Rattle.laws.proofs.Each.{all_append}
use Rattle.forms.proofs.Accepted.{Sound, Good}
use Rattle.forms.proofs.Lookups.{from, Away, gap, Outside, away, Quiet, quiet, Wired, wired, Same, same_first, same_second, same-tail}

-- ---- no step of a statement is a guard

-- a test that asks for a guard passes them over
abbrev Asks : (Step → Bool) → Type 0
Asks t = (s : Step) → eqb s.kind 1 ≡ false → t s ≡ false

find-quiet : (t : Step → Bool) → Asks t → (a b : List Step) → Quiet a → find t (a ++ b) ≡ find t b
unfolding find
find-quiet t h [] b q = refl
find-quiet t h (s ∷ a) b (All.more e q) = rw (h s e) (find-quiet t h a b q)

any-quiet : (t : Step → Bool) → Asks t → (a b : List Step) → Quiet a → any t (a ++ b) ≡ any t b
unfolding any
any-quiet t h [] b q = refl
any-quiet t h (s ∷ a) b (All.more e q) = rw (h s e) (any-quiet t h a b q)

-- ---- transitions

-- the guard's step to the node n
abbrev pub guard_step : Transition → (n : ℕ) → Step
guard_step t n = step t.from n 1 t.name t.guard_at

-- how many nodes they make
made_for : List Transition → ℕ
made_for [] = 0
made_for (t ∷ ts) = 1 + made t.action + made_for ts

-- the test for the entry of a call, and for its transition
abbrev is_entry : (name state : ℕ) → Step → Bool
is_entry name n s = eqb s.kind 1 && eqb s.name name && eqb s.origin n

abbrev is_of : (name state : ℕ) → Transition → Bool
is_of name n t = eqb t.name name && eqb t.from n

-- the test for a name
abbrev is_named : (name : ℕ) → Step → Bool
is_named name s = eqb s.kind 1 && eqb s.name name

-- a guard's step has the name if a transition bears it
known_same : (name : ℕ) (ts : List Transition) (n : ℕ) → any (is_named name) (expand_transitions ts n) ≡ any (λ (t : Transition). eqb t.name name) ts
unfolding expand_transitions any
known_same name [] n = refl
known_same name (t ∷ ts) n =
    ap (λ (b : Bool). eqb t.name name || b)
    (any-quiet (is_named name) (λ s e. rw e) (expand t.action n t.to t.to (n + 1)) _ (quiet t.action _ _ _ _)
    ∙ known_same name ts (n + 1 + made t.action))

module _ (file : List ℕ) (vars S : ℕ) where
  -- their steps leave states and new nodes only
  transitions-away : (ts : List Transition) (n p : ℕ) → All (Sound file vars S) ts → S ≤ p → Outside p n (made_for ts)
      → Away p (expand_transitions ts n)
  unfolding expand_transitions made_for
  transitions-away [] n p h g out = All.none
  transitions-away (t ∷ ts) n p (All.more h hs) g out =
      All.more (omega (arith, h.from-state))
      (all_append (expand t.action n t.to t.to (n + 1)) _ (away t.action n t.to t.to (n + 1) p (omega arith) (omega arith))
      (transitions-away ts (n + 1 + made t.action) p hs g (omega arith)))

  module _ (steps : List Step) where
    -- a call's entry in the table and its transition: neither is there, or both are, and the action is wired
    pub data Entry : Option Step → Option Transition → Type 0 where
      neither : Entry none none
      both : (t : Transition) (g : ℕ) → Sound file vars S t → Wired steps S t.action g t.to t.to (g + 1)
          → Entry (some (guard_step t g)) (some t)

    entry : (name st : ℕ) (ts : List Transition) (n : ℕ) → All (Sound file vars S) ts → S < n
        → ((p : ℕ) → gap p n (made_for ts) ≡ 0 → Same steps (expand_transitions ts n) p)
        → Entry (find (is_entry name st) (expand_transitions ts n)) (find (is_of name st) ts)
    unfolding expand_transitions made_for find
    entry name st [] n h g same = neither
    entry name st (t ∷ ts) n (All.more h hs) g same =
        let E : List Step = expand t.action n t.to t.to (n + 1) in
        let R : List Step = expand_transitions ts (n + 1 + made t.action) in
        -- past the guard's step
        let both-same : (p : ℕ) → gap p n (1 + made t.action + made_for ts) ≡ 0 → Same steps (E ++ R) p
        = λ p i. same-tail steps (guard_step t n) (E ++ R) p (omega (arith, h.from-state)) (same p i) in
        if-by Entry (eqb t.name name && eqb t.from st)
        (both t n h (wired steps S t.action n t.to t.to (n + 1) g (omega arith) λ p i.
        same_first steps E R p (transitions-away ts _ p hs (omega arith) (omega arith)) (both-same p (omega arith))))
        (rw (find-quiet (is_entry name st) (λ s e. rw e) E R (quiet t.action _ _ _ _))
        (entry name st ts (n + 1 + made t.action) hs (omega arith) λ p i.
        same_second steps E R p (away t.action n t.to t.to (n + 1) p (omega arith) (omega arith)) (both-same p (omega arith))))

-- ---- the table

module _ (file : List ℕ) (a : Agreement) (ok : Good file a) where
  abbrev f : Fields
  f = a.fields

  abbrev S : ℕ
  S = f.states

  abbrev T : List Step
  T = expansion a

  -- the next new node after the initial action, and after the fallback
  abbrev n₁ : ℕ
  n₁ = S + 3 + made a.initial

  abbrev n₂ : ℕ
  n₂ = n₁ + made a.fallback

  -- the table's three parts
  abbrev I : List Step
  I = expand a.initial (S + 2) f.start f.start (S + 3)

  abbrev F : List Step
  F = expand a.fallback (S + 1) S S n₁

  abbrev R : List Step
  R = expand_transitions a.transitions n₂

  parts : T ≡ I ++ F ++ R
  unfolding expansion
  parts = refl

  actions-quiet : Quiet (I ++ F)
  actions-quiet = all_append I F (quiet a.initial _ _ _ _) (quiet a.fallback _ _ _ _)

  before_same : (p : ℕ) → S ≤ p → p < n₂ → Same T (I ++ F) p
  before_same p h g = same_first T (I ++ F) R p (transitions-away file f.variables S a.transitions n₂ p ok.sound h (omega arith)) (ap (from p) parts)

  pub initial-wired : Wired T S a.initial (S + 2) f.start f.start (S + 3)
  initial-wired =
      wired T S a.initial (S + 2) f.start f.start (S + 3) (omega arith) (omega arith) λ p i.
      same_first T I F p (away a.fallback (S + 1) S S n₁ p (omega arith) (omega arith)) (before_same p (omega arith) (omega arith))

  pub fallback-wired : Wired T S a.fallback (S + 1) S S n₁
  fallback-wired =
      wired T S a.fallback (S + 1) S S n₁ (omega arith) (omega arith) λ p i.
      same_second T I F p (away a.initial (S + 2) f.start f.start (S + 3) p (omega arith) (omega arith)) (before_same p (omega arith) (omega arith))

  pub entry-is : (name st : ℕ) → Entry file f.variables S T (entry_of T name st) (transition_of a name st)
  unfolding entry_of transition_of
  entry-is name st =
      rw (ap (find (is_entry name st)) parts ∙ find-quiet (is_entry name st) (λ s e. rw e) (I ++ F) R actions-quiet)
      (entry file f.variables S T name st a.transitions n₂ ok.sound (omega arith) λ p i.
      same_second T (I ++ F) R p
      (all_append I F (away a.initial _ _ _ _ p (omega arith) (omega arith)) (away a.fallback _ _ _ _ p (omega arith) (omega arith)))
      (ap (from p) parts))

  pub known_is : (name : ℕ) → entry_known T name ≡ known a name
  unfolding entry_known known
  known_is name = ap (any (is_named name)) parts ∙ any-quiet (is_named name) (λ s e. rw e) (I ++ F) R actions-quiet ∙ known_same name a.transitions n₂

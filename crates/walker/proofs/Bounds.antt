-- An accepted file has at most 1,024 steps, and they leave nodes below 1,091.
use Prim.Native.Nat.{ℕ, zero, suc, ◌+◌, ◌≤◌, ◌<◌}
use mathlib.Core.Path.{◌≡◌, refl, ap, subst, ◌∙◌}
use mathlib.Core.Bool.{Bool, true, false}
use mathlib.Core.List.{List, [], ◌∷◌, ◌++◌}
use mathlib.Core.Logic.{◌≢◌}
use native.Mathlib.Omega.{arith}
use lib.Dec.{ltb}
use lib.ListN.{length, drop, length-append}
use borrow.Author.Tests.{ltb-true, ltb-false}
use Rattle.rules.specs.Syntax.{Transition, Agreement}
use Rattle.rules.specs.Expanding.{Step, made, expand, expand_transitions, expansion}
use Rattle.rules.specs.Accepting.{good, file_of}
use Rattle.rules.specs.Demands.{All}
use Rattle.records.proofs.StepCounts.{expand-length}
use Rattle.forms.proofs.Accepted.{Sound, file-good}
use Rattle.forms.proofs.Lookups.{all_append, Away, away}
use Rattle.access.proofs.Using.{accepted-read, few-steps, tree-bounds}
use Rattle.emitter.proofs.Counts.{made-few}
use Rattle.walker.specs.Tables.{Tabled, word_at, step_at}
use Rattle.walker.proofs.Tables.{Here, step-here}

transitions-away : (file : List ℕ) (vars S : ℕ) (ts : List Transition) (n p : ℕ) → All (Sound file vars S) ts → S ≤ p → n + length (expand_transitions ts n) ≤ p
    → Away p (expand_transitions ts n)
unfolding expand_transitions
transitions-away file vars S [] n p h g out = All.none
transitions-away file vars S (t ∷ ts) n p (All.more h hs) g out =
    let E = expand t.action n t.to t.to (n + 1) in
    let R = expand_transitions ts (n + 1 + made t.action) in
    let lt : t.from < S = h.from-state in
    let ne : t.from ≢ p = omega arith in
    let k : made t.action < length E = omega (arith, made-few t.action, expand-length t.action n t.to t.to (n + 1)) in
    let l : n + suc (length E + length R) ≤ p = omega (arith, length-append E R) in
    All.more ne (all_append E R (away t.action n t.to t.to (n + 1) p (omega arith) (omega arith))
    (transitions-away file vars S ts (n + 1 + made t.action) p hs g (omega arith)))

-- no step leaves a node from 1,091 on
none-high : (file : List ℕ) (a : Agreement) → file_of file ≡ good a → (p : ℕ) → 1091 ≤ p → Away p (expansion a)
unfolding expansion
none-high file a h p g =
    let S = a.fields.states in
    let s = a.fields.start in
    let n = S + 3 + made a.initial in
    let k = n + made a.fallback in
    let I = expand a.initial (S + 2) s s (S + 3) in
    let F = expand a.fallback (S + 1) S S n in
    let R = expand_transitions a.transitions k in
    let t = accepted-read file a h in
    let few : a.fields.states ≤ 64 = subst (λ (b : Agreement). b.fields.states ≤ 64) t.1 (tree-bounds t.0).fields.few-states in
    let long : length I + length F + length R ≤ 1024 = omega (arith, few-steps {file = file} (record { tree = a; is = h }), length-append (I ++ F) R, length-append I F) in
    let i : made a.initial < length I = omega (arith, made-few a.initial, expand-length a.initial (S + 2) s s (S + 3)) in
    let f : made a.fallback < length F = omega (arith, made-few a.fallback, expand-length a.fallback (S + 1) S S n) in
    all_append (I ++ F) R
    (all_append I F (away a.initial (S + 2) s s (S + 3) p (omega arith) (omega arith)) (away a.fallback (S + 1) S S n p (omega arith) (omega arith)))
    (transitions-away file a.fields.variables S a.transitions k p (file-good file a h).sound (omega arith) (omega arith))

-- a step of the list that leaves p
not-away : (p i : ℕ) (l : List Step) (s : Step) (r : List Step) → drop i l ≡ s ∷ r → s.origin ≡ p → Away p l → ⊥
not-away p zero (x ∷ l) s r e h (All.more g gs) = let z : x ≡ s = cc in g (ap (λ (s : Step). s.origin) z ∙ h)
not-away p (suc i) (x ∷ l) s r e h (All.more g gs) = not-away p i l s r e h gs
not-away p zero [] s r e h g = cc
not-away p (suc i) [] s r e h g = cc

-- what a loop over the steps goes by
pub record Within (words : List ℕ) (steps : List Step) (i : ℕ) : Type 0 where
  pub step : Here words steps i
  pub origin : word_at words i 0 < 1091

module _ {words : List ℕ} {count : ℕ} (t : Tabled words count) where
  pub few : count ≤ 1024
  few = omega (arith, t.counts, few-steps {file = t.file} (record { tree = t.expanded.tree; is = t.expanded.is }))

  pub within : (i : ℕ) → i < count → Within words (expansion t.expanded.tree) i
  within i h =
      let T = expansion t.expanded.tree in
      let s = step-here words T t.expanded.begins i (omega (arith, t.counts)) in
      record { step = s; origin = low (ltb (word_at words i 0) 1091) refl s }
    where
      low : (b : Bool) → ltb (word_at words i 0) 1091 ≡ b → Here words (expansion t.expanded.tree) i → word_at words i 0 < 1091
      low true e s = ltb-true (word_at words i 0) 1091 e
      low false e s =
          absurd (not-away (word_at words i 0) i (expansion t.expanded.tree) (step_at words i) _ s.here refl
          (none-high t.file t.expanded.tree t.expanded.is (word_at words i 0) (ltb-false (word_at words i 0) 1091 e)))

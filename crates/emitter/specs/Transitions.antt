-- Transition records that the reading accepts, and their steps.
use Rattle.std.specs.Prelude.{ℕ, ◌+◌, ◌*◌, ◌^◌, ◌≤◌, ◌<◌, List, ◌∷◌, ◌≡◌, length}
use Rattle.rules.specs.Syntax.{Transition}
use Rattle.rules.specs.Reading.{read, child, transition_body}
use Rattle.rules.specs.Expanding.{Step, step, made, expand, table}
use Rattle.records.specs.Counting.{step_count}
use Rattle.emitter.specs.declared.Next.{Next}
use Rattle.emitter.specs.Writing.{over}

-- the bytes begin with a transition record
pub record GoodTransition (bytes : List ℕ) : Type 0 where
  pub vars : ℕ
  pub states : ℕ
  pub start : ℕ
  pub at : ℕ
  pub tree : Transition
  pub to : ℕ
  pub rest : List ℕ
  pub few : vars ≤ 16
  pub reads : child (λ _. transition_body vars states) start at bytes ≡ read tree to rest

-- "each making g, a guard step from its 'from' to g, then its action from g (d and r its 'to')": one element of `expand_transitions`
unfoldable pub transition_steps : Transition → (n : ℕ) → List Step
transition_steps t n = step t.from n 1 t.name t.guard_at ∷ expand t.action n t.to t.to (n + 1)

-- its steps were written and its nodes made from x on, and expanding goes on at r
pub record TransitionExpanded (t : Transition) (x : Next) (before after : List ℕ) (r : Next) : Type 0 where
  pub words : after ≡ over x.step (table (transition_steps t x.node)) before
  pub node : r.node ≡ x.node + 1 + made t.action
  pub step : r.step ≡ x.step + (1 + step_count t.action)

-- a transition that was read in these bytes can be expanded, as `Writing.Fit` says it of a statement
pub record TransitionFit (t : Transition) (found at : ℕ) (x : Next) (bytes words : List ℕ) : Type 0 where
  pub here : found ≡ at
  pub offsets : at + length bytes < 2 ^ 32
  pub nodes : x.node + 1 + made t.action < 2 ^ 32
  pub room : 5 * (x.step + (1 + step_count t.action)) ≤ length words

abbrev pub TransitionExpandable : (at : ℕ) (x : Next) (bytes words : List ℕ) → Type 0
TransitionExpandable at x bytes words = (a : GoodTransition bytes) × TransitionFit a.tree a.at at x bytes words

abbrev pub TransitionExpands : (at : ℕ) (x : Next) (bytes before after : List ℕ) (r : Next) → Type 0
TransitionExpands at x bytes before after r =
    (a : GoodTransition bytes) → TransitionFit a.tree a.at at x bytes before → TransitionExpanded a.tree x before after r

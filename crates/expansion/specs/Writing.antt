-- Accepted files whose expansion is written, and what is written of an agreement's two actions.
use Rattle.std.specs.Prelude.{ℕ, ◌+◌, ◌*◌, ◌≤◌, List, ◌++◌, length}
use Rattle.rules.specs.Syntax.{Agreement}
use Rattle.rules.specs.Expanding.{Step, made, expand, expansion, fallback_end, fallback_entry, initial_entry, first_new}
use Rattle.access.specs.Trees.{AcceptedFile}
use Rattle.emitter.specs.declared.Next.{Next}
use Rattle.emitter.specs.Writing.{Wrote}

-- the file is accepted, and the words have room for its steps
pub record Writable (file words : List ℕ) : Type 0 where
  pub accepted : AcceptedFile file
  pub room : 5 * length (expansion accepted.tree) ≤ length words

-- "initial action (d and r the start state), fallback (d and r node S)": what `expansion` begins with
unfoldable pub action_steps : Agreement → List Step
action_steps a =
    let f = a.fields in
    expand a.initial (initial_entry f.states) f.start f.start (first_new f.states)
    ++ expand a.fallback (fallback_entry f.states) (fallback_end f.states) (fallback_end f.states) (first_new f.states + made a.initial)

abbrev pub action_nodes : Agreement → ℕ
action_nodes a = made a.initial + made a.fallback

-- they were written from the first step on
abbrev pub ActionsWrote : (a : Agreement) (before after : List ℕ) (r : Next) → Type 0
ActionsWrote a before after r =
    Wrote (action_steps a) (action_nodes a) (record { node = first_new a.fields.states; step = 0 }) before after r

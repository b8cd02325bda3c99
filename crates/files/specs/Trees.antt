-- The parts of an agreement after its two actions, and the number of steps.
use Rattle.std.specs.Prelude.{ℕ, List, map, length}
use Rattle.rules.specs.declared.Call.{Call}
use Rattle.rules.specs.Basics.{sum}
use Rattle.rules.specs.Syntax.{Transition, Rule, Agreement}
use Rattle.rules.specs.Reading.{Reader, ◌>>=◌, ◌>>◌, pure, group, no_more, transition_body, rule_body, row_body}
use Rattle.rules.specs.Expanding.{expansion}
use Rattle.files.specs.FieldAnswers.{value_at}
use Rattle.files.specs.Members.{transition_steps}

-- the number of steps of an agreement's expansion
abbrev pub tree_steps : Agreement → ℕ
tree_steps a = length (expansion a)

-- transitions, call rows and rules, up to the end of the agreement's record
unfoldable pub groups : (states vars accounts : ℕ) → Reader (List Transition × List Call × List Rule)
groups states vars accounts = do
  ts ← group 64 2 (transition_body vars states)
  cs ← group 16 3 (row_body accounts)
  rs ← group 8 4 (rule_body vars (map (λ (t : Transition). t.name) ts))
  no_more
  pure (ts, cs, rs)

-- those of the agreement with this body
abbrev pub groups_of : (body : List ℕ) → Reader (List Transition × List Call × List Rule)
groups_of body = groups (value_at 1 0 body) (value_at 1 1 body) (value_at 1 2 body)

abbrev pub groups_steps : List Transition × List Call × List Rule → ℕ
groups_steps g = sum (map transition_steps g.0)

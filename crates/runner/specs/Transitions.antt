-- The transition that a call goes by.
use Rattle.std.specs.Prelude.{ℕ, ◌+◌, ◌≤◌, List, length}
use Rattle.records.specs.Acceptance.{Accepted, Good}
use Rattle.records.specs.Checking.{from}
use Rattle.access.specs.Places.{action_at}

-- a transition's guard and action, by the offset of its record
pub record Moves (file : List ℕ) (at : ℕ) : Type 0 where
  pub fits : at + 12 ≤ length file
  pub guard : Accepted (from (at + 8) file)
  pub within : action_at file at ≤ length file
  pub action : Good (from (action_at file at) file)

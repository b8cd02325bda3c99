use Prim.Native.Nat.{◌+◌, ◌*◌, ◌≤◌}
use mathlib.Core.Path.{◌≡◌}
use lib.ListN.{length}
use Rattle.rules.specs.Reading.{statements, statement}
use Rattle.records.specs.Checking.{outcome, of_part}
use Rattle.records.specs.Counting.{block_count}
use Rattle.records.proofs.BlockLaws.{Rest}
use Rattle.records.proofs.statements.+statement.Given as goal

abbrev pub invariant-check_block-loop-read : goal.invariant-check_block-loop-read
invariant-check_block-loop-read l =
    (l.b.at + l.steps ≤ l.rest.at)
    × (l.rest.at + length l.rest.bytes.now ≡ l.b.at + length l.b.bytes.now)
    × Rest l.variables l.levels l.rest.start (outcome block_count (of_part (statements (length l.b.bytes.now) (statement l.variables l.levels)) l.b)) l.rest.at l.rest.bytes.now l.steps

abbrev pub decreases-check_block-loop-read : goal.decreases-check_block-loop-read
decreases-check_block-loop-read l = length l.rest.bytes.now

abbrev pub decreases-check_block : goal.decreases-check_block
decreases-check_block l = 4 * l.levels + 1

abbrev pub decreases-check_body : goal.decreases-check_body
decreases-check_body l = 4 * l.levels + 3

abbrev pub decreases-check_if : goal.decreases-check_if
decreases-check_if l = 4 * l.levels + 2

abbrev pub decreases-check_statement : goal.decreases-check_statement
decreases-check_statement l = 4 * l.levels

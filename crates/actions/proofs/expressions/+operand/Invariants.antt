-- The measures: the number of bytes; `operand` calls `evaluate` on the same bytes.
use Prim.Native.Nat.{◌+◌, ◌*◌}
use lib.ListN.{length}
use Rattle.actions.proofs.expressions.+operand.Given as goal

abbrev pub decreases-evaluate : goal.decreases-evaluate
decreases-evaluate l = 2 * length l.s.now

abbrev pub decreases-operand : goal.decreases-operand
decreases-operand l = 2 * length l.s.now + 1

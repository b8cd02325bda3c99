use Prim.Native.Nat.{◌+◌, ◌*◌}
use Rattle.records.proofs.expressions.+expression.Given as goal

abbrev pub decreases-check_expression : goal.decreases-check_expression
decreases-check_expression l = 2 * l.levels

abbrev pub decreases-check_body : goal.decreases-check_body
decreases-check_body l = 2 * l.levels + 1

-- `half` meets its contract.
use mathlib.Core.Path.{◌∙◌}
use native.Mathlib.Omega.{arith}
use Rattle.files.proofs.FieldLaws.{value_there, value-short}
use Rattle.files.proofs.values.half.Goals as goal

pub returns-then-i-b : goal.returns-then-i-b
returns-then-i-b c = c.u16_at.ensures.0 ∙ value_there 2 c.args.i c.args.b.now c.if-i-b.true

pub returns-else-i-b : goal.returns-else-i-b
returns-else-i-b c = value-short 2 c.args.i c.args.b.now (omega arith) c.if-i-b.false

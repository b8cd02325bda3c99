-- Entry by entry.
use native.Mathlib.Omega.{arith}
use Rattle.runner.proofs.Numbers.{state-from-is}
use Rattle.runner.proofs.layout.state_from.Goals as goal

pub returns : goal.returns
returns c = state-from-is c.args.words.now (omega arith)

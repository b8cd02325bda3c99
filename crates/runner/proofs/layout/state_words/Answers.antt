-- Entry by entry.
use native.Mathlib.Omega.{arith}
use Rattle.runner.proofs.Numbers.{state-words-is}
use Rattle.runner.proofs.layout.state_words.Goals as goal

pub returns : goal.returns
returns c = state-words-is c.args.s.now (omega arith) (omega arith)

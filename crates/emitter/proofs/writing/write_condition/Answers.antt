-- Its two steps are written one after the other.
use native.Mathlib.Omega.{arith}
use Rattle.emitter.proofs.Words.{wrote-two}
use Rattle.emitter.proofs.writing.write_condition.Goals as goal

pub returns : goal.returns
returns c =
    wrote-two c.requires.0 c.unnamed.ensures c.unnamed-2.ensures c.write_step.ensures c.write_step-2.ensures (omega arith) c.after.ensures.step

-- The five words are copied in place of as many.
use mathlib.Core.Path.{◌∙◌}
use native.Mathlib.Omega.{arith}
use Rattle.emitter.specs.Steps.{as_step}
use Rattle.emitter.proofs.Words.{one-over}
use Rattle.emitter.proofs.writing.write_step.Goals as goal

pub returns : goal.returns
returns c =
    let a = c.args in
    one-over a.i (as_step a.step) _ a.words.now c.copy_from_slice.new.self (omega arith) (c.copy_from_slice.ensures.after ∙ c.from.ensures)

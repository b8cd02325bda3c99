-- The charge is refused, or it goes through and the condition has a value.
use Rattle.std.proofs.Common.{◌∙◌}
use Rattle.actions.proofs.OneStep.{condition_does, condition_stops}
use Rattle.actions.proofs.steps.test.Goals as goal

pub returns-in_err-charge : goal.returns-in_err-charge
returns-in_err-charge c = condition_stops _ _ _ _ c.in_err-charge.ensures _ c.from_residual.ensures.1

pub returns : goal.returns
returns c = λ a. c.test.ensures _ ∙ condition_does _ _ c.in_ok-charge.ensures c.value.ensures a

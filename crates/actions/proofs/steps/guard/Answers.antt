-- The charge is refused, or it goes through and the guard has a value.
use Rattle.std.proofs.Common.{◌∙◌}
use Rattle.actions.proofs.OneStep.{guard_does, guard_stops}
use Rattle.actions.proofs.steps.guard.Goals as goal

pub returns-in_err-charge : goal.returns-in_err-charge
returns-in_err-charge c = guard_stops _ _ _ _ c.in_err-charge.ensures _ c.from_residual.ensures.1

pub returns : goal.returns
returns c = λ a. c.guard.ensures _ ∙ guard_does _ _ c.in_ok-charge.ensures c.value.ensures a

-- The value of an operation, from those of its operands.
use Rattle.std.proofs.Common.{sym, ◌∙◌}
use Rattle.actions.proofs.Operations.{left_failed, right_failed, applied, not_applied}
use Rattle.actions.proofs.expressions.+operand.Goals as goal

pub evaluate-returns-in_err-x-in-80 : goal.evaluate-returns-in_err-x-in-80
evaluate-returns-in_err-x-in-80 t c =
    rw c.from_residual.ensures
    (left_failed _ c.u16_at-n.ensures.0 c.u16_at-k.ensures.0 (sym c.u16_at.ensures.0 ∙ c.in-80.is) c.in_err-x-in-80.ensures)

pub evaluate-returns-in_err-y-in-80 : goal.evaluate-returns-in_err-y-in-80
evaluate-returns-in_err-y-in-80 t c =
    rw c.from_residual-in_err-y-in-80.ensures
    (right_failed _ c.u16_at-n.ensures.0 c.u16_at-k.ensures.0 (sym c.u16_at.ensures.0 ∙ c.in-80.is) c.in_ok-x-in-80.ensures c.in_err-y-in-80.ensures)

pub evaluate-returns-in_ok-y-in-80 : goal.evaluate-returns-in_ok-y-in-80
evaluate-returns-in_ok-y-in-80 t c =
    rw c.apply.ensures
    (applied _ c.u16_at-n.ensures.0 c.u16_at-k.ensures.0 (sym c.u16_at.ensures.0 ∙ c.in-80.is) c.in_ok-x-in-80.ensures c.in_ok-y-in-80.ensures
    c.u16_at-in-80.ensures.0)

pub evaluate-returns-in-81 : goal.evaluate-returns-in-81
evaluate-returns-in-81 t c =
    λ a. c.negation.ensures ∙ not_applied _ c.u16_at-n.ensures.0 (sym c.u16_at.ensures.0 ∙ c.in-81.is) c.operand-in-81.ensures a

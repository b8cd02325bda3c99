-- The charge is refused, or it goes through and the kind names what is done.
use Rattle.std.proofs.Common.{arith, ◌∙◌}
use Rattle.records.proofs.KindLaws.{done, ◌&◌, others, other-number, step_kinds}
use Rattle.actions.proofs.Simples.{no_other}
use Rattle.actions.proofs.OneStep.{perform_stops, set_does, transfer_does, require_does, return_does, charged_solvent}
use Rattle.actions.proofs.steps.perform.Goals as goal

pub returns-in_err-charge : goal.returns-in_err-charge
returns-in_err-charge c = perform_stops _ _ _ _ c.in_err-charge.ensures _ c.from_residual.ensures.1

pub pay_values-requires : goal.pay_values-requires
pay_values-requires c =
    let f = c.requires.1 in
    (f.few, charged_solvent _ _ c.in_ok-charge.ensures f.solvent)

pub returns-in-Ok-Set : goal.returns-in-Ok-Set
returns-in-Ok-Set c = λ a.
    c.assign_value.ensures
    ∙ set_does _ _ c.in_ok-charge.ensures c.u16_at-end.ensures.0 c.u16_at.ensures.0 (grind arith) c.u16_at-in-Ok-Set.ensures.0 c.value-v.ensures a

pub returns-in-Ok-Transfer : goal.returns-in-Ok-Transfer
returns-in-Ok-Transfer c = λ a.
    c.pay_values.ensures
    ∙ transfer_does _ _ c.in_ok-charge.ensures c.u16_at-end.ensures.0 c.u16_at.ensures.0 (grind arith) c.u16_at-k.ensures.0
    c.value-account.ensures c.value-amount.ensures a

pub returns-in-Ok-Require : goal.returns-in-Ok-Require
returns-in-Ok-Require c = λ a.
    c.require.ensures _
    ∙ require_does _ _ c.in_ok-charge.ensures c.u16_at-end.ensures.0 c.u16_at.ensures.0 (grind arith) c.value.ensures a

pub returns-in-Ok-Return : goal.returns-in-Ok-Return
returns-in-Ok-Return c = λ a.
    c.answer_value.ensures
    ∙ return_does _ _ c.in_ok-charge.ensures c.u16_at-end.ensures.0 c.u16_at.ensures.0 (grind arith) c.value-v-in-Ok-Return.ensures a

-- no accepted record has a number that is no kind's
pub returns-in_default-2 : goal.returns-in_default-2
returns-in_default-2 c = λ a. absurd (no_other a c.u16_at.ensures.0 (other-number (rw c.in_default.is at c.try_from.ensures) step_kinds))

pub returns-in_default : goal.returns-in_default
returns-in_default c = λ a. absurd (no_other a c.u16_at.ensures.0 (others (search (arith, ◌&◌, done))))

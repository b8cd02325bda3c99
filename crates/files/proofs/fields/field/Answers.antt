-- `field` meets its contract.
use mathlib.Core.Path.{◌∙◌}
use Rattle.records.proofs.Readers.{handed}
use Rattle.files.specs.FieldAnswers.{field_answer}
use Rattle.files.proofs.FieldLaws.{field-refused, field-present}
use Rattle.files.proofs.fields.field.Goals as goal

pub returns-in_err-field : goal.returns-in_err-field
returns-in_err-field c =
    let a = c.args in
    handed _ _ c.from_residual.ensures ∙ field-refused a.n a.i a.b.start a.b.at a.b.bytes.now a.good c.in_err-field.ensures

pub returns-then-good : goal.returns-then-good
unfolding field_answer
returns-then-good c =
    let a = c.args in
    rw (field-present a.n a.i a.b.start a.b.at a.b.bytes.now c.in_ok-field.ensures, c.if-good.true)

pub returns-else-good : goal.returns-else-good
unfolding field_answer
returns-else-good c =
    let a = c.args in
    rw (c.refused.ensures, field-present a.n a.i a.b.start a.b.at a.b.bytes.now c.in_ok-field.ensures, c.if-good.false)

-- `check_ranged` meets its contract.
use Rattle.std.proofs.Common.{sym, ◌∙◌}
use Rattle.rules.specs.Reading.{field}
use Rattle.records.specs.Checking.{no_steps}
use Rattle.records.proofs.Readers.{handed, none-on, ranged-refused, ranged-present, ranged-good, ranged-bad}
use Rattle.records.proofs.expressions.check_ranged.Goals as goal

pub returns-in_err-read : goal.returns-in_err-read
returns-in_err-read g c t h =
    let b = c.args.b in
    let e = none-on no_steps (field 2) b.start b.at b.bytes.now ∙ sym c.in_err-read.ensures in
    handed _ _ c.from_residual.ensures ∙ sym (ranged-refused t b.start b.at b.bytes.now e)

pub u16_at-requires : goal.u16_at-requires
u16_at-requires g c =
    let b = c.args.b in
    ranged-present b.start b.at b.bytes.now (none-on no_steps (field 2) b.start b.at b.bytes.now ∙ sym c.in_ok-read.ensures)

pub returns-then-test : goal.returns-then-test
returns-then-test g c t h =
    let b = c.args.b in
    let e = none-on no_steps (field 2) b.start b.at b.bytes.now ∙ sym c.in_ok-read.ensures in
    sym (ranged-good t b.start b.at b.bytes.now e (rw (← c.u16_at.ensures.0) (sym (h _ _ c.test.ensures) ∙ c.if-test.true)))

pub returns : goal.returns
returns g c t h =
    let b = c.args.b in
    let e = none-on no_steps (field 2) b.start b.at b.bytes.now ∙ sym c.in_ok-read.ensures in
    rw c.refused.ensures (sym (ranged-bad t b.start b.at b.bytes.now e (rw (← c.u16_at.ensures.0) (sym (h _ _ c.test.ensures) ∙ c.if-test.false))))

-- `check_loop_set` meets its contract.
use mathlib.Core.Path.{sym, ◌∙◌}
use Rattle.records.proofs.Readers.{handed}
use Rattle.records.proofs.StatementLaws.{loop-set-unopened, loop-set-kind, loop-set-ended}
use Rattle.records.proofs.sets.check_loop_set.Goals as goal

pub returns-in_err-record : goal.returns-in_err-record
returns-in_err-record c = rw (handed _ _ c.from_residual.ensures) (loop-set-unopened c.args.variables c.args.levels c.args.p c.in_err-record.ensures)

pub returns-then-record-number : goal.returns-then-record-number
returns-then-record-number c =
    let r = c.in_ok-record.ensures in
    rw (c.refused.ensures, loop-set-kind _ _ _ r.0 _ r.1 λ e. c.if-record-number.true (e ∙ sym c.number.ensures))

pub returns-in_err-check_set : goal.returns-in_err-check_set
returns-in_err-check_set c =
    let r = c.in_ok-record.ensures in
    rw (handed _ _ c.from_residual-in_err-check_set.ensures, loop-set-ended _ _ _ r.0 _ r.1 (c.if-record-number.false ∙ c.number.ensures))
    (rw (← c.in_err-check_set.ensures))

pub returns : goal.returns
returns c =
    let r = c.in_ok-record.ensures in
    rw (c.closed.ensures, loop-set-ended _ _ _ r.0 _ r.1 (c.if-record-number.false ∙ c.number.ensures), ← c.in_ok-check_set.ensures)

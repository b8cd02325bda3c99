-- `check_row` meets its contract.
use mathlib.Core.Path.{◌≡◌}
use native.Mathlib.Omega.{arith}
use Rattle.records.proofs.Readers.{handed}
use Rattle.files.proofs.FieldLaws.{found-there}
use Rattle.files.proofs.MemberLaws.{row_answers, row-answer}
use Rattle.files.proofs.members.check_row.Goals as goal

pub returns-in_err-and : goal.returns-in_err-and
returns-in_err-and c =
    let b = c.args.b in
    let h : row_answers b.start b.at b.bytes.now c.args.accounts ≡ c.and-3.result = cc in
    rw (handed _ _ c.from_residual.ensures, row-answer _ _ _ _, h, c.in_err-and.was)

pub words-requires : goal.words-requires
words-requires c =
    let b = c.args.b in
    (found-there 1 3 b.start b.at b.bytes.now _ (omega arith) _ c.field-4.ensures c.in_ok-and.ensures, omega arith)

pub returns : goal.returns
returns c =
    let b = c.args.b in
    let h : row_answers b.start b.at b.bytes.now c.args.accounts ≡ c.and-3.result = cc in
    rw (row-answer _ _ _ _, h, c.in_ok-and.was) c.words.ensures

-- `check_transfer` meets its contract.
use mathlib.Core.Bool.{false}
use Rattle.records.proofs.Readers.{handed, fits, no-steps, added_none}
use Rattle.records.proofs.ExpressionLaws.{steady-expression}
use Rattle.records.proofs.StatementKinds.{transfer-onward}
use Rattle.records.proofs.statements.check_transfer.Goals as goal

pub returns-in_err-account : goal.returns-in_err-account
returns-in_err-account c = rw (handed _ _ c.from_residual.ensures, transfer-onward _ _ _ _ _, ← c.in_err-account.ensures)

pub after-requires : goal.after-requires
after-requires c = fits (steady-expression c.args.variables false c.args.levels) c.args.b c.in_ok-account.ensures

pub returns : goal.returns
returns c =
    let a = c.after.ensures in
    rw (transfer-onward _ _ _ _ _, ← c.in_ok-account.ensures, ← a.bytes, ← a.at, ← a.start, ← c.check_value-2.ensures)
    (added_none _ _ (no-steps _ c.in_ok-account.ensures))

-- `check_for_head` meets its contract.
use mathlib.Core.Bool.{false}
use native.Mathlib.Omega.{arith}
use Rattle.records.proofs.Readers.{handed, fits, fits-on, no-steps, added_none}
use Rattle.records.proofs.ExpressionLaws.{steady-expression}
use Rattle.records.proofs.StatementLaws.{steady-loop-set}
use Rattle.records.proofs.StatementKinds.{for-head}
use Rattle.records.proofs.statements.check_for_head.Goals as goal

pub returns-in_err-initial : goal.returns-in_err-initial
returns-in_err-initial c = rw (handed _ _ c.from_residual.ensures, for-head _ _ _ _ _, ← c.in_err-initial.ensures)

pub after-requires : goal.after-requires
after-requires c = fits (steady-loop-set c.args.variables c.args.levels) c.args.b c.in_ok-initial.ensures

pub returns-in_err-condition : goal.returns-in_err-condition
returns-in_err-condition c =
    let a = c.after.ensures in
    rw (handed _ _ c.from_residual-in_err-condition.ensures, for-head _ _ _ _ _, ← c.in_ok-initial.ensures, ← a.bytes, ← a.at, ← a.start, ← c.in_err-condition.ensures)

pub after-requires-2 : goal.after-requires-2
after-requires-2 c =
    let a = c.after in
    fits-on (steady-expression c.args.variables false c.args.levels) c.args.b a.result a.ensures.goes a.ensures.ends c.in_ok-condition.ensures

pub returns : goal.returns
returns c =
    let a = c.after.ensures in
    let d = c.after-2.ensures in
    rw (for-head _ _ _ _ _, ← c.in_ok-initial.ensures, ← a.bytes, ← a.at, ← a.start, ← c.in_ok-condition.ensures)
    (rw (a.start, ← d.bytes, ← d.at, ← d.start, ← c.check_loop_set-2.ensures)
    (added_none _ _ (omega (arith, no-steps _ c.in_ok-initial.ensures, no-steps _ c.in_ok-condition.ensures))))

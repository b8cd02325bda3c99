-- `check_transition` meets its contract.
use mathlib.Core.Bool.{false}
use mathlib.Core.Path.{ap₂}
use native.Mathlib.Omega.{arith}
use Rattle.records.specs.Checking.{found}
use Rattle.records.proofs.Readers.{handed, reaches, fits, fits-on}
use Rattle.records.proofs.ExpressionLaws.{steady-expression}
use Rattle.records.proofs.StatementLaws.{steady-statement}
use Rattle.files.proofs.Steadies.{steady-transition-head}
use Rattle.files.proofs.MemberLaws.{transition-onward}
use Rattle.files.proofs.members.check_transition.Goals as goal

pub returns-in_err-head : goal.returns-in_err-head
returns-in_err-head c = rw (handed _ _ c.from_residual.ensures, transition-onward _ _ _ _ _, ← c.in_err-head.ensures)

pub after-requires : goal.after-requires
after-requires c = fits (steady-transition-head c.args.states 0 (omega arith)) c.args.b c.in_ok-head.ensures

pub returns-in_err-guard : goal.returns-in_err-guard
returns-in_err-guard c =
    let a = c.after.ensures in
    rw (handed _ _ c.from_residual-in_err-guard.ensures, transition-onward _ _ _ _ _, ← c.in_ok-head.ensures, ← a.bytes, ← a.at, ← a.start, ← c.in_err-guard.ensures)

pub after-requires-2 : goal.after-requires-2
after-requires-2 c =
    let a = c.after in
    fits-on (steady-expression c.args.variables false 14) c.args.b a.result a.ensures.goes a.ensures.ends c.in_ok-guard.ensures

pub returns-in_err-action : goal.returns-in_err-action
returns-in_err-action c =
    let a = c.after.ensures in
    let d = c.after-2.ensures in
    rw (handed _ _ c.from_residual-in_err-action.ensures, transition-onward _ _ _ _ _, ← c.in_ok-head.ensures, ← a.bytes, ← a.at, ← a.start, ← c.in_ok-guard.ensures)
    (rw (a.start, ← d.bytes, ← d.at, ← d.start, ← c.in_err-action.ensures))

pub more-requires : goal.more-requires
more-requires c =
    let d = c.after-2 in
    let x = reaches (steady-statement c.args.variables 14) d.result c.in_ok-action.ensures in
    omega (arith, x.pays, x.high, d.ensures.ends, c.args.b.fits)

pub returns : goal.returns
returns c =
    let a = c.after.ensures in
    let d = c.after-2.ensures in
    rw (transition-onward _ _ _ _ _, ← c.in_ok-head.ensures, ← a.bytes, ← a.at, ← a.start, ← c.in_ok-guard.ensures)
    (rw (a.start, ← d.bytes, ← d.at, ← d.start, ← c.in_ok-action.ensures) (ap₂ found c.more.ensures.0 c.more.ensures.1))

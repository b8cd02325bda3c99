-- `check_agreement` meets its contract.
use Prim.Native.Nat.{◌+◌}
use mathlib.Core.Path.{◌≡◌, ap₂}
use native.Mathlib.Omega.{arith}
use Rattle.records.specs.Checking.{found}
use Rattle.records.proofs.Readers.{handed, reaches, fits, fits-on, no-steps}
use Rattle.records.proofs.StatementLaws.{steady-statement}
use Rattle.files.proofs.Steadies.{steady-fields-body, steady-groups}
use Rattle.files.proofs.TreeLaws.{tree-onward}
use Rattle.files.proofs.agreement.check_agreement.Goals as goal

pub returns-in_err-fields : goal.returns-in_err-fields
returns-in_err-fields c = rw (handed _ _ c.from_residual.ensures, ← tree-onward _ _ _, ← c.in_err-fields.ensures)

pub after-requires : goal.after-requires
after-requires c = fits steady-fields-body c.args.b c.in_ok-fields.ensures

pub returns-in_err-initial : goal.returns-in_err-initial
returns-in_err-initial c =
    let a = c.after.ensures in
    rw (handed _ _ c.from_residual-in_err-initial.ensures)
    (rw (← tree-onward _ _ _, ← c.byte-2.ensures.0, ← c.in_ok-fields.ensures, ← a.bytes, ← a.at, ← a.start, ← c.in_err-initial.ensures))

pub after-requires-2 : goal.after-requires-2
after-requires-2 c =
    let a = c.after in
    fits-on (steady-statement c.byte-2.result 15) c.args.b a.result a.ensures.goes a.ensures.ends c.in_ok-initial.ensures

pub returns-in_err-check_statement : goal.returns-in_err-check_statement
returns-in_err-check_statement c =
    let a = c.after.ensures in
    let d = c.after-2.ensures in
    rw (handed _ _ c.from_residual-in_err-check_statement.ensures, ← tree-onward _ _ _, ← c.byte-2.ensures.0)
    (rw (← c.in_ok-fields.ensures, ← a.bytes, ← a.at, ← a.start, ← c.in_ok-initial.ensures)
    (rw (a.start, ← d.bytes, ← d.at, ← d.start, ← c.in_err-check_statement.ensures)))

pub more-fallback-requires : goal.more-fallback-requires
more-fallback-requires c =
    let a = c.after in
    let d = c.after-2 in
    let x = reaches (steady-statement c.byte-2.result 15) a.result c.in_ok-initial.ensures in
    let y = reaches (steady-statement c.byte-2.result 15) d.result c.in_ok-check_statement.ensures in
    omega (arith, x.pays, y.pays, y.high, d.ensures.at, d.ensures.ends, c.args.b.fits)

pub after-requires-3 : goal.after-requires-3
after-requires-3 c =
    let d = c.after-2 in
    let m = c.more-fallback.ensures in
    rw m.0 (fits-on (steady-statement c.byte-2.result 15) c.args.b d.result d.ensures.goes d.ensures.ends c.in_ok-check_statement.ensures)

pub returns-in_err-groups : goal.returns-in_err-groups
returns-in_err-groups c =
    let a = c.after.ensures in
    let d = c.after-2.ensures in
    let m = c.more-fallback.ensures in
    let e = c.after-3.ensures in
    let z : c.in_ok-fields.fields.steps + c.in_ok-initial.initial.steps ≡ c.in_ok-initial.initial.steps = omega (arith, no-steps _ c.in_ok-fields.ensures) in
    rw (handed _ _ c.from_residual-in_err-groups.ensures, ← tree-onward _ _ _, ← c.byte.ensures.0, ← c.byte-2.ensures.0, ← c.byte-3.ensures.0)
    (rw (← c.in_ok-fields.ensures, ← a.bytes, ← a.at, ← a.start, ← c.in_ok-initial.ensures)
    (rw (z, a.start, ← d.bytes, ← d.at, ← d.start, ← c.in_ok-check_statement.ensures)
    (rw (d.start, ← m.0, ← m.1, ← e.bytes, ← e.at, ← e.start, ← c.in_err-groups.ensures))))

pub more-requires : goal.more-requires
more-requires c =
    let a = c.after in
    let d = c.after-2 in
    let e = c.after-3 in
    let m = c.more-fallback.ensures in
    let x = reaches (steady-statement c.byte-2.result 15) a.result c.in_ok-initial.ensures in
    let y = reaches (steady-statement c.byte-2.result 15) d.result c.in_ok-check_statement.ensures in
    let g = steady-groups c.byte.result c.byte-2.result c.byte-3.result in
    let z = reaches g e.result c.in_ok-groups.ensures in
    omega (arith, x.pays, y.pays, z.pays, z.high, d.ensures.at, m.0, m.1, e.ensures.at, e.ensures.ends, c.args.b.fits)

pub returns : goal.returns
returns c =
    let a = c.after.ensures in
    let d = c.after-2.ensures in
    let m = c.more-fallback.ensures in
    let e = c.after-3.ensures in
    let z : c.in_ok-fields.fields.steps + c.in_ok-initial.initial.steps ≡ c.in_ok-initial.initial.steps = omega (arith, no-steps _ c.in_ok-fields.ensures) in
    rw (← tree-onward _ _ _, ← c.byte.ensures.0, ← c.byte-2.ensures.0, ← c.byte-3.ensures.0)
    (rw (← c.in_ok-fields.ensures, ← a.bytes, ← a.at, ← a.start, ← c.in_ok-initial.ensures)
    (rw (z, a.start, ← d.bytes, ← d.at, ← d.start, ← c.in_ok-check_statement.ensures)
    (rw (d.start, ← m.0, ← m.1, ← e.bytes, ← e.at, ← e.start, ← c.in_ok-groups.ensures) (ap₂ found c.more.ensures.0 c.more.ensures.1))))

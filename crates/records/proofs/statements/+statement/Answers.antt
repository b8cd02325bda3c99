use mathlib.Core.Bool.{false}
use mathlib.Core.Path.{sym, ap₂, ◌∙◌}
use native.Mathlib.Omega.{arith}
use borrow.Author.Tests.{eqb-true, eqb-false}
use Rattle.records.specs.Checking.{found}
use Rattle.records.proofs.KindLaws.{done, ◌&◌, kind-is, kind-either, other-number, other-kind, statement_kinds}
use Rattle.records.proofs.Readers.{handed, reaches, fits}
use Rattle.records.proofs.ExpressionLaws.{steady-expression}
use Rattle.records.proofs.StatementLaws.{steady-statement, statement-unopened, statement-ended}
use Rattle.records.proofs.StatementKinds.{if-reaches, steady-head, set_is, transfer-is, value-is, block-is, if-is, else_is, for-is, other-is}
use Rattle.records.proofs.BlockLaws.{statement-read, rest-refuses, rest-ends, rest_goes}
use Rattle.records.proofs.statements.+statement.Goals as goal

-- `check_block`

pub check_block-returns-in_err-check_statement : goal.check_block-returns-in_err-check_statement
check_block-returns-in_err-check_statement t c =
    rw (handed _ _ c.from_residual.ensures) (rest-refuses _ _ _ _ _ _ _ c.loop-read.invariant.2 (sym c.in_err-check_statement.ensures))

pub check_block-more-read-requires : goal.check_block-more-read-requires
check_block-more-read-requires t c =
    let r = c.loop-read.rest in
    let x = reaches (steady-statement c.args.variables c.args.levels) r c.in_ok-check_statement.ensures in
    omega (arith, x.pays, x.high, c.args.b.fits, c.loop-read.invariant.0, c.loop-read.invariant.1)

pub check_block-after-rest-requires : goal.check_block-after-rest-requires
check_block-after-rest-requires t c =
    let r = c.loop-read.rest in
    let x = reaches (steady-statement c.args.variables c.args.levels) r c.in_ok-check_statement.ensures in
    (omega (arith, x.low, c.more-read.ensures.0), omega (arith, x.high, c.more-read.ensures.0))

pub check_block-returns-then-is_empty : goal.check_block-returns-then-is_empty
check_block-returns-then-is_empty t c =
    let a = c.after-rest.ensures in
    let m = c.more-read.ensures in
    ap₂ found m.0 m.1
    ∙ rest-ends _ _ _ _ _ _ _ c.loop-read.invariant.2 (sym c.in_ok-check_statement.ensures)
    (omega (arith, a.ends, a.at, m.0, eqb-true _ 0 (sym c.if-is_empty.ensures)))

pub check_block-loop-read-smaller : goal.check_block-loop-read-smaller
check_block-loop-read-smaller t c =
    let r = c.loop-read.rest in
    let x = statement-read _ _ r.start r.at r.bytes.now (sym c.in_ok-check_statement.ensures) in
    omega (arith, x.low, c.more-read.ensures.0, c.after-rest.ensures.at, c.after-rest.ensures.ends)

pub check_block-loop-read-preserved : goal.check_block-loop-read-preserved
check_block-loop-read-preserved t c =
    let r = c.loop-read.rest in
    let a = c.after-rest.ensures in
    let m = c.more-read.ensures in
    let x = statement-read _ _ r.start r.at r.bytes.now (sym c.in_ok-check_statement.ensures) in (
      omega (arith, x.pays, m.0, m.1, a.at, c.loop-read.invariant.0),
      omega (arith, a.ends, c.loop-read.invariant.1),
      rw (a.start, a.bytes, a.at, m.0, m.1) (rest_goes _ _ _ _ _ _ _ c.loop-read.invariant.2 (sym c.in_ok-check_statement.ensures)
          (omega (arith, a.ends, a.at, m.0, eqb-false _ 0 (sym c.if-is_empty.ensures)))),
    )

-- `check_body`

pub check_body-returns-in_err-check_set-in-Set : goal.check_body-returns-in_err-check_set-in-Set
check_body-returns-in_err-check_set-in-Set t c =
    rw (handed _ _ c.from_residual.ensures, set_is _ _ _ _ _ (kind-is c.in-Ok.ensures c.in-Set.is), ← c.in_err-check_set-in-Set.ensures)

pub check_body-returns-in_ok-check_set-in-Set : goal.check_body-returns-in_ok-check_set-in-Set
check_body-returns-in_ok-check_set-in-Set t c =
    rw (set_is _ _ _ _ _ (kind-is c.in-Ok.ensures c.in-Set.is), ← c.in_ok-check_set-in-Set.ensures) (ap₂ found c.more.ensures.0 c.more.ensures.1)

pub check_body-returns-in_err-check_transfer-in-Transfer : goal.check_body-returns-in_err-check_transfer-in-Transfer
check_body-returns-in_err-check_transfer-in-Transfer t c =
    rw (handed _ _ c.from_residual-in_err-check_transfer-in-Transfer.ensures, transfer-is _ _ _ _ _ (kind-is c.in-Ok.ensures c.in-Transfer.is))
    (rw (← c.in_err-check_transfer-in-Transfer.ensures))

pub check_body-returns-in_ok-check_transfer-in-Transfer : goal.check_body-returns-in_ok-check_transfer-in-Transfer
check_body-returns-in_ok-check_transfer-in-Transfer t c =
    let m = c.more-in-Transfer in
    rw (transfer-is _ _ _ _ _ (kind-is c.in-Ok.ensures c.in-Transfer.is))
    (rw (← c.in_ok-check_transfer-in-Transfer.ensures) (ap₂ found m.ensures.0 m.ensures.1))

pub check_body-returns-in_err-check_value-in-Require : goal.check_body-returns-in_err-check_value-in-Require
check_body-returns-in_err-check_value-in-Require t c =
    rw (handed _ _ c.from_residual-in_err-check_value-in-Require.ensures, value-is _ _ _ _ _ (kind-either c.in-Ok.ensures c.in-Require.is))
    (rw (← c.in_err-check_value-in-Require.ensures))

pub check_body-returns-in_ok-check_value-in-Require : goal.check_body-returns-in_ok-check_value-in-Require
check_body-returns-in_ok-check_value-in-Require t c =
    let m = c.more-in-Require in
    rw (value-is _ _ _ _ _ (kind-either c.in-Ok.ensures c.in-Require.is))
    (rw (← c.in_ok-check_value-in-Require.ensures) (ap₂ found m.ensures.0 m.ensures.1))

pub check_body-returns-in-Block : goal.check_body-returns-in-Block
check_body-returns-in-Block t c = c.check_block.ensures ∙ sym (block-is _ _ _ _ _ (kind-is c.in-Ok.ensures c.in-Block.is))

pub check_body-returns-in-If : goal.check_body-returns-in-If
check_body-returns-in-If t c = c.check_if.ensures ∙ sym (if-is _ _ _ _ _ (kind-either c.in-Ok.ensures c.in-If.is))

pub check_body-returns-in_err-first-in-IfElse : goal.check_body-returns-in_err-first-in-IfElse
check_body-returns-in_err-first-in-IfElse t c =
    rw (handed _ _ c.from_residual-in_err-first-in-IfElse.ensures, else_is _ _ _ _ _ (kind-is c.in-Ok.ensures c.in-IfElse.is))
    (rw (← c.in_err-first-in-IfElse.ensures))

pub check_body-after-requires : goal.check_body-after-requires
check_body-after-requires t c = let x = if-reaches _ _ c.args.b c.in_ok-first-in-IfElse.ensures in (x.low, x.high)

pub check_body-returns-in_err-second-in-IfElse : goal.check_body-returns-in_err-second-in-IfElse
check_body-returns-in_err-second-in-IfElse t c =
    let a = c.after.ensures in
    rw (handed _ _ c.from_residual-in_err-second-in-IfElse.ensures, else_is _ _ _ _ _ (kind-is c.in-Ok.ensures c.in-IfElse.is))
    (rw (← c.in_ok-first-in-IfElse.ensures, ← a.bytes, ← a.at, ← a.start, ← c.in_err-second-in-IfElse.ensures))

pub check_body-more-requires-in-IfElse : goal.check_body-more-requires-in-IfElse
check_body-more-requires-in-IfElse t c =
    let x = if-reaches _ _ c.args.b c.in_ok-first-in-IfElse.ensures in
    let a = c.after in
    let y = reaches (steady-statement c.args.variables c.args.levels) a.result c.in_ok-second-in-IfElse.ensures in
    omega (arith, x.pays, y.pays, y.high, a.ensures.at, a.ensures.ends, c.args.b.fits)

pub check_body-returns-in_ok-second-in-IfElse : goal.check_body-returns-in_ok-second-in-IfElse
check_body-returns-in_ok-second-in-IfElse t c =
    let a = c.after.ensures in
    let m = c.more-in-IfElse in
    rw (else_is _ _ _ _ _ (kind-is c.in-Ok.ensures c.in-IfElse.is))
    (rw (← c.in_ok-first-in-IfElse.ensures, ← a.bytes, ← a.at, ← a.start, ← c.in_ok-second-in-IfElse.ensures) (ap₂ found m.ensures.0 m.ensures.1))

pub check_body-returns-in_err-head-in-For : goal.check_body-returns-in_err-head-in-For
check_body-returns-in_err-head-in-For t c =
    rw (handed _ _ c.from_residual-in_err-head-in-For.ensures, for-is _ _ _ _ _ (kind-is c.in-Ok.ensures c.in-For.is), ← c.in_err-head-in-For.ensures)

pub check_body-after-requires-in-For : goal.check_body-after-requires-in-For
check_body-after-requires-in-For t c = fits (steady-head _ _) c.args.b c.in_ok-head-in-For.ensures

pub check_body-returns-in_err-body-in-For : goal.check_body-returns-in_err-body-in-For
check_body-returns-in_err-body-in-For t c =
    let a = c.after-in-For.ensures in
    rw (handed _ _ c.from_residual-in_err-body-in-For.ensures, for-is _ _ _ _ _ (kind-is c.in-Ok.ensures c.in-For.is))
    (rw (← c.in_ok-head-in-For.ensures, ← a.bytes, ← a.at, ← a.start, ← c.in_err-body-in-For.ensures))

pub check_body-more-requires-in-For : goal.check_body-more-requires-in-For
check_body-more-requires-in-For t c =
    let a = c.after-in-For in
    let y = reaches (steady-statement c.args.variables c.args.levels) a.result c.in_ok-body-in-For.ensures in
    omega (arith, y.pays, y.high, a.ensures.ends, c.args.b.fits)

pub check_body-returns-in_ok-body-in-For : goal.check_body-returns-in_ok-body-in-For
check_body-returns-in_ok-body-in-For t c =
    let a = c.after-in-For.ensures in
    let m = c.more-in-For in
    rw (for-is _ _ _ _ _ (kind-is c.in-Ok.ensures c.in-For.is))
    (rw (← c.in_ok-head-in-For.ensures, ← a.bytes, ← a.at, ← a.start, ← c.in_ok-body-in-For.ensures) (ap₂ found m.ensures.0 m.ensures.1))

pub check_body-returns-in_default : goal.check_body-returns-in_default
check_body-returns-in_default t c = rw (c.refused.ensures, other-is _ _ _ _ _ _ (other-number c.in_default.ensures statement_kinds))

pub check_body-returns-in_default-kind : goal.check_body-returns-in_default-kind
check_body-returns-in_default-kind t c =
    let d = c.in_default-kind in
    rw (
      c.refused-in_default-kind.ensures,
      other-is _ _ _ _ _ _ (other-kind c.in-Ok.ensures
          (d.not-Set & d.not-Transfer & d.not-Require & d.not-Return & d.not-Block & d.not-If & d.not-IfElse & d.not-While & d.not-For & done)),
    )

-- `check_if`

pub check_if-after-requires : goal.check_if-after-requires
check_if-after-requires t c = fits (steady-expression c.args.variables false c.args.levels) c.args.b c.in_ok-condition.ensures

pub check_if-more-requires : goal.check_if-more-requires
check_if-more-requires t c =
    let a = c.after in
    let x = reaches (steady-statement c.args.variables c.args.levels) a.result c.in_ok-then.ensures in
    omega (arith, x.pays, x.high, a.ensures.ends, c.args.b.fits)

-- `check_statement`

pub check_statement-returns-in_err-record : goal.check_statement-returns-in_err-record
check_statement-returns-in_err-record t c =
    rw (handed _ _ c.from_residual.ensures) (statement-unopened c.args.variables c.args.levels c.args.p c.in_err-record.ensures)

pub check_statement-returns-in_err-check_body : goal.check_statement-returns-in_err-check_body
check_statement-returns-in_err-check_body t c =
    rw (handed _ _ c.from_residual-in_err-check_body.ensures, statement-ended _ _ _ c.in_ok-record.ensures.0 _ c.in_ok-record.ensures.1)
    (rw (← c.in_err-check_body.ensures))

pub check_statement-returns : goal.check_statement-returns
check_statement-returns t c =
    rw (c.closed.ensures, statement-ended _ _ _ c.in_ok-record.ensures.0 _ c.in_ok-record.ensures.1, ← c.in_ok-check_body.ensures)

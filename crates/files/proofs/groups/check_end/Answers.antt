-- `check_end` meets its contract.
use mathlib.Core.Path.{sym, ap₂, ◌∙◌}
use native.Mathlib.Omega.{arith}
use borrow.Author.Tests.{eqb-true, eqb-false}
use Rattle.records.specs.Checking.{found}
use Rattle.files.proofs.GroupLaws.{no-more-end, no-more-short, no-more-other}
use Rattle.records.proofs.Readers.{handed}
use Rattle.files.proofs.groups.check_end.Goals as goal

pub returns-then-is_empty : goal.returns-then-is_empty
returns-then-is_empty c = ap₂ found c.at.ensures.0 c.at.ensures.1 ∙ no-more-end _ _ _ (eqb-true _ 0 (sym c.if-is_empty.ensures))

pub returns-in_err-record : goal.returns-in_err-record
returns-in_err-record c =
    let r = c.in_err-record.ensures in
    rw (handed _ _ c.from_residual.ensures, r.1) (no-more-short _ _ _ (omega (arith, eqb-false _ 0 (sym c.if-is_empty.ensures))) r.0)

pub returns : goal.returns
returns c = rw c.refused.ensures (no-more-other _ _ _ (omega (arith, eqb-false _ 0 (sym c.if-is_empty.ensures))) c.in_ok-record.ensures.is)

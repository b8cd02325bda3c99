-- `Part::opened` meets its contract.
use mathlib.Core.Logic.{inl, inr}
use Rattle.records.proofs.Readers.{handed}
use Rattle.records.proofs.part.Part.opened.Goals as goal

pub returns-in_err-record : goal.returns-in_err-record
returns-in_err-record c = rw (handed _ _ c.from_residual.ensures) (inl c.in_err-record.ensures)

pub returns-then-levels-eq0 : goal.returns-then-levels-eq0
returns-then-levels-eq0 c = inr (c.if-levels-eq0.true, c.in_ok-record.ensures.is, c.refused.ensures)

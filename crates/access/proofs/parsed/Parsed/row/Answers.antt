-- The numbers of the row's record.
use mathlib.Core.Path.{sym}
use native.Mathlib.Omega.{arith}
use Rattle.access.proofs.Groups.{in-row}
use Rattle.access.proofs.Kept.{laid-of, parts-of}
use Rattle.access.proofs.Items.{row_at}
use Rattle.access.proofs.parsed.Parsed.row.Goals as goal

pub nth-at-requires : goal.nth-at-requires
nth-at-requires c = in-row (parts-of c.args.self.now.laid).rows c.args.i (omega arith)

pub returns : goal.returns
returns c =
    λ a.
    rw (c.u32_at.ensures, c.u32_at-2.ensures, c.u32_at-3.ensures, c.u32_at-4.ensures, c.u32_at-5.ensures)
    (sym (row_at (laid-of c.args.self.now.laid) c.args.i c.requires a c.nth-at.result c.nth-at.ensures).is)

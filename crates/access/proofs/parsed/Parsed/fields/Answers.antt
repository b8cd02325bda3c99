-- Each field stands at its place in the file.
use mathlib.Core.Path.{sym}
use Rattle.access.proofs.Trees.{tree-parts}
use Rattle.access.proofs.Kept.{read-of}
use Rattle.access.proofs.Layouts.{balances}
use Rattle.access.proofs.parsed.Parsed.fields.Goals as goal

pub opening-opening-requires : goal.opening-opening-requires
opening-opening-requires c = balances (read-of c.args.self.now.laid) c.from.ensures

pub returns : goal.returns
returns c = λ t. rw (c.u16_at.ensures.0, c.u32_at.ensures, c.opening-opening.ensures, c.from.ensures) (sym (tree-parts t).head.is)

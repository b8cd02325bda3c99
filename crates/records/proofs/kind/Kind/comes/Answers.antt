-- `comes` meets its contract.
use lib.ListN.{length}
use borrow.Author.Tests.{lt-leb}
use Rattle.rules.specs.Reading.{kind_of}
use Rattle.grammar.proofs.Bytes.{has_all}
use Rattle.records.proofs.Parts.{has-few}
use Rattle.records.proofs.kind.Kind.comes.Goals as goal

pub returns-then-s-ge4 : goal.returns-then-s-ge4
unfolding kind_of
returns-then-s-ge4 c = rw (has_all 4 c.args.s.now c.if-s-ge4.true, c.u16_at.ensures.0, c.number.ensures)

pub returns-else-s-ge4 : goal.returns-else-s-ge4
returns-else-s-ge4 c = rw (has-few 4 c.args.s.now c.if-s-ge4.false) (lt-leb 4 (length c.args.s.now) c.if-s-ge4.false)

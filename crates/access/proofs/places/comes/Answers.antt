-- What the bytes from the offset on begin with.
use Rattle.grammar.proofs.Bytes.{part-all}
use Rattle.access.specs.Places.{comes_at}
use Rattle.access.proofs.places.comes.Goals as goal

pub returns : goal.returns
unfolding comes_at
returns c = rw (c.comes.ensures, part-all c.args.at c.args.file.now)

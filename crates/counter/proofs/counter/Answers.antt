-- `counter` meets its contract: its bytes are the counter agreement's.
use Rattle.rules.specs.Counter.{counter}
use Rattle.counter.proofs.counter.Goals as goal

pub returns : goal.returns
unfolding counter
returns c = c.run.ensures

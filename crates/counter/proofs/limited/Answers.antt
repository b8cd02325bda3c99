-- `limited` meets its contract: its bytes are the counter agreement's, with the limit 5.
use Rattle.rules.specs.Counter.{counter}
use Rattle.counter.proofs.limited.Goals as goal

pub returns : goal.returns
unfolding counter
returns c = c.run.ensures

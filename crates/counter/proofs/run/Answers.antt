-- `run` meets its contract, by the list of outcomes that the rules give.
use Rattle.rules.specs.Calling.{calls_from, follow, run_list}
use Rattle.counter.proofs.run.Goals as goal

pub returns : goal.returns
unfolding run_list follow calls_from
returns c = rw (c.call-second.ensures, c.call-first.ensures, c.start-started.ensures)

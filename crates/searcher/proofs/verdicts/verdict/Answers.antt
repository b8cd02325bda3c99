-- `verdict` meets its contract: a refusal is a verdict that shows no list.
use Rattle.rules.specs.Judging.{refused_verdict}
use Rattle.searcher.proofs.verdicts.verdict.Goals as goal

pub returns-in-Err : goal.returns-in-Err
unfolding refused_verdict
returns-in-Err c = rw c.unshown.ensures c.in-Err.ensures

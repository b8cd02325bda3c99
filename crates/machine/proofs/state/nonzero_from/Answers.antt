-- The items are the entries from there on.
use Rattle.std.proofs.Common.{rules, tests, ◌≡◌, ◌<◌, drop}
use Rattle.std.proofs.lemmas.Iterator.{YieldsList-from_slice, cases_from_any}
use Rattle.std.proofs.lemmas.Iterator.Adapters.{YieldsList-from_skip}
use Rattle.std.proofs.lemmas.Iterator.Consumers.{YieldsList-at}
use Rattle.machine.proofs.Sums.{any-from_cases}
use Rattle.machine.proofs.state.nonzero_from.Goals as goal

pub returns : goal.returns
returns c =
    any-from_cases _ (drop c.args.from c.args.a.now)
    (cases_from_any _ _ _ (λ x. 0 < x) (λ x. x ≡ 0) c.any.ensures.ran
    (YieldsList-from_skip c.args.from (YieldsList-at c.skip.ensures.source (YieldsList-from_slice c.args.a.now cc)) c.skip.ensures.count)
    (λ x q k. search (rules, tests)) (λ x q k. search (rules, tests)))

-- The items are the entries, each below 2 ^ 32.
use Rattle.std.proofs.Common.{rules, tests, arith}
use Rattle.std.proofs.lemmas.Iterator.{YieldsList-from_slice, YieldsList-from_map}
use Rattle.std.proofs.lemmas.Iterator.Consumers.{YieldsList-at, sum_by_from_yields_List, fits_by_from_yields_list}
use Rattle.rules.proofs.Sums.{sum_by-same, sum-bound}
use Rattle.rules.proofs.sum.Goals as goal

pub sum-requires-clause-fits : goal.sum-requires-clause-fits
sum-requires-clause-fits c =
    fits_by_from_yields_list (λ x. x) c.args.balances.now c.map.result _
    (YieldsList-from_map _ (λ x. x) (YieldsList-at c.map.ensures.source (YieldsList-from_slice c.args.balances.now cc)) c.map.ensures.closure (λ x r q k. search (rules, tests)))
    (omega (arith, sum_by-same c.args.balances.now, sum-bound c.args.balances.now 4_294_967_295 (λ i. omega (arith, c.fits-balances i))))

pub returns : goal.returns
returns c =
    let e = sum_by_from_yields_List (λ x. x) c.args.balances.now c.map.result _ c.sum.ensures.ran
    (YieldsList-from_map _ (λ x. x) (YieldsList-at c.map.ensures.source (YieldsList-from_slice c.args.balances.now cc)) c.map.ensures.closure (λ x r q k. search (rules, tests))) in
    omega (arith, e, sum_by-same c.args.balances.now, sum-bound c.args.balances.now 4_294_967_295 (λ i. omega (arith, c.fits-balances i)))

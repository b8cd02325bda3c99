-- The expression's value on the state, with zeros for locals and arguments, which no rule reads.
use Rattle.std.proofs.Common.{rules}
use mathlib.Core.Path.{◌≡◌, ◌∙◌}
use Rattle.rules.specs.Judging.{not_true}
use Rattle.searcher.specs.Standing.{with_balances}
use Rattle.searcher.proofs.Events.{here, violated-by}
use Rattle.searcher.proofs.standing.is_violated.Goals as goal

pub evaluate-requires : goal.evaluate-requires
evaluate-requires c =
    let a = c.args in
    (here a.file.now a.at c.requires.0 c.requires.1).0

pub returns : goal.returns
unfolding not_true
returns c = λ e h bs.
    let a = c.args in
    let s = with_balances a.state.now bs in
    let v : c.is_none_or.result ≡ not_true c.evaluate.result = search rules in
    v ∙ violated-by a.file.now a.at s c.evaluate.result (λ g. c.evaluate.ensures g) e h

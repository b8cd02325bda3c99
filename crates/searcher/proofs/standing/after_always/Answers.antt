-- The state after the call violates the expression, or not.
use mathlib.Core.Path.{sym, ◌∙◌}
use Rattle.searcher.specs.Standing.{with_balances}
use Rattle.searcher.proofs.Events.{always-broken, always-kept}
use Rattle.searcher.proofs.standing.after_always.Goals as goal

pub returns-then-is_violated : goal.returns-then-is_violated
returns-then-is_violated c = λ e h n bs es.
    let a = c.args in
    let s = with_balances a.state.now bs in
    always-broken e a.status (record { name = n; state = s }) es (sym c.if-is_violated.true ∙ c.is_violated.ensures e h bs)

pub returns : goal.returns
returns c = λ e h n bs es.
    let a = c.args in
    let s = with_balances a.state.now bs in
    always-kept e a.status (record { name = n; state = s }) es (sym c.if-is_violated.false ∙ c.is_violated.ensures e h bs)

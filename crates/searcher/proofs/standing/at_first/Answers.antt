-- By the rule's type.
use mathlib.Core.Path.{◌≡◌}
use Rattle.rules.specs.Syntax.{Expr}
use Rattle.rules.specs.Judging.{breaks_by}
use mathlib.Core.Bool.{false}
use Rattle.searcher.specs.Standing.{ExpressionAt, breaks_after}
use Rattle.searcher.proofs.Events.{type-one, begins-always, begins-other}
use Rattle.searcher.proofs.standing.at_first.Goals as goal

pub is_violated-broken-requires : goal.is_violated-broken-requires
is_violated-broken-requires c =
    let f = c.args.file.now in
    type-one f c.args.rule (λ _. (e : Expr) × ExpressionAt f c.in-Always.at e) _ c.requires.0 c.requires.1 c.in-Always.is (λ e h. (e, h))

pub returns-in-Always : goal.returns-in-Always
returns-in-Always c = λ rule h es.
    let a = c.args in
    type-one a.file.now a.rule
    (λ rule. breaks_after rule (record { broken = c.is_violated-broken.result; seen = false }) es ≡ breaks_by rule a.state.now es)
    _ rule h c.in-Always.is (λ e k. begins-always e a.state.now c.is_violated-broken.result (c.is_violated-broken.ensures e k a.state.now.balances) es)

pub returns-in_default : goal.returns-in_default
returns-in_default c = λ rule h es. let a = c.args in begins-other a.file.now a.rule rule h c.in_default.not-Always a.state.now es

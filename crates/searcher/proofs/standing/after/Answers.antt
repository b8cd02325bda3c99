-- By the rule's type.
use mathlib.Core.Path.{refl}
use Rattle.rules.specs.Syntax.{Expr}
use Rattle.searcher.specs.Standing.{ExpressionAt, with_balances}
use Rattle.searcher.proofs.Events.{Follows, type-one, type-two, type-three}
use Rattle.searcher.proofs.standing.after.Goals as goal

pub after_always-requires : goal.after_always-requires
after_always-requires c =
    let f = c.args.file.now in
    type-one f c.args.rule (λ _. (e : Expr) × ExpressionAt f c.in-Always.at e) _ c.requires.0 c.requires.1 c.in-Always.is (λ e h. (e, h))

pub returns-in-Always : goal.returns-in-Always
returns-in-Always c = λ rule h bs es.
    let a = c.args in
    let s = with_balances a.state.now bs in
    type-one a.file.now a.rule (Follows c.after_always.result a.status (record { name = a.name; state = s }) es) _ rule h c.in-Always.is
    (λ e k. c.after_always.ensures e k a.name bs es)

pub returns-in-NotAfter : goal.returns-in-NotAfter
returns-in-NotAfter c = λ rule h bs es.
    let a = c.args in
    let s = with_balances a.state.now bs in
    type-two a.file.now a.rule (Follows c.after_named.result a.status (record { name = a.name; state = s }) es) _ _ rule h c.in-NotAfter.is
    (c.after_named.ensures.not_after refl s es)

pub returns-in-OnlyAfter : goal.returns-in-OnlyAfter
returns-in-OnlyAfter c = λ rule h bs es.
    let a = c.args in
    let s = with_balances a.state.now bs in
    let t = c.after_named-in-OnlyAfter in
    type-three a.file.now a.rule (Follows t.result a.status (record { name = a.name; state = s }) es) _ _ rule h c.in-OnlyAfter.is
    (t.ensures.only_after refl s es)

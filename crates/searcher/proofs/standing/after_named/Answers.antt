-- A completed p breaks the rule, by whether a completed q was seen; other calls only count.
use mathlib.Core.Path.{ap, ◌∙◌}
use mathlib.Core.Bool.{true, false}
use mathlib.Core.Logic.{inl, inr}
use Rattle.rules.specs.Syntax.{not_after, only_after}
use Rattle.searcher.specs.declared.Status.{Status}
use Rattle.searcher.specs.Standing.{breaks_after}
use Rattle.searcher.proofs.Events.{not-after-broken, not-after-counted, only-after-broken, only-after-counted, alike, unlike}
use Rattle.searcher.proofs.standing.after_named.Goals as goal
use Rattle.searcher.proofs.standing.after_named.Goals.{else-name-p-via-then-name-p+else-status-breaking, else-name-p-via-else-name-p}

pub returns-then-status-breaking-clause-not_after : goal.returns-then-status-breaking-clause-not_after
returns-then-status-breaking-clause-not_after c = λ b s es.
    let a = c.args in
    not-after-broken a.p a.q a.status (record { name = a.name; state = s }) es c.if-name-p.true (alike _ _ c.if-status-breaking.true ∙ b)

pub returns-then-status-breaking-clause-only_after : goal.returns-then-status-breaking-clause-only_after
returns-then-status-breaking-clause-only_after c = λ b s es.
    let a = c.args in
    only-after-broken a.p a.q a.status (record { name = a.name; state = s }) es c.if-name-p.true (alike _ _ c.if-status-breaking.true ∙ b)

pub returns-clause-not_after : goal.returns-clause-not_after
returns-clause-not_after c = λ b s es.
    let a = c.args in
    ap (λ (t : Status). breaks_after (not_after a.p a.q) t es) c.counted.ensures
    ∙ not-after-counted a.p a.q a.status (record { name = a.name; state = s }) es
    (elim c.else-name-p.branch [
      | else-name-p-via-then-name-p+else-status-breaking w ↦ inr (unlike _ _ false w.if-status-breaking.false b)
      | else-name-p-via-else-name-p w ↦ inl w.if-name-p.false
    ])

pub returns-clause-only_after : goal.returns-clause-only_after
returns-clause-only_after c = λ b s es.
    let a = c.args in
    ap (λ (t : Status). breaks_after (only_after a.p a.q) t es) c.counted.ensures
    ∙ only-after-counted a.p a.q a.status (record { name = a.name; state = s }) es
    (elim c.else-name-p.branch [
      | else-name-p-via-then-name-p+else-status-breaking w ↦ inr (unlike _ _ true w.if-status-breaking.false b)
      | else-name-p-via-else-name-p w ↦ inl w.if-name-p.false
    ])

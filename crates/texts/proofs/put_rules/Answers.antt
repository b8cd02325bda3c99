-- The lines of the first rules have been put.
use Prim.Native.Nat.{ℕ, suc, ◌+◌}
use mathlib.Core.List.{List, ◌++◌, append_assoc, append-nil}
use mathlib.Core.Path.{◌≡◌, sym, ap, ap₂, ◌∙◌}
use native.Mathlib.Omega.{arith}
use lib.ListN.{length}
use Rattle.rules.specs.declared.Outcome.{Outcome}
use Rattle.rules.specs.Basics.{each}
use Rattle.rules.specs.Judging.{is_completed}
use Rattle.rules.specs.Reporting.{rule_line, rule_lines}
use Rattle.access.proofs.Kept.{laid-of}
use Rattle.access.proofs.Using.{counts, tree_of}
use Rattle.runner.proofs.Runs.{file_is}
use Rattle.texts.proofs.Texts.{each_more, line, few-rules}
use Rattle.texts.proofs.put_rules.Goals as goal

pub start_accepted-requires : goal.start_accepted-requires
start_accepted-requires c = file_is c.args.accepted.now

pub returns-then-not-is_completed-clause-after : goal.returns-then-not-is_completed-clause-after
unfolding rule_lines
returns-then-not-is_completed-clause-after c = λ a.
    rw (ap (λ (o : Outcome). is_completed o.answer) (sym (c.start_accepted.ensures a)) ∙ sym c.is_completed.ensures ∙ c.if-not-is_completed.true)
    c.put.ensures

pub loop-i-init : goal.loop-i-init
unfolding each
loop-i-init c = (sym (append-nil c.args.page.now), omega arith)

pub overflow_cast-i : goal.overflow_cast-i
overflow_cast-i c = omega (arith, few-rules c.args.accepted.now.parsed.laid)

pub overflow_cast-i-in-loop-i : goal.overflow_cast-i-in-loop-i
overflow_cast-i-in-loop-i c = omega (arith, few-rules c.args.accepted.now.parsed.laid)

pub put_rule-requires : goal.put_rule-requires
put_rule-requires c = omega (arith, few-rules c.args.accepted.now.parsed.laid, c.loop-i.invariant.1, c.requires)

-- the line that was put is that of the i-th rule
pub loop-i-preserved : goal.loop-i-preserved
loop-i-preserved c =
    let l = c.loop-i in
    let f = line c.args.accepted.now.parsed.file.now in
    let before = c.args.page.now in
    let z : 0 + l.i ≡ l.i = omega arith in
    let y : suc l.i ≡ l.i + 1 = omega arith in
    let here = ap (rule_line l.i) c.judged.ensures ∙ ap f (sym z) in
    let more = append_assoc before (each f 0 l.i) (f (0 + l.i)) ∙ ap (λ (t : List ℕ). before ++ t) (each_more f 0 l.i ∙ ap (each f 0) y) in
    (c.put_rule.ensures.after ∙ ap₂ (λ (s t : List ℕ). s ++ t) l.invariant.0 here ∙ more, omega (arith, l.invariant.1, c.put_rule.ensures.short))

pub returns-clause-after : goal.returns-clause-after
unfolding rule_lines
returns-clause-after c = λ a.
    let l = c.loop-i in
    let u = tree_of a in
    let n : l.i ≡ length a.tree.rules = omega (arith, (counts (laid-of c.args.accepted.now.parsed.laid) u).2) in
    rw (ap (λ (o : Outcome). is_completed o.answer) (sym (c.start_accepted.ensures a)) ∙ sym c.is_completed.ensures ∙ c.if-not-is_completed.false)
    (l.invariant.0 ∙ ap (λ (k : ℕ). c.args.page.now ++ each (line c.args.accepted.now.parsed.file.now) 0 k) n)

pub returns-clause-short : goal.returns-clause-short
returns-clause-short c = omega (arith, few-rules c.args.accepted.now.parsed.laid, c.loop-i.invariant.1)

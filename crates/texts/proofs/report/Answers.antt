-- What reading answers says whether there are steps and rules to report.
use Prim.Native.Nat.{ℕ}
use mathlib.Core.Path.{sym, ap, ap₂, ◌∙◌}
use mathlib.Core.List.{List, ◌++◌}
use native.Mathlib.Omega.{arith}
use lib.ListN.{length}
use Rattle.rules.specs.Accepting.{on_file}
use Rattle.rules.specs.Calling.{start_tree}
use Rattle.rules.specs.Judging.{is_completed}
use Rattle.rules.specs.Reporting.{refused_line, steps_line, rule_lines, report}
use Rattle.access.proofs.Kept.{accepted-of, few_of, accepted-moved}
use Rattle.access.proofs.Using.{refused-file}
use Rattle.texts.proofs.report.Goals as goal

pub returns-in-Err-clause-value : goal.returns-in-Err-clause-value
unfolding report on_file
returns-in-Err-clause-value c =
    rw (refused-file _ _ c.in-Err.ensures) (c.put_refusal.ensures.after ∙ ap (λ (t : List ℕ). t ++ refused_line c.in-Err.r) c.new-page.ensures)

pub overflow_cast-accepted : goal.overflow_cast-accepted
overflow_cast-accepted c = omega (arith, few_of c.in-Ok.accepted.accepted)

pub put_rules-requires : goal.put_rules-requires
put_rules-requires c = omega (arith, c.put_steps.ensures.short, ap length c.new-page.ensures)

pub returns-in-Ok-clause-value : goal.returns-in-Ok-clause-value
unfolding report on_file
returns-in-Ok-clause-value c =
    let h = accepted-of c.in-Ok.accepted.accepted in
    let a = accepted-moved (sym c.in-Ok.ensures.0) h.0 in
    let lines = λ (file : List ℕ). rule_lines file a.tree (is_completed (start_tree a.tree).answer) in
    let steps = c.put_steps.ensures.after ∙ ap (λ (t : List ℕ). t ++ steps_line c.in-Ok.accepted.steps) c.new-page.ensures ∙ ap steps_line h.1 in
    rw a.is (c.put_rules.ensures.after h.0 ∙ ap₂ (λ (t file : List ℕ). t ++ lines file) steps c.in-Ok.ensures.0)

pub returns-in-Err-clause-length_in_bounds : goal.returns-in-Err-clause-length_in_bounds
returns-in-Err-clause-length_in_bounds c = omega (arith, c.put_refusal.ensures.short, ap length c.new-page.ensures)

pub returns-in-Ok-clause-length_in_bounds : goal.returns-in-Ok-clause-length_in_bounds
returns-in-Ok-clause-length_in_bounds c = omega (arith, c.put_rules.ensures.short, c.put_steps.ensures.short, ap length c.new-page.ensures)

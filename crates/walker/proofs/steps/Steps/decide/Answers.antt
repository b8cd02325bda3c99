-- `decide` meets its contract: the condition's value names one of its two steps.
use Prim.Native.Nat.{ℕ}
use mathlib.Core.Path.{◌≡◌, ap, ◌∙◌}
use mathlib.Core.Bool.{Bool}
use mathlib.Core.List.{List}
use Rattle.std.proofs.lemmas.Result.{err_from_is_err_and}
use Rattle.rules.specs.Syntax.{Expr}
use Rattle.rules.specs.declared.Machine.{Machine}
use Rattle.rules.specs.declared.Setting.{Setting}
use Rattle.rules.specs.Running.{Run, condition}
use Rattle.walker.specs.Tables.{Expanded, step_at}
use Rattle.walker.specs.Runs.{Ready}
use Rattle.walker.proofs.Meeting.{first_of, ExprFrom, Condition, expr-from, here, condition-met}
use Rattle.walker.proofs.Moves.{decides-yes, decides-no, decides-stops}
use Rattle.walker.proofs.steps.Steps.decide.Goals as goal

-- the condition that is met
met : {file words : List ℕ} {i : ℕ} → Ready file words i → (step_at words i).kind ≡ 2 → (a : Expanded file words) → Condition a i
met {i = i} r two a = condition-met a i r.node (first_of r a) two

-- what the condition gives
tested :
    {file : List ℕ} {tree : Expr} {at : ℕ} {x : Run Bool} (d : Setting) (m : Machine) (b : ExprFrom file tree at) → x ≡ condition d b.bytes.tree m →
    x ≡ condition d tree m
tested d m b is = is ∙ ap (λ (e : Expr). condition d e m) b.is

pub step_at-step-requires : goal.step_at-step-requires
step_at-step-requires c = let r = c.requires.0 in (here r.expanded _ r.node r.first).room

pub slice_bounds-test-start : goal.slice_bounds-test-start
slice_bounds-test-start c = (expr-from c.step_at-step.ensures.at (met c.requires.0 c.requires.1 c.requires.0.expanded).test).within

pub slice_bounds-test-count : goal.slice_bounds-test-count
slice_bounds-test-count c = (expr-from c.step_at-step.ensures.at (met c.requires.0 c.requires.1 c.requires.0.expanded).test).within

pub test-requires : goal.test-requires
test-requires c = (expr-from c.step_at-step.ensures.at (met c.requires.0 c.requires.1 c.requires.0.expanded).test).bytes

pub returns-in_err-test : goal.returns-in_err-test
returns-in_err-test c = λ a.
    let p = err_from_is_err_and c.from_residual.result c.from_residual.ensures.1 in
    let k = met c.requires.0 c.requires.1 a in
    let b = expr-from c.step_at-step.ensures.at k.test in
    let e = tested c.args.setting.now c.args.m.now b (c.in_err-test.ensures b.bytes) in
    rw (p.1, p.2) (decides-stops a c.args.i _ _ k _ _ e)

pub step_at-requires : goal.step_at-requires
step_at-requires c = (met c.requires.0 c.requires.1 c.requires.0.expanded).second.room

pub returns-then-branch : goal.returns-then-branch
returns-then-branch c = λ a.
    let k = met c.requires.0 c.requires.1 a in
    let b = expr-from c.step_at-step.ensures.at k.test in
    let e = tested c.args.setting.now c.args.m.now b (c.in_ok-test.ensures b.bytes) in
    decides-yes a c.args.i _ _ k (rw c.if-branch.true at e) c.step_at-step.ensures.target

pub returns-else-branch : goal.returns-else-branch
returns-else-branch c = λ a.
    let k = met c.requires.0 c.requires.1 a in
    let b = expr-from c.step_at-step.ensures.at k.test in
    let e = tested c.args.setting.now c.args.m.now b (c.in_ok-test.ensures b.bytes) in
    decides-no a c.args.i _ _ k (rw c.if-branch.false at e) c.step_at.ensures.target

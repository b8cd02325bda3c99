-- `enter` meets its contract: the guard refuses, or the run goes on from where its step leads.
use Prim.Native.Nat.{ℕ}
use mathlib.Core.Path.{◌≡◌, sym, ap, ◌∙◌}
use mathlib.Core.List.{List}
use mathlib.Core.Option.{some}
use Rattle.std.proofs.lemmas.Result.{err_from_is_err_and}
use Rattle.rules.specs.declared.Machine.{Machine}
use Rattle.rules.specs.Syntax.{Expr}
use Rattle.rules.specs.Expanding.{Step}
use Rattle.rules.specs.declared.Setting.{Setting}
use Rattle.rules.specs.Running.{Run, guarded}
use Rattle.machine.proofs.Keeping.{ran-keeps, guarded-keeps, still-funded}
use Rattle.walker.specs.Tables.{Expanded, word_at}
use Rattle.walker.specs.Runs.{run_of, walk_in, walk_by_in, Enterable}
use Rattle.walker.proofs.Tables.{at_here}
use Rattle.walker.proofs.Meeting.{ExprFrom, ExprAt, expr-from, at_place, guard-there}
use Rattle.walker.proofs.Moves.{admits-on, admits-stops}
use Rattle.walker.proofs.Walks.{traversable}
use Rattle.walker.proofs.steps.Steps.enter.Goals as goal

-- the guard
met : {file words : List ℕ} {place : ℕ} → Enterable file words place → (a : Expanded file words) → ExprAt file a.tree.fields.variables (word_at words place 4)
met {place = place} e a = guard-there a place (e a).1

-- what the guard gives
guards :
    {file : List ℕ} {tree : Expr} {at : ℕ} {x : Run (Unit {0})} (d : Setting) (m : Machine) (b : ExprFrom file tree at) → x ≡ guarded d b.bytes.tree m →
    x ≡ guarded d tree m
guards d m b is = is ∙ ap (λ (e : Expr). guarded d e m) b.is

pub step_at-step-requires : goal.step_at-step-requires
step_at-step-requires c =
    let a = (traversable c.args.self.now.walkable).expanded in
    (at_place a c.args.place (c.requires.0 a).1.here).room

pub slice_bounds-guard-start : goal.slice_bounds-guard-start
slice_bounds-guard-start c = (expr-from c.step_at-step.ensures.at (met c.requires.0 (traversable c.args.self.now.walkable).expanded)).within

pub slice_bounds-guard-count : goal.slice_bounds-guard-count
slice_bounds-guard-count c = (expr-from c.step_at-step.ensures.at (met c.requires.0 (traversable c.args.self.now.walkable).expanded)).within

pub guard-requires : goal.guard-requires
guard-requires c = (expr-from c.step_at-step.ensures.at (met c.requires.0 (traversable c.args.self.now.walkable).expanded)).bytes

pub returns-in_err-guard : goal.returns-in_err-guard
returns-in_err-guard c = λ a s e.
    let p = err_from_is_err_and c.from_residual.result c.from_residual.ensures.1 in
    let x = met c.requires.0 a in
    let b = expr-from c.step_at-step.ensures.at x in
    let d = c.args.setting.now in
    let m = c.args.m.now in
    let g = guards d m b (c.in_err-guard.ensures b.bytes) in
    rw (p.1, p.2) (admits-stops a c.args.place d m x _ _ g
    ∙ ap (λ (t : Step). run_of (walk_by_in c.args.self.now.file.now a.tree d (some t) m)) (at_here (at_place a c.args.place e) e))

pub walk-requires : goal.walk-requires
walk-requires c =
    let a = (traversable c.args.self.now.walkable).expanded in
    let x = met c.requires.0 a in
    let b = expr-from c.step_at-step.ensures.at x in
    let m = c.args.m.now in
    still-funded (ran-keeps c.guard.result _ (guards c.args.setting.now m b (c.guard.ensures b.bytes)) (guarded-keeps c.args.setting.now x.tree m c.requires.1.room)) c.requires.1

pub returns : goal.returns
returns c = λ a s e.
    let x = met c.requires.0 a in
    let b = expr-from c.step_at-step.ensures.at x in
    let d = c.args.setting.now in
    let m = c.args.m.now in
    let g = guards d m b (c.in_ok-guard.ensures b.bytes) in
    c.walk.ensures a
    ∙ ap (λ (n : ℕ). run_of (walk_in c.args.self.now.file.now a.tree d n c.guard.new.m)) c.step_at-step.ensures.target
    ∙ ap run_of (sym (admits-on a c.args.place d m x g))
    ∙ ap (λ (t : Step). run_of (walk_by_in c.args.self.now.file.now a.tree d (some t) m)) (at_here (at_place a c.args.place e) e)

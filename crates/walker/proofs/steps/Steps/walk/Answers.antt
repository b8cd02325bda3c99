-- `walk` meets its contract.
use Rattle.std.specs.Prelude.{Option, Some, None, Result, Ok, Err}
use Rattle.std.specs.Option.{ok_or}
use Prim.Native.Nat.{ℕ, suc}
use mathlib.Core.Path.{◌≡◌, sym, ap, ◌∙◌}
use native.Mathlib.Omega.{arith}
use Rattle.std.proofs.lemmas.Result.{err_from_is_err_and}
use Rattle.rules.specs.Expanding.{expansion}
use Rattle.rules.specs.Stepping.{records_in}
use Rattle.machine.specs.declared.Stop.{Stop}
use Rattle.machine.proofs.Keeping.{still-funded, kept_on}
use Rattle.walker.specs.Runs.{run_of, indexed_as}
use Rattle.walker.proofs.Ends.{step_keeps, step-costs}
use Rattle.walker.proofs.Walks.{traversable, ready, ends-here, no_step, stops-here, goes_on}
use Rattle.walker.proofs.steps.Steps.walk.Goals as goal

-- what is found of a node, from what is made of it
found : (o : Option ℕ) (e : Stop) {r : Result ℕ Stop} {i n : ℕ} → r ≡ ok_or o e → r ≡ Ok i → indexed_as o ≡ n → suc i ≡ n
found None e h g is = cc
found (Some k) e {i = i} h g is = let z : k ≡ i = cc in cc

nothing : (o : Option ℕ) (e : Stop) {s : Stop} {r : Result ℕ Stop} {n : ℕ} → r ≡ ok_or o e → r ≡ Err s → indexed_as o ≡ n → (0 ≡ n) × (s ≡ e)
nothing None e h g is = (is, cc)
nothing (Some k) e h g is = cc

pub returns-in_err-i : goal.returns-in_err-i
returns-in_err-i c = λ a.
    let w = traversable c.args.self.now.walkable in
    let p = err_from_is_err_and c.from_residual.result c.from_residual.ensures.1 in
    let n = nothing _ _ c.ok_or.ensures.value c.in_err-i.was c.place_of.ensures in
    rw (p.1, p.2, n.1) (ap run_of (sym (c.loop-at.invariant.1 a ∙ no_step w a _ _ _ (omega arith) n.0)))

pub advance-requires : goal.advance-requires
advance-requires c =
    let i = found _ _ c.ok_or.ensures.value c.in_ok-i.was c.place_of.ensures in
    (ready (traversable c.args.self.now.walkable) _ _ i, still-funded c.loop-at.invariant.0 c.requires)

pub returns-in_err-at : goal.returns-in_err-at
returns-in_err-at c = λ a.
    let w = traversable c.args.self.now.walkable in
    let p = err_from_is_err_and c.from_residual-in_err-at.result c.from_residual-in_err-at.ensures.1 in
    let i = found _ _ c.ok_or.ensures.value c.in_ok-i.was c.place_of.ensures in
    rw (p.1, p.2) (stops-here w a _ _ _ (omega arith) _ i _ _ (c.in_err-at.ensures a) ∙ ap run_of (sym (c.loop-at.invariant.1 a)))

pub loop-at-smaller : goal.loop-at-smaller
loop-at-smaller c =
    let a = (traversable c.args.self.now.walkable).expanded in
    let k = step-costs c.args.setting.now (records_in c.args.self.now.file.now a.tree.fields.variables) (expansion a.tree) _ _ (c.in_ok-at.ensures a) in
    omega (arith, k.0, k.1)

pub loop-at-preserved : goal.loop-at-preserved
loop-at-preserved c =
    let w = traversable c.args.self.now.walkable in
    let a = w.expanded in
    let h = c.loop-at.invariant in
    let i = found _ _ c.ok_or.ensures.value c.in_ok-i.was c.place_of.ensures in
    let room = (still-funded h.0 c.requires).room in (
      kept_on h.0
          (step_keeps c.args.setting.now (records_in c.args.self.now.file.now a.tree.fields.variables) (expansion a.tree) _ _ room (c.in_ok-at.ensures a)),
      λ a. h.1 a ∙ goes_on w a _ _ _ (omega arith) _ i (c.in_ok-at.ensures a),
    )

pub returns : goal.returns
returns c = λ a.
    let w = traversable c.args.self.now.walkable in
    ap run_of (sym (c.loop-at.invariant.1 a ∙ ends-here w a _ _ _ (omega arith)))

-- `write_entries` meets its contract.
use Prim.Native.Nat.{ℕ}
use mathlib.Core.Path.{◌≡◌, refl, sym, ap, ◌∙◌}
use mathlib.Core.List.{List, [], ◌∷◌}
use native.Mathlib.Omega.{arith}
use lib.ListN.{length, length-append}
use borrow.Author.Tests.{eqb-true, eqb-false, ne_eqb}
use lib.Dec.{eqb}
use Rattle.std.specs.Prelude.{Result, Ok, Err}
use Rattle.std.specs.Result.{result_eq}
use Rattle.emitter.specs.Steps.{Numbers}
use Rattle.emitter.specs.declared.steps.UnknownStepKind.{UnknownStepKind}
use Rattle.emitter.specs.declared.steps.StepKind.{StepKind}
use Rattle.emitter.specs.declared.steps.StepKind.TheVariants.{Guard, True, False, Set, Transfer, Require, Return}
use Rattle.emitter.specs.contracts.steps.StepKindPartialEq.TheImpl.{eq-value as kinds-eq}
use Rattle.emitter.specs.contracts.steps.UnknownStepKindPartialEq.TheImpl.{eq-value as unknown-eq}
use Rattle.rules.specs.Expanding.{expansion}
use Rattle.walker.specs.Tables.{Expanded}
use Rattle.walker.proofs.Bounds.{few, within}
use Rattle.walker.proofs.Tables.{Here}
use Rattle.walker.proofs.Indexes.{entries-here, entries-other, entries-all}
use Rattle.walker.proofs.index.write_entries.Goals as goal
use Rattle.walker.proofs.index.write_entries.Goals.{then-eq, else-eq}

-- the kind that is looked for is that of this number
guards : (n : ℕ) (r : Result StepKind UnknownStepKind) → Numbers n r → result_eq kinds-eq.it unknown-eq.it r (Ok Guard) ≡ eqb n 1
guards n (Ok Guard) h = rw (← h) refl
guards n (Ok True) h = rw (← h) refl
guards n (Ok False) h = rw (← h) refl
guards n (Ok Set) h = rw (← h) refl
guards n (Ok Transfer) h = rw (← h) refl
guards n (Ok Require) h = rw (← h) refl
guards n (Ok Return) h = rw (← h) refl
guards n (Err e) h = sym (ne_eqb _ 1 (λ z. h Guard (sym z)))

pub step_at-requires : goal.step_at-requires
step_at-requires c = omega (arith, (within c.requires.0 c.loop-i.i c.loop-i-test.true).step.room)

pub overflow_cast-i : goal.overflow_cast-i
overflow_cast-i c = omega (arith, few c.requires.0)

pub push-requires : goal.push-requires
push-requires c = omega (arith, few c.requires.0, c.loop-i.invariant.0)

pub loop-i-preserved : goal.loop-i-preserved
loop-i-preserved c =
    let i = c.loop-i.i in
    let p : List ℕ = c.loop-i.entries in
    let h = c.loop-i.invariant in
    let kinds = guards _ c.try_from.result c.try_from.ensures ∙ ap (λ (n : ℕ). eqb n 1) c.step_at.ensures.kind in
    let here : (file : List ℕ) (a : Expanded file c.args.words.now) → c.args.steps ≡ length (expansion a.tree) → Here c.args.words.now (expansion a.tree) i
    = λ file a e. (within (record { file = file; expanded = a; counts = e }) i c.loop-i-test.true).step in
    elim c.if-eq.branch [
      | then-eq w ↦ (
        omega (arith, ap length (w.entries-is ∙ w.push.ensures), length-append p (i ∷ []), h.0),
        λ file a e. rw (w.entries-is ∙ w.push.ensures) (entries-here (here file a e) p (h.1 file a e) (eqb-true _ 1 (sym kinds ∙ sym w.if-eq.ensures))),
      )
      | else-eq w ↦ (
        omega (arith, ap length w.entries-is, h.0),
        λ file a e. rw w.entries-is (entries-other (here file a e) p (h.1 file a e) (eqb-false _ 1 (sym kinds ∙ sym w.if-eq.ensures))),
      )
    ]

pub returns : goal.returns
returns c = λ file a e. entries-all (expansion a.tree) c.loop-i.entries c.loop-i.i (omega arith) (c.loop-i.invariant.1 file a e)

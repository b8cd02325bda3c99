-- `find_entry` meets its contract.
use Prim.Native.Nat.{ℕ, ◌<◌}
use mathlib.Core.Path.{◌≡◌, refl, sym, ◌∙◌}
use mathlib.Core.Bool.{true, false}
use mathlib.Core.List.{List}
use lib.ListN.{length, get_or}
use Rattle.rules.specs.Expanding.{expansion}
use Rattle.walker.specs.Tables.{Expanded, guard_places}
use Rattle.walker.proofs.Guards.{Place, left-all, place, found_here, found-other, found_none, found-end}
use Rattle.walker.proofs.entries.Entries.find_entry.Goals as goal
use Rattle.walker.proofs.entries.Entries.find_entry.Goals.{then-step-from+else-step-state, else-step-from}

-- the step that is looked at, at its place
looked :
    {words entries items : List ℕ} {i : ℕ} → items ≡ entries → i < length items → {file : List ℕ} (a : Expanded file words) → entries ≡ guard_places 0 (expansion a.tree) →
    Place words (expansion a.tree) i (get_or items i 0)
looked {words} {items = items} {i} is low a e = place words (expansion a.tree) a.begins items (is ∙ e) i low

pub loop-place-init : goal.loop-place-init
loop-place-init c = λ file a e. (false, refl, left-all c.args.words.now (expansion a.tree) a.begins c.args.name c.args.state)

pub step_at-step-requires : goal.step_at-step-requires
step_at-step-requires c = (looked c.places-place-items.ensures c.loop-place-test.true c.requires.expanded c.requires.entered).here.room

pub returns-then-step-state : goal.returns-then-step-state
returns-then-step-state c = λ file a e.
    let s = c.step_at-step.ensures in
    found_here _ _ (looked c.places-place-items.ensures c.loop-place-test.true a e) _ _ _ (c.loop-place.invariant file a e).2
    (sym s.name ∙ c.if-step-from.true ∙ c.from.ensures) (sym s.origin ∙ c.if-step-state.true)

pub loop-place-preserved : goal.loop-place-preserved
loop-place-preserved c = λ file a e.
    let name = c.args.name in
    let state = c.args.state in
    let words = c.args.words.now in
    let s = c.step_at-step.ensures in
    let T = expansion a.tree in
    let h = c.loop-place.invariant file a e in
    let p = looked c.places-place-items.ensures c.loop-place-test.true a e in
    elim c.if-step-from.branch [
      | then-step-from+else-step-state w ↦
          (true, w.found-is, found-other words T p _ name state h.2 (sym s.name ∙ w.if-step-from.true ∙ c.from.ensures) (λ z. w.if-step-state.false (s.origin ∙ z)))
      | else-step-from w ↦ (h.0, w.found-is ∙ h.1, found_none words T p _ name state h.2 (λ z. w.if-step-from.false (s.name ∙ z ∙ sym c.from.ensures)))
    ]

-- the entries have all been passed
pub returns : goal.returns
returns c = λ file a e.
    let h = c.loop-place.invariant file a e in
    rw h.1
    (found-end c.args.words.now (expansion a.tree) _ (c.places-place-items.ensures ∙ e) _ c.loop-place-test.false h.0 c.args.name c.args.state h.2)

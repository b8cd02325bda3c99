-- Starting and calling keep the lengths of a state record's arrays, on either form, for all inputs (shapes-kept).
use mathlib.Core.Path.{◌≡◌, refl, ◌∙◌}
use Prim.Native.Nat.{ℕ}
use native.Mathlib.Omega.{arith}
use mathlib.Core.Bool.{Bool, true, false}
use mathlib.Core.List.{List}
use Rattle.rules.specs.declared.Call.{Call}
use Rattle.rules.specs.declared.Outcome.{Outcome}
use Rattle.rules.specs.declared.State.{State}
use Rattle.rules.specs.Syntax.{Agreement}
use Rattle.rules.specs.Accepting.{file_of}
use Rattle.rules.specs.Calling.{zero_state, refused_start, refused_call, start_tree, start, call}
use Rattle.rules.specs.Judging.{is_completed}
use Rattle.rules.specs.Demands.{Shaped, ShapesKept}
use Rattle.totals.proofs.Trees.{GoodTree, tree-good}
use Rattle.totals.proofs.Refusing.{file-case, start-tree-restores}
use Rattle.totals.proofs.Fitting.{call-tree-kept, start-fit}
use Rattle.totals.proofs.Expanded.{start-expanded, call-expanded}

zero-shaped : Shaped zero_state
unfolding zero_state
zero-shaped = (refl, refl)

-- a start that completes leads to a fit record, and any other to the all-zero one
start-shaped : (file : List ℕ) → Shaped (start file).state
unfolding start refused_start
start-shaped file =
    file-case (λ (o : Outcome). Shaped o.state) (file_of file) (λ _. zero-shaped) λ a e.
    go a (tree-good file a e).tree (is_completed (start_tree a).answer) refl
  where
    go : (a : Agreement) → GoodTree a → (b : Bool) → is_completed (start_tree a).answer ≡ b → Shaped (start_tree a).state
    go a g true c = let f = start-fit a g c in (f.sixteen, f.eight)
    go a g false c = rw (start-tree-restores a c) zero-shaped

call-shaped : (file : List ℕ) (s : State) (k : Call) → Shaped s → Shaped (call file s k).state
unfolding call refused_call
call-shaped file s k h =
    file-case (λ (o : Outcome). Shaped o.state) (file_of file) (λ _. h) λ a e.
    let g = (tree-good file a e).tree in
    let few = g.fields.few-accounts in
    let kept = (call-tree-kept a g s k (omega (arith, h.1))).holdings in
    (kept.variables ∙ h.0, kept.balances ∙ h.1)

pub shapes-kept : ShapesKept
unfolding refused_start refused_call
shapes-kept file words s k =
    let Fine : Outcome → Type 0 = λ o. Shaped o.state in
    let started = start-shaped file in (
      started,
      start-expanded Fine file words (λ _. zero-shaped) started,
      call-shaped file s k,
      λ h. call-expanded Fine file words s k (λ _. h) (call-shaped file s k h),
    )

-- A position with the call of one row more.
use Prim.Native.Nat.{ℕ}
use mathlib.Core.Path.{◌≡◌, sym, ap, fun_ext}
use mathlib.Core.Bool.{Bool, true, false}
use mathlib.Core.List.{List, [], ◌∷◌}
use native.Mathlib.Omega.{arith}
use lib.ListN.{length, get_or}
use Rattle.rules.specs.declared.Call.{Call}
use Rattle.rules.specs.declared.Fields.{Fields}
use Rattle.rules.specs.declared.Outcome.{Outcome}
use Rattle.rules.specs.declared.State.{State}
use Rattle.rules.specs.Lists.{lists_to}
use Rattle.rules.specs.Syntax.{Rule, Agreement}
use Rattle.rules.specs.Calling.{no_call, start_tree, call_tree, calls_from}
use Rattle.rules.specs.Judging.{Event, is_completed, events_in, breaks_by, breaks, breaks_run, rows_at, ruled_on, breaking, lists_for, ruling}
use Rattle.totals.proofs.Trees.{tree-good}
use Rattle.totals.proofs.Fitting.{call-tree-kept, fit-kept, fit-not-unfit, not-unfit-fit}
use Rattle.machine.specs.Calls.{Fits}
use Rattle.access.specs.Trees.{AcceptedFile}
use Rattle.searcher.specs.declared.Status.{Status}
use Rattle.searcher.specs.Standing.{breaks_after}
use Rattle.searcher.specs.declared.Position.{Position}
use Rattle.searcher.specs.Searching.{breaks_from}
use Rattle.searcher.proofs.Events.{ends}

pub breaks-none : (a : Agreement) (rule : Rule) (p : Position) → p.status.broken ≡ breaks_from a rule p []
unfolding breaks_from rows_at calls_from events_in
breaks-none a rule p = sym (ends rule p.status)

module _ (a : Agreement) (rule : Rule) (p : Position) (i : ℕ) (o : Outcome) (is : o ≡ call_tree a p.state (get_or a.rows i no_call)) (l : List ℕ) where
  pub breaks-refused : is_completed o.answer ≡ false → breaks_from a rule (record { state = o.state; status = p.status }) l ≡ breaks_from a rule p (i ∷ l)
  unfolding breaks_from rows_at calls_from events_in
  breaks-refused h = rw (← is, h)

  pub breaks-completed :
      is_completed o.answer ≡ true → (s : Status) →
      ((es : List Event) → breaks_after rule s es ≡ breaks_after rule p.status (record { name = (get_or a.rows i no_call).name; state = o.state } ∷ es)) →
      breaks_from a rule (record { state = o.state; status = s }) l ≡ breaks_from a rule p (i ∷ l)
  unfolding breaks_from rows_at calls_from events_in
  breaks-completed h s f = rw (← is, h) (f _)

-- a call leads from a record that fits to one
pub call_fits : {file : List ℕ} (a : AcceptedFile file) (f : Fields) → f ≡ a.tree.fields → (s : State) (k : Call) (o : Outcome)
    → o ≡ call_tree a.tree s k → Fits f s → Fits f o.state
call_fits {file} a f same s k o is h =
    let g = (tree-good file a.tree a.is).tree in
    let few = g.fields.few-accounts in
    let eight = h.eight in
    let fit = not-unfit-fit a.tree.fields s h.sixteen h.eight (rw same at h.fits) in
    let k = fit-kept a.tree.fields s (call_tree a.tree s k).state (call-tree-kept a.tree g s k (omega arith)) fit in
    rw (same, is) (record { sixteen = k.sixteen; eight = k.eight; fits = fit-not-unfit a.tree.fields _ k })

-- the ruling, from how the rule stands at first
module _ (a : Agreement) (x : Rule) (fresh : State) (s : Status) (is : fresh ≡ (start_tree a).state)
    (begins : (es : List Event) → breaks_after x s es ≡ breaks_by x fresh es) where
  breaks-fresh : (l : List ℕ) → breaks_from a x (record { state = fresh; status = s }) l ≡ breaking a x l
  unfolding breaks_from breaking breaks breaks_run
  breaks-fresh l = rw (← is) (begins _)

  pub ruling-by : (bound count depth : ℕ) → bound ≡ a.fields.bound → count ≡ length a.rows → depth ≡ a.fields.depth
      → ruled_on bound (breaks_from a x (record { state = fresh; status = s })) (lists_to count depth) ≡ ruling a x
  unfolding ruling lists_for
  ruling-by bound count depth b c d =
      rw (b, c, d) (ap (λ (p : List ℕ → Bool). ruled_on a.fields.bound p (lists_to (length a.rows) a.fields.depth)) (fun_ext breaks-fresh))

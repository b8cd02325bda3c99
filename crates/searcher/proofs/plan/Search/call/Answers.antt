-- The call is refused or completed, and leads to a record that fits.
use mathlib.Core.Path.{◌≡◌, sym, ap, ◌∙◌}
use Prim.Native.Nat.{ℕ, ◌<◌}
use mathlib.Core.List.{List}
use lib.ListN.{length, get_or}
use Rattle.std.proofs.lemmas.List.{get_or_default}
use Rattle.rules.specs.declared.Outcome.{Outcome}
use Rattle.rules.specs.declared.State.{State}
use Rattle.rules.specs.declared.Call.{Call}
use Rattle.rules.specs.declared.Fields.{Fields}
use Rattle.rules.specs.Calling.{no_call, call_tree}
use Rattle.forms.proofs.Agreement.{call-steps}
use Rattle.access.specs.declared.RuleAt.{RuleAt}
use Rattle.runner.proofs.Lent.{by-file}
use Rattle.walker.specs.Tables.{Expanded}
use Rattle.machine.specs.Calls.{Fits}
use Rattle.runner.specs.Tables.{call_in}
use Rattle.searcher.specs.Plans.{Planned}
use Rattle.searcher.proofs.Positions.{breaks-refused, breaks-completed, call_fits}
use Rattle.searcher.proofs.plan.Search.call.Goals as goal

module _ {file words : List ℕ} {fields : Fields} {rule : RuleAt} {rows : List Call} (g : Planned file words fields rule rows) (row : ℕ) (less : row < length rows) where
  row_is : (d : Call) → get_or rows row d ≡ get_or g.accepted.tree.rows row no_call
  row_is d = get_or_default rows row d no_call less ∙ g.are_rows row less

  -- what the call led to, by the accepted file, and a record that fits
  module _ (d : Call) (s : State) {o : Outcome} (does : (a : Expanded file words) → o ≡ call_in file a.tree s (get_or rows row d)) where
    led : o ≡ call_tree g.accepted.tree s (get_or g.accepted.tree.rows row no_call)
    led = does (by-file g.expanded g.accepted) ∙ call-steps _ g.accepted.tree g.accepted.is _ _ ∙ ap (call_tree g.accepted.tree s) (row_is d)

    fits-on : Fits fields s → Fits fields o.state
    fits-on = call_fits g.accepted _ g.are_fields _ _ _ led

pub returns-then-is_completed-clause-fits : goal.returns-then-is_completed-clause-fits
returns-then-is_completed-clause-fits c = fits-on c.requires.0 c.args.row c.requires.1 _ _ c.call_fitting-answer.ensures c.requires.2

pub returns-else-is_completed-clause-fits : goal.returns-else-is_completed-clause-fits
returns-else-is_completed-clause-fits c = fits-on c.requires.0 c.args.row c.requires.1 _ _ c.call_fitting-answer.ensures c.requires.2

pub returns-then-is_completed-clause-l_after : goal.returns-then-is_completed-clause-l_after
returns-then-is_completed-clause-l_after c = λ g l.
    let row = c.args.row in
    let less = c.requires.1 in
    breaks-completed g.accepted.tree g.judged c.args.position.now row _ (led g row less _ _ c.call_fitting-answer.ensures) l
    (sym c.is_completed.ensures ∙ c.if-is_completed.true) c.after-position.result
    (λ es. let e = c.after-position.ensures g.judged g.holds c.call_fitting-answer.new.s.balances es in rw (row_is g row less _) at e)

pub returns-else-is_completed-clause-l_after : goal.returns-else-is_completed-clause-l_after
returns-else-is_completed-clause-l_after c = λ g l.
    breaks-refused g.accepted.tree g.judged c.args.position.now c.args.row _
    (led g c.args.row c.requires.1 _ _ c.call_fitting-answer.ensures) l (sym c.is_completed.ensures ∙ c.if-is_completed.false)

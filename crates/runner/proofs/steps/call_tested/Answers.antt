-- `call_tested` meets its contract, by the tests that come before the name is looked for.
use mathlib.Core.Path.{sym, ◌∙◌}
use Rattle.std.proofs.lemmas.Result.{err_from_is_err_and}
use Rattle.rules.specs.Calling.{refused_call}
use Rattle.machine.proofs.Calls.{first-passed, first-refused}
use Rattle.walker.proofs.Walks.{fields-of}
use Rattle.runner.proofs.Runs.{accounts-few}
use Rattle.runner.proofs.Lent.{file-of, call-walkable, steps-call}
use Rattle.runner.proofs.steps.call_tested.Goals as goal

pub check_call-requires : goal.check_call-requires
check_call-requires c = let w = call-walkable c.args.p.now in accounts-few (file-of w.expanded) w.counts

pub returns-in_err-check_call : goal.returns-in_err-check_call
unfolding refused_call
returns-in_err-check_call c =
    let p = err_from_is_err_and c.from_residual.result c.from_residual.ensures.1 in
    λ a. rw (p.1, p.2)
    (first-refused _ c.args.s.now c.args.k.now _ _ (sym c.in_err-check_call.was ∙ c.check_call.ensures)
    ∙ steps-call _ a.tree (fields-of (call-walkable c.args.p.now) a) c.args.s.now c.args.k.now)

pub call_passed-requires : goal.call_passed-requires
call_passed-requires c = first-passed _ _ _ (sym c.in_ok-check_call.was ∙ c.check_call.ensures)

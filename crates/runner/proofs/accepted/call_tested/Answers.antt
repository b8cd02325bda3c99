-- `call_tested` meets its contract, by what is found of the name once the tests have passed.
use Rattle.std.specs.Prelude.{Ok}
use mathlib.Core.Path.{sym, ap, ◌∙◌}
use native.Mathlib.Omega.{arith}
use Rattle.std.proofs.lemmas.Result.{err_from_is_err_and}
use Rattle.rules.specs.Calling.{called, refused_call}
use Rattle.machine.proofs.Runs.{came}
use Rattle.machine.proofs.Calls.{first-passed, first-refused}
use Rattle.access.proofs.Using.{find_at, find-elsewhere, find-unknown, tree-bounds, tree_of}
use Rattle.runner.proofs.Runs.{fallback_of, standing, accounts-few, asked, moves, call_enters, entered-funded, tree-call, tree-elsewhere, tree-unknown, tree-found}
use Rattle.runner.proofs.accepted.call_tested.Goals as goal

pub check_call-requires : goal.check_call-requires
check_call-requires c = accounts-few c.requires (c.fields-fields.ensures (tree_of c.requires))

pub returns-in_err-check_call : goal.returns-in_err-check_call
unfolding refused_call
returns-in_err-check_call c =
    let p = err_from_is_err_and c.from_residual.result c.from_residual.ensures.1 in
    λ a. rw (p.1, p.2)
    (first-refused _ c.args.s.now c.args.k.now _ _ (sym c.in_err-check_call.was ∙ c.check_call.ensures)
    ∙ tree-call a.tree (c.fields-fields.ensures (tree_of a)) c.args.s.now c.args.k.now)

pub returns-in_err-found : goal.returns-in_err-found
unfolding refused_call
returns-in_err-found c =
    let p = err_from_is_err_and c.from_residual-in_err-found.result c.from_residual-in_err-found.ensures.1 in
    λ a.
    let e = find-elsewhere (tree_of a) _ _ (sym c.in_err-found.was ∙ c.find_transition.ensures (tree_of a)) in
    rw (p.1, p.2)
    (tree-elsewhere a.tree (c.fields-fields.ensures (tree_of a)) c.args.s.now c.args.k.now
    (first-passed _ _ _ (sym c.in_ok-check_call.was ∙ c.check_call.ensures)) e.0 e.1)

pub entering-requires : goal.entering-requires
entering-requires c =
    let a = c.requires in
    let p = first-passed _ _ _ (sym c.in_ok-check_call.was ∙ c.check_call.ensures) in
    asked (call_enters a (c.fields-fields.ensures (tree_of a)) p (omega arith))

-- the fallback action
pub slice_bounds-run_statement-start : goal.slice_bounds-run_statement-start
slice_bounds-run_statement-start c = omega (arith, (fallback_of c.args.parsed.now c.requires).fits)

pub slice_bounds-run_statement-count : goal.slice_bounds-run_statement-count
slice_bounds-run_statement-count c = omega (arith, (fallback_of c.args.parsed.now c.requires).fits)

pub run_statement-run-requires : goal.run_statement-run-requires
run_statement-run-requires c =
    let a = c.requires in
    let p = first-passed _ _ _ (sym c.in_ok-check_call.was ∙ c.check_call.ensures) in (
      (standing (fallback_of c.args.parsed.now a)).0,
      entered-funded a (c.fields-fields.ensures (tree_of a)) p (omega arith) c.entering.ensures.0 c.entering.ensures.1,
    )

pub returns-in-None : goal.returns-in-None
returns-in-None c = λ a.
    let t = tree_of a in
    let p = first-passed _ _ _ (sym c.in_ok-check_call.was ∙ c.check_call.ensures) in
    let e = find-unknown t _ _ (sym (c.in_ok-found.was ∙ ap Ok c.in-None.is) ∙ c.find_transition.ensures t) in
    let x = standing (fallback_of c.args.parsed.now a) in
    let r = c.run_statement-run.ensures x.0 in
    c.called.ensures ∙ ap (called c.args.s.now) (came _ _ _ c.completed.ensures)
    ∙ rw (rw x.1 at r)
    (tree-unknown a.tree (c.fields-fields.ensures t) c.args.s.now c.args.k.now p c.entering.ensures.0 c.entering.ensures.1 e.0 e.1)

-- the transition that was found
pub overflow_add-at : goal.overflow_add-at
overflow_add-at c =
    let t = tree_of c.requires in
    let x = find_at t _ _ _ (sym (c.in_ok-found.was ∙ ap Ok c.in-Some.is) ∙ c.find_transition.ensures t) in
    omega (arith, x.record-at.fits, (tree-bounds t).size)

pub bounds-parsed-at : goal.bounds-parsed-at
bounds-parsed-at c =
    let t = tree_of c.requires in
    let x = find_at t _ _ _ (sym (c.in_ok-found.was ∙ ap Ok c.in-Some.is) ∙ c.find_transition.ensures t) in
    omega (arith, x.record-at.fits, (tree-bounds t).size)

pub run_transition-run-requires : goal.run_transition-run-requires
run_transition-run-requires c =
    let a = c.requires in
    let t = tree_of a in
    let p = first-passed _ _ _ (sym c.in_ok-check_call.was ∙ c.check_call.ensures) in (
      (moves (find_at t _ _ _ (sym (c.in_ok-found.was ∙ ap Ok c.in-Some.is) ∙ c.find_transition.ensures t))).0,
      entered-funded a (c.fields-fields.ensures t) p (omega arith) c.entering.ensures.0 c.entering.ensures.1,
    )

pub returns-in-Some : goal.returns-in-Some
returns-in-Some c = λ a.
    let t = tree_of a in
    let p = first-passed _ _ _ (sym c.in_ok-check_call.was ∙ c.check_call.ensures) in
    let x = find_at t _ _ _ (sym (c.in_ok-found.was ∙ ap Ok c.in-Some.is) ∙ c.find_transition.ensures t) in
    let v = moves x in
    let r = c.run_transition-run.ensures v.0 in
    c.called-in-Some.ensures ∙ ap (called c.args.s.now) (came _ _ _ c.completed-in-Some.ensures)
    ∙ rw (rw (v.1, v.2) at r)
    (tree-found a.tree (c.fields-fields.ensures t) c.args.s.now c.args.k.now p c.entering.ensures.0 c.entering.ensures.1
    x.transition x.is (x.record-at.to ∙ sym c.from-to.ensures))

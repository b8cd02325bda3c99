-- `call_passed` meets its contract, by what is found of the name.
use Rattle.std.specs.Prelude.{Ok, Err}
use mathlib.Core.Path.{ap, subst, ◌∙◌}
use native.Mathlib.Omega.{arith}
use Rattle.std.proofs.lemmas.Result.{err_from_is_err_and}
use Rattle.rules.specs.Expanding.{expansion}
use Rattle.rules.specs.Calling.{called, refused_call}
use Rattle.machine.proofs.Runs.{came}
use Rattle.walker.specs.Tables.{EntryFound}
use Rattle.walker.proofs.Walks.{fields-of}
use Rattle.runner.proofs.Runs.{asked, call_enters, entered-funded}
use Rattle.runner.proofs.Lent.{file-of, call-walkable, entry-met, reached, refused, steps-elsewhere, steps-run, not-elsewhere}
use Rattle.runner.proofs.steps.call_passed.Goals as goal

pub find_entry-requires : goal.find_entry-requires
find_entry-requires c =
    let a = (call-walkable c.args.p.now).expanded in
    record { file = _; expanded = a; entered = c.args.p.now.entered a }

pub returns-in_err-entry : goal.returns-in_err-entry
unfolding refused_call
returns-in_err-entry c =
    let p = err_from_is_err_and c.from_residual.result c.from_residual.ensures.1 in
    λ a.
    let x = subst (EntryFound (expansion a.tree) _ _) c.in_err-entry.was (c.find_entry.ensures _ a (c.args.p.now.entered a)) in
    rw (p.1, p.2) (steps-elsewhere _ a.tree (fields-of (call-walkable c.args.p.now) a) c.args.s.now c.args.k.now c.requires x.0 x.1)

pub entering-requires : goal.entering-requires
entering-requires c =
    let w = call-walkable c.args.p.now in
    asked (call_enters (file-of w.expanded) w.counts c.requires (omega arith))

pub run-requires : goal.run-requires
run-requires c =
    let w = call-walkable c.args.p.now in
    let i = c.entering.ensures.1 in (
      entered-funded (file-of w.expanded) w.counts c.requires (omega arith) c.entering.ensures.0 i,
      λ a.
          let x = subst (EntryFound (expansion a.tree) _ _) c.in_ok-entry.was (c.find_entry.ensures _ a (c.args.p.now.entered a)) in
          entry-met (expansion a.tree) _ c.args.s.now c.args.k.now (Ok c.in_ok-entry.entry) i x,
    )

pub returns-in-Ok : goal.returns-in-Ok
returns-in-Ok c = λ a.
    let f = fields-of (call-walkable c.args.p.now) a in
    let i = c.entering.ensures.1 in
    c.called.ensures ∙ ap (called c.args.s.now) (reached c.entering.result.1 _ (c.in-Ok.ensures a) c.settle.ensures)
    ∙ steps-run _ a.tree f c.args.s.now c.args.k.now c.requires
    (not-elsewhere _ _ _ _ (subst (EntryFound (expansion a.tree) _ _) c.in_ok-entry.was (c.find_entry.ensures _ a (c.args.p.now.entered a)))) c.entering.ensures.0 i

pub returns-in-Err : goal.returns-in-Err
returns-in-Err c = λ a.
    let f = fields-of (call-walkable c.args.p.now) a in
    let i = c.entering.ensures.1 in
    c.called-in-Err.ensures ∙ ap (called c.args.s.now) (came _ (Err c.in-Err.stop) _ c.completed.ensures ∙ refused c.entering.result.1 _ _ _ _ (c.in-Err.ensures a))
    ∙ steps-run _ a.tree f c.args.s.now c.args.k.now c.requires
    (not-elsewhere _ _ _ _ (subst (EntryFound (expansion a.tree) _ _) c.in_ok-entry.was (c.find_entry.ensures _ a (c.args.p.now.entered a)))) c.entering.ensures.0 i

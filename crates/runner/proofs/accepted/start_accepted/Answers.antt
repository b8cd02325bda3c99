-- `start_accepted` meets its contract: the initial action runs on the opening state.
use mathlib.Core.Path.{ap, ◌∙◌}
use native.Mathlib.Omega.{arith}
use Rattle.rules.specs.Calling.{started}
use Rattle.machine.proofs.Runs.{came}
use Rattle.access.proofs.Using.{tree_of}
use Rattle.runner.proofs.Runs.{initial_of, standing, opening-small, started-funded, start_is}
use Rattle.runner.proofs.accepted.start_accepted.Goals as goal

pub starting-requires : goal.starting-requires
starting-requires c = opening-small c.requires (c.fields.ensures (tree_of c.requires))

pub slice_bounds-run_statement-start : goal.slice_bounds-run_statement-start
slice_bounds-run_statement-start c = omega (arith, (initial_of c.args.parsed.now c.requires).fits)

pub slice_bounds-run_statement-count : goal.slice_bounds-run_statement-count
slice_bounds-run_statement-count c = omega (arith, (initial_of c.args.parsed.now c.requires).fits)

pub run_statement-run-requires : goal.run_statement-run-requires
run_statement-run-requires c =
    let a = c.requires in
    ((standing (initial_of c.args.parsed.now a)).0, started-funded a (c.fields.ensures (tree_of a)) c.starting.ensures.0 c.starting.ensures.1)

pub returns : goal.returns
returns c = λ a.
    let x = standing (initial_of c.args.parsed.now a) in
    let e = c.run_statement-run.ensures x.0 in
    c.started.ensures ∙ ap started (came _ _ _ c.completed.ensures) ∙ rw (rw x.1 at e) (start_is a.tree (c.fields.ensures (tree_of a)) c.starting.ensures.0 c.starting.ensures.1)

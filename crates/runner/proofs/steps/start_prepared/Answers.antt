-- `start_prepared` meets its contract: the run from the initial action's entry, on the opening state.
use Rattle.std.specs.Prelude.{Err}
use mathlib.Core.Path.{ap, ◌∙◌}
use Rattle.rules.specs.Calling.{started}
use Rattle.machine.proofs.Runs.{came}
use Rattle.walker.proofs.Walks.{fields-of}
use Rattle.runner.proofs.Runs.{opening-small, started-funded}
use Rattle.runner.proofs.Lent.{file-of, start-walkable, reached, refused, start-in}
use Rattle.runner.proofs.steps.start_prepared.Goals as goal

pub starting-requires : goal.starting-requires
starting-requires c = let w = start-walkable c.args.steps.now c.requires in opening-small (file-of w.expanded) w.counts

pub walk-requires : goal.walk-requires
walk-requires c =
    let w = start-walkable c.args.steps.now c.requires in
    started-funded (file-of w.expanded) w.counts c.starting.ensures.0 c.starting.ensures.1

pub returns-in-Ok : goal.returns-in-Ok
returns-in-Ok c = λ a.
    let f = fields-of (start-walkable c.args.steps.now c.requires) a in
    let i = c.starting.ensures.1 in
    c.started.ensures ∙ ap started (reached c.starting.result.1 _ (c.in-Ok.ensures a) c.settle.ensures)
    ∙ start-in _ a.tree f c.from.ensures c.starting.ensures.0 i

pub returns-in-Err : goal.returns-in-Err
returns-in-Err c = λ a.
    let f = fields-of (start-walkable c.args.steps.now c.requires) a in
    let i = c.starting.ensures.1 in
    c.started-in-Err.ensures ∙ ap started (came _ (Err c.in-Err.stop) _ c.completed.ensures ∙ refused c.starting.result.1 _ _ _ _ (c.in-Err.ensures a))
    ∙ start-in _ a.tree f c.from.ensures c.starting.ensures.0 i

-- `run_transition` meets its contract: the guard ends the run, or the action follows it.
use mathlib.Core.Path.{sym}
use Rattle.machine.proofs.Keeping.{ran-keeps, guarded-keeps, still-funded}
use Rattle.runner.proofs.accepted.run_transition.Goals as goal

pub run_statement-requires : goal.run_statement-requires
run_statement-requires c =
    let t = c.requires.0 in
    let m = c.args.m.now in
    let k = ran-keeps c.guard.result _ (c.guard.ensures t.guard) (guarded-keeps c.args.setting.now t.guard.tree m c.requires.1.room) in
    (rw c.action_at-action.ensures t.action, still-funded k c.requires.1)

pub returns : goal.returns
returns c = λ t. rw (sym (c.in_ok-guard.ensures t.guard)) (c.run_statement.ensures (rw c.action_at-action.ensures t.action))

-- `call` meets its contract: what reading answers says whether the file is accepted.
use Rattle.rules.specs.Accepting.{on_file}
use Rattle.rules.specs.Calling.{call}
use Rattle.access.proofs.Using.{refused-file}
use Rattle.runner.proofs.Runs.{file_is, file_moved}
use Rattle.runner.proofs.unexpanded.call.Goals as goal

pub call_accepted-requires : goal.call_accepted-requires
call_accepted-requires c = file_is c.in-Ok.accepted

pub returns-in-Ok : goal.returns-in-Ok
unfolding call on_file
returns-in-Ok c = let x = c.in-Ok.accepted in rw (file_moved x c.in-Ok.ensures.0).is (c.call_accepted.ensures (file_is x))

pub returns-in-Err : goal.returns-in-Err
unfolding call on_file
returns-in-Err c = rw (refused-file _ _ c.in-Err.ensures) c.refused_call.ensures

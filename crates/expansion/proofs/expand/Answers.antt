-- `expand` meets its contract.
use mathlib.Core.Path.{sym, ◌∙◌}
use native.Mathlib.Omega.{arith}
use Rattle.std.proofs.lemmas.Result.{err_from_is_err_and}
use Rattle.access.proofs.Kept.{accepted-moved, accepted-of, few_of}
use Rattle.access.proofs.Using.{refused-file}
use Rattle.expansion.proofs.ExpandAnswers.{expand-refused, expand-few, expand-written}
use Rattle.expansion.proofs.Files.{writable}
use Rattle.expansion.proofs.expand.Goals as goal

pub returns-in_err-accepted : goal.returns-in_err-accepted
returns-in_err-accepted c =
    let p = err_from_is_err_and c.from_residual.result c.from_residual.ensures.1 in
    rw (p.1, p.2) (expand-refused c.args.file.now c.args.words.now _ (refused-file c.args.file.now _ c.in_err-accepted.ensures))

pub returns-in_err-check_room : goal.returns-in_err-check_room
returns-in_err-check_room c =
    let p = err_from_is_err_and c.from_residual-in_err-check_room.result c.from_residual-in_err-check_room.ensures.1 in
    let a = (accepted-of c.in_ok-accepted.accepted.accepted).0 in
    rw (p.1, p.2)
    (expand-few (accepted-moved (sym c.in_ok-accepted.ensures.0) a) c.args.words.now (sym c.in_err-check_room.was ∙ c.check_room.ensures.is a))

pub write_expansion-requires : goal.write_expansion-requires
write_expansion-requires c = writable (accepted-of c.in_ok-accepted.accepted.accepted) c.in_ok-check_room.ensures.room

pub overflow_cast-result : goal.overflow_cast-result
overflow_cast-result c = omega (arith, few_of c.in_ok-accepted.accepted.accepted)

pub returns : goal.returns
returns c =
    let p = accepted-of c.in_ok-accepted.accepted.accepted in
    expand-written (accepted-moved (sym c.in_ok-accepted.ensures.0) p.0) c.args.words.now (sym c.in_ok-check_room.was ∙ c.check_room.ensures.is p.0)
    p.1 (c.write_expansion.ensures p.0)

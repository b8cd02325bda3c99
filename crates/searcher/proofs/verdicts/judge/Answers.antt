-- `judge` meets its contract: the file, the tests 10, 11 and 27, and then the verdict on the written steps.
use mathlib.Core.Bool.{Bool, true}
use mathlib.Core.Path.{◌≡◌, sym, ap, ◌∙◌}
use native.Mathlib.Omega.{arith}
use Rattle.std.proofs.lemmas.Result.{err_from_is_err_and}
use Rattle.rules.specs.declared.Outcome.{Outcome}
use Rattle.rules.specs.Judging.{is_completed}
use Rattle.access.proofs.Kept.{laid-of, accepted-of}
use Rattle.access.proofs.Using.{counts, tree_of, refused-file}
use Rattle.expansion.proofs.ExpandAnswers.{room-refused, room-found}
use Rattle.expansion.proofs.Files.{writable}
use Rattle.runner.proofs.Runs.{file_is, file_moved}
use Rattle.searcher.proofs.VerdictAnswers.{no-file, no-rule, few_words, failed-start, was-judged, start_fits, written-words}
use Rattle.searcher.proofs.Judges.{rule-here}
use Rattle.searcher.proofs.verdicts.judge.Goals as goal

pub returns-in_err-accepted : goal.returns-in_err-accepted
returns-in_err-accepted c =
    let p = err_from_is_err_and c.from_residual.result c.from_residual.ensures.1 in
    rw (p.1, p.2) (no-file c.args.file.now c.args.words.now c.args.i (refused-file _ _ c.in_err-accepted.ensures))

pub returns-then-accepted-i : goal.returns-then-accepted-i
returns-then-accepted-i c =
    let x = c.in_ok-accepted.accepted in
    rw c.placeless.ensures
    (no-rule (file_moved x c.in_ok-accepted.ensures.0) c.args.words.now c.args.i
    (omega (arith, c.if-accepted-i.true, (counts (laid-of x.parsed.laid) (tree_of (file_is x))).2)))

completed : {o s : Outcome} {b : Bool} → b ≡ is_completed o.answer → o ≡ s → (v : Bool) → b ≡ v → is_completed s.answer ≡ v
completed e o v h = ap (λ (o : Outcome). is_completed o.answer) (sym o) ∙ sym e ∙ h

pub returns-in_err-check_room : goal.returns-in_err-check_room
returns-in_err-check_room c =
    let p = err_from_is_err_and c.from_residual-in_err-check_room.result c.from_residual-in_err-check_room.ensures.1 in
    let a = file_is c.in_ok-accepted.accepted in
    let b = file_moved c.in_ok-accepted.accepted c.in_ok-accepted.ensures.0 in
    let x = rule-here (laid-of c.in_ok-accepted.accepted.parsed.laid) a c.args.i (omega (arith, c.if-accepted-i.false)) in
    let t = room-refused _ (sym c.in_err-check_room.was ∙ c.check_room.ensures.is a) in
    rw (p.1, p.2, t.1) (few_words b c.args.words.now c.args.i x.0 x.1 t.0)

pub start_accepted-started-requires : goal.start_accepted-started-requires
start_accepted-started-requires c = file_is c.in_ok-accepted.accepted

pub returns-then-not-is_completed : goal.returns-then-not-is_completed
returns-then-not-is_completed c =
    let a = file_is c.in_ok-accepted.accepted in
    let b = file_moved c.in_ok-accepted.accepted c.in_ok-accepted.ensures.0 in
    let x = rule-here (laid-of c.in_ok-accepted.accepted.parsed.laid) a c.args.i (omega (arith, c.if-accepted-i.false)) in
    rw c.placeless-then-not-is_completed.ensures
    (failed-start b c.args.words.now c.args.i x.0 x.1 (room-found _ (sym c.in_ok-check_room.was ∙ c.check_room.ensures.is a))
    (completed c.is_completed.ensures (c.start_accepted-started.ensures a) _ c.if-not-is_completed.true))

pub write_expansion-requires : goal.write_expansion-requires
write_expansion-requires c = writable (accepted-of c.in_ok-accepted.accepted.accepted) c.in_ok-check_room.ensures.room

pub judge_written-requires : goal.judge_written-requires
judge_written-requires c =
    let a = file_is c.in_ok-accepted.accepted in (
      record { tree = a.tree; is = a.is; begins = written-words a c.args.words.now (c.write_expansion.ensures a) },
      omega (arith, c.if-accepted-i.false),
      λ a. start_fits a (c.start_accepted-started.ensures a) (sym c.is_completed.ensures ∙ c.if-not-is_completed.false),
    )

pub returns : goal.returns
returns c =
    let a = file_is c.in_ok-accepted.accepted in
    let b = file_moved c.in_ok-accepted.accepted c.in_ok-accepted.ensures.0 in
    let x = rule-here (laid-of c.in_ok-accepted.accepted.parsed.laid) a c.args.i (omega (arith, c.if-accepted-i.false)) in
    let o = c.start_accepted-started.ensures a in
    let done = completed c.is_completed.ensures o true c.if-not-is_completed.false in
    rw (c.judge_written.ensures a x.0 x.1 (ap (λ (o : Outcome). o.state) o), c.write_expansion.ensures a)
    (was-judged b c.args.words.now c.args.i x.0 x.1 (room-found _ (sym c.in_ok-check_room.was ∙ c.check_room.ensures.is a)) done)

-- `call_lent` meets its contract: the file, the tests 9, 11 and 12, and then the call on the steps.
use mathlib.Core.Path.{refl, sym, ◌∙◌}
use Rattle.std.proofs.lemmas.Result.{err_from_is_err_and}
use Rattle.machine.proofs.Calls.{test-passed}
use Rattle.access.proofs.Kept.{accepted-of, steps-are, accepted-moved}
use Rattle.access.proofs.Using.{refused-file, tree_of}
use Rattle.runner.proofs.Runs.{file_is, file_moved}
use Rattle.runner.proofs.Lent.{file-of, beginning, file-call, lent-sender, lent-words, call-lent, tabled}
use Rattle.runner.proofs.expanded.call_lent.Goals as goal

pub returns-in_err-accepted : goal.returns-in_err-accepted
returns-in_err-accepted c =
    let p = err_from_is_err_and c.from_residual.result c.from_residual.ensures.1 in
    rw (p.1, p.2) (file-call _ _ c.args.s.now c.args.k.now (refused-file _ _ c.in_err-accepted.ensures))

pub returns-in_err-check_sender : goal.returns-in_err-check_sender
returns-in_err-check_sender c =
    let p = err_from_is_err_and c.from_residual-in_err-check_sender.result c.from_residual-in_err-check_sender.ensures.1 in
    let a = file_is c.in_ok-accepted.accepted in
    rw (p.1, p.2)
    (lent-sender _ _ (file_moved c.in_ok-accepted.accepted c.in_ok-accepted.ensures.0) c.args.s.now c.args.k.now (c.fields-fields.ensures (tree_of a))
    (sym c.in_err-check_sender.was ∙ c.check_sender.ensures))

pub returns-in_err-check_words : goal.returns-in_err-check_words
returns-in_err-check_words c =
    let p = err_from_is_err_and c.from_residual-in_err-check_words.result c.from_residual-in_err-check_words.ensures.1 in
    let a = file_is c.in_ok-accepted.accepted in
    rw (p.1, p.2)
    (lent-words _ _ (file_moved c.in_ok-accepted.accepted c.in_ok-accepted.ensures.0) c.args.s.now c.args.k.now (c.fields-fields.ensures (tree_of a))
    (test-passed 9 (sym c.in_ok-check_sender.was ∙ c.check_sender.ensures)) (sym c.in_err-check_words.was ∙ c.check_words.ensures.is a))

pub write_nodes-requires : goal.write_nodes-requires
write_nodes-requires c =
    let h = accepted-of c.in_ok-accepted.accepted.accepted in
    (tabled (beginning h.0 (sym c.in_ok-check_words.was ∙ c.check_words.ensures.is h.0)) h.1, refl)

pub write_entries-requires : goal.write_entries-requires
write_entries-requires c =
    let h = accepted-of c.in_ok-accepted.accepted.accepted in
    (tabled (beginning h.0 (sym c.in_ok-check_words.was ∙ c.check_words.ensures.is h.0)) h.1, c.new-entries.ensures)

pub invariant_of-steps : goal.invariant_of-steps
invariant_of-steps c =
    let h = accepted-of c.in_ok-accepted.accepted.accepted in
    let b = file_moved c.in_ok-accepted.accepted c.in_ok-accepted.ensures.0 in
    let e = beginning b (sym c.in_ok-check_words.was ∙ c.check_words.ensures.is h.0) in
    record { walkable = ∣ record { expanded = e; indexed = c.write_nodes.ensures _ e h.1 } ∣₁ }

pub invariant_of-p : goal.invariant_of-p
invariant_of-p c =
    let h = accepted-of c.in_ok-accepted.accepted.accepted in
    record {
      are_fields = λ a. c.fields-fields.ensures (tree_of (accepted-moved c.in_ok-accepted.ensures.0 (file-of a)));
      entered = λ a. c.write_entries.ensures _ a (steps-are h (accepted-moved c.in_ok-accepted.ensures.0 (file-of a)));
    }

pub returns : goal.returns
returns c =
    let h = accepted-of c.in_ok-accepted.accepted.accepted in
    let b = file_moved c.in_ok-accepted.accepted c.in_ok-accepted.ensures.0 in
    let e = beginning b (sym c.in_ok-check_words.was ∙ c.check_words.ensures.is h.0) in
    c.call_prepared.ensures e ∙ call-lent _ _ b e.begins c.args.s.now c.args.k.now

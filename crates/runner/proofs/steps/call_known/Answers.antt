-- `call_known` meets its contract, by the tests 9 and 21; that the record fits answers the test 20.
use mathlib.Core.Path.{sym, ◌∙◌}
use mathlib.Core.List.{[]}
use native.Mathlib.Omega.{arith}
use borrow.Author.Tests.{leb-false}
use Rattle.std.proofs.lemmas.Result.{err_from_is_err_and}
use Rattle.rules.specs.Calling.{refused_call}
use Rattle.machine.proofs.Calls.{test-passed, sender-refused, coins-refused}
use Rattle.walker.proofs.Walks.{fields-of}
use Rattle.runner.proofs.Runs.{accounts-few}
use Rattle.runner.proofs.Lent.{file-of, call-walkable, steps-call}
use Rattle.runner.proofs.steps.call_known.Goals as goal

pub returns-in_err-check_sender : goal.returns-in_err-check_sender
unfolding refused_call
returns-in_err-check_sender c =
    let p = err_from_is_err_and c.from_residual.result c.from_residual.ensures.1 in
    λ a. rw (p.1, p.2)
    (sender-refused _ c.args.s.now c.args.k.now _ _ [] (sym c.in_err-check_sender.was ∙ c.check_sender.ensures)
    ∙ steps-call _ a.tree (fields-of (call-walkable c.args.p.now) a) c.args.s.now c.args.k.now)

pub check_coins-requires : goal.check_coins-requires
check_coins-requires c =
    let w = call-walkable c.args.p.now in
    let account = test-passed 9 (sym c.in_ok-check_sender.was ∙ c.check_sender.ensures) in
    omega (arith, leb-false _ c.args.k.now.sender account, accounts-few (file-of w.expanded) w.counts)

pub returns-in_err-check_coins : goal.returns-in_err-check_coins
unfolding refused_call
returns-in_err-check_coins c =
    let p = err_from_is_err_and c.from_residual-in_err-check_coins.result c.from_residual-in_err-check_coins.ensures.1 in
    λ a. rw (p.1, p.2)
    (coins-refused _ c.args.s.now c.args.k.now _ _ (test-passed 9 (sym c.in_ok-check_sender.was ∙ c.check_sender.ensures)) c.requires.fits
    (sym c.in_err-check_coins.was ∙ c.check_coins.ensures)
    ∙ steps-call _ a.tree (fields-of (call-walkable c.args.p.now) a) c.args.s.now c.args.k.now)

pub call_passed-requires : goal.call_passed-requires
call_passed-requires c =
    record {
      account = test-passed 9 (sym c.in_ok-check_sender.was ∙ c.check_sender.ensures);
      fits = c.requires.fits;
      paid = test-passed 21 (sym c.in_ok-check_coins.was ∙ c.check_coins.ensures);
    }

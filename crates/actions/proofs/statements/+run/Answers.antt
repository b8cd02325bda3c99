-- The functions of a statement: what each hands on to its parts, and what the whole does.
use Rattle.std.proofs.Common.{arith, refl, sym, ◌∙◌}
use Rattle.grammar.proofs.Bytes.{part-all}
use Rattle.records.proofs.Parts.{from-length}
use Rattle.records.proofs.KindLaws.{done, ◌&◌, Others, others, other-number, part_kinds}
use Rattle.records.proofs.GoodBlocks.{moved, turn}
use Rattle.machine.proofs.Runs.{ran_err}
use Rattle.machine.proofs.Keeping.{still-funded, kept_same}
use Rattle.actions.proofs.Fields.{long_is, kind_is}
use Rattle.actions.proofs.StatementParts.{ifs, elses, whiles, fors, one_step}
use Rattle.actions.proofs.Runs.{performed_kept, ran_kept, tested_kept, turn_kept, turn_less, closed_kept, closed_less}
use Rattle.actions.proofs.Blocks.{left, rest_good, rest_over, turn_rest, turn_stops}
use Rattle.actions.proofs.Branches.{block_runs, step_runs, if_stops, if_holds, if_not, else_stops, else_holds, else_not}
use Rattle.actions.proofs.Turns.{while-turns, for-turns, loop_ends, test_stops, body_stops, turn_goes, both_stop, both_go, while_ends, while_test_stops, while_body_stops, for_stops, for_goes}
use Rattle.actions.proofs.statements.+run.Goals as goal
use Rattle.actions.proofs.statements.+run.Goals.{run_statement-in_default-via-in-Ok+in_default, run_statement-in_default-via-in_default}

-- `run_statement`

pub run_statement-returns-in-Ok-Block : goal.run_statement-returns-in-Ok-Block
run_statement-returns-in-Ok-Block t c = block_runs _ _ _ c.u16_at-end.ensures.0 (kind_is _ c.u16_at.ensures.0 (grind arith)) c.run_block.ensures

pub run_statement-perform-requires : goal.run_statement-perform-requires
run_statement-perform-requires t c =
    let h : Others c.u16_at.result part_kinds = elim c.in_default.branch [
      | run_statement-in_default-via-in-Ok+in_default w ↦ others (search (arith, ◌&◌, done))
      | run_statement-in_default-via-in_default w ↦ other-number (rw w.in_default.is at c.try_from.ensures) part_kinds
    ] in
    ((one_step c.requires.0 c.u16_at.ensures.0 h).step, c.requires.1)

pub run_statement-returns-in_default : goal.run_statement-returns-in_default
run_statement-returns-in_default t c =
    let h : Others c.u16_at.result part_kinds = elim c.in_default.branch [
      | run_statement-in_default-via-in-Ok+in_default w ↦ others (search (arith, ◌&◌, done))
      | run_statement-in_default-via-in_default w ↦ other-number (rw w.in_default.is at c.try_from.ensures) part_kinds
    ] in
    λ a. step_runs _ _ _ a (one_step a c.u16_at.ensures.0 h) c.perform.ensures

-- `run_if`

pub run_if-returns-in_err-test : goal.run_if-returns-in_err-test
run_if-returns-in_err-test t c =
    if_stops _ _ _ c.u16_at-end.ensures.0 c.u16_at.ensures.0 c.requires.1 _ c.in_err-test.ensures _ c.from_residual.ensures.1

pub run_if-run_statement-requires : goal.run_if-run_statement-requires
run_if-run_statement-requires t c = (
  grind (arith, ifs),
  (grind (arith, ifs), still-funded (tested_kept _ (kept_same _ _) c.requires.2 c.in_ok-test.ensures (grind (arith, ifs))) c.requires.2),
)

pub run_if-returns-then-branch : goal.run_if-returns-then-branch
run_if-returns-then-branch t c =
    if_holds _ _ _ c.u16_at-end.ensures.0 c.u16_at.ensures.0 c.requires.1 c.if-branch.true c.in_ok-test.ensures c.run_statement.ensures

pub run_if-returns-else-branch : goal.run_if-returns-else-branch
run_if-returns-else-branch t c =
    if_not _ _ _ c.u16_at-end.ensures.0 c.u16_at.ensures.0 c.requires.1 c.if-branch.false c.in_ok-test.ensures

-- `run_if_else`

pub run_if_else-returns-in_err-test : goal.run_if_else-returns-in_err-test
run_if_else-returns-in_err-test t c =
    else_stops _ _ _ c.u16_at-end.ensures.0 c.u16_at-yes.ensures.0 c.u16_at.ensures.0 c.requires.1 _ c.in_err-test.ensures _ c.from_residual.ensures.1

pub run_if_else-run_statement-requires : goal.run_if_else-run_statement-requires
run_if_else-run_statement-requires t c = (
  grind (arith, elses),
  (grind (arith, elses), still-funded (tested_kept _ (kept_same _ _) c.requires.2 c.in_ok-test.ensures (grind (arith, elses))) c.requires.2),
)

pub run_if_else-run_statement-requires-else-branch : goal.run_if_else-run_statement-requires-else-branch
run_if_else-run_statement-requires-else-branch t c = (
  grind (arith, elses),
  (grind (arith, elses), still-funded (tested_kept _ (kept_same _ _) c.requires.2 c.in_ok-test.ensures (grind (arith, elses))) c.requires.2),
)

pub run_if_else-returns-then-branch : goal.run_if_else-returns-then-branch
run_if_else-returns-then-branch t c =
    else_holds _ _ _ c.u16_at-end.ensures.0 c.u16_at-yes.ensures.0 c.u16_at.ensures.0 c.requires.1 c.if-branch.true c.in_ok-test.ensures c.run_statement.ensures

pub run_if_else-returns-else-branch : goal.run_if_else-returns-else-branch
run_if_else-returns-else-branch t c =
    else_not _ _ _ c.u16_at-end.ensures.0 c.u16_at-yes.ensures.0 c.u16_at.ensures.0 c.requires.1 c.if-branch.false c.in_ok-test.ensures
    c.run_statement-else-branch.ensures

-- `run_for`

pub run_for-returns-in_err-perform : goal.run_for-returns-in_err-perform
run_for-returns-in_err-perform t c =
    for_stops _ _ _ c.u16_at-end.ensures.0 c.u16_at-condition.ensures.0 c.u16_at.ensures.0 c.u16_at-2.ensures.0 c.requires.1 _
    c.in_err-perform.ensures _ c.from_residual.ensures.1

pub run_for-run_turns-requires : goal.run_for-run_turns-requires
run_for-run_turns-requires t c = (
  grind (arith, fors),
  (
    grind (arith, fors),
    grind (arith, fors),
    grind (arith, fors),
    still-funded (performed_kept _ (kept_same _ _) c.requires.2 c.in_ok-perform.ensures (grind (arith, fors))) c.requires.2,
  ),
)

pub run_for-returns : goal.run_for-returns
run_for-returns t c =
    for_goes _ _ _ c.u16_at-end.ensures.0 c.u16_at-condition.ensures.0 c.u16_at.ensures.0 c.u16_at-2.ensures.0 c.requires.1
    c.in_ok-perform.ensures c.run_turns.ensures

-- `run_block`

pub run_block-loop-i-init : goal.run_block-loop-i-init
run_block-loop-i-init t c = (kept_same _ _, λ a. left (moved (sym (part-all 0 _)) a) refl)

pub run_block-run_statement-requires : goal.run_block-run_statement-requires
run_block-run_statement-requires t c =
    let b = (rest_good c.loop-i-test.true (c.loop-i.invariant.1 c.requires.0)).0 in
    let p = turn c.loop-i.i _ c.args.s.now refl b in
    (omega (arith, from-length c.loop-i.i c.args.s.now), (p.first, still-funded c.loop-i.invariant.0 c.requires.1))

pub run_block-returns-in_err-run_statement : goal.run_block-returns-in_err-run_statement
run_block-returns-in_err-run_statement t c = λ a.
    let q = rest_good c.loop-i-test.true (c.loop-i.invariant.1 a) in
    ran_err _ _ _ c.from_residual.ensures.1 ∙ turn_stops _ c.args.s.now c.loop-i.i c.loop-i.m _ q.0 _ c.in_err-run_statement.ensures ∙ sym q.1

pub run_block-u16_at-i-requires : goal.run_block-u16_at-i-requires
run_block-u16_at-i-requires t c =
    let b = (rest_good c.loop-i-test.true (c.loop-i.invariant.1 c.requires.0)).0 in
    let p = turn c.loop-i.i _ c.args.s.now refl b in
    omega (arith, from-length c.loop-i.i c.args.s.now, p.low, p.fits)

pub run_block-loop-i-smaller : goal.run_block-loop-i-smaller
run_block-loop-i-smaller t c =
    let b = (rest_good c.loop-i-test.true (c.loop-i.invariant.1 c.requires.0)).0 in
    let p = turn c.loop-i.i _ c.args.s.now (long_is _ c.u16_at-i.ensures.0) b in
    omega (arith, p.low, p.fits)

pub run_block-loop-i-preserved : goal.run_block-loop-i-preserved
run_block-loop-i-preserved t c =
    let l = c.loop-i.invariant in
    let b = (rest_good c.loop-i-test.true (l.1 c.requires.0)).0 in
    let p = turn c.loop-i.i _ c.args.s.now refl b in (
      ran_kept _ l.0 c.requires.1 c.in_ok-run_statement.ensures p.first,
      λ a.
          let q = rest_good c.loop-i-test.true (l.1 a) in
          rw q.1 (turn_rest _ c.args.s.now c.loop-i.i c.loop-i.m _ q.0 c.u16_at-i.ensures.0 c.in_ok-run_statement.ensures),
    )

pub run_block-returns : goal.run_block-returns
run_block-returns t c = λ a. sym (rest_over c.loop-i-test.false (c.loop-i.invariant.1 a))

-- `run_while`

pub run_while-returns-in_err-test : goal.run_while-returns-in_err-test
run_while-returns-in_err-test t c =
    while_test_stops _ _ _ _ c.u16_at-end.ensures.0 c.u16_at.ensures.0 c.requires.1 c.loop-m.invariant.1 _ c.in_err-test.ensures _ c.from_residual.ensures.1

pub run_while-run_statement-requires : goal.run_while-run_statement-requires
run_while-run_statement-requires t c = (
  grind (arith, whiles),
  (grind (arith, whiles), still-funded (tested_kept _ c.loop-m.invariant.0 c.requires.2 c.in_ok-test.ensures (grind (arith, whiles))) c.requires.2),
)

pub run_while-loop-m-smaller : goal.run_while-loop-m-smaller
run_while-loop-m-smaller t c =
    turn_less _ c.loop-m.invariant.0 c.requires.2 c.in_ok-test.ensures (grind (arith, whiles)) c.in_ok-run_statement.ensures (grind (arith, whiles))

pub run_while-loop-m-preserved : goal.run_while-loop-m-preserved
run_while-loop-m-preserved t c = (
  turn_kept _ c.loop-m.invariant.0 c.requires.2 c.in_ok-test.ensures (grind (arith, whiles)) c.in_ok-run_statement.ensures (grind (arith, whiles)),
  λ a b. c.loop-m.invariant.1 a b
      ∙ turn_goes _ a.tree _ (while-turns _ a.tree b.tree) _ _ _ c.if-branch.true (c.in_ok-test.ensures a) (c.in_ok-run_statement.ensures b),
)

pub run_while-returns-in_err-run_statement : goal.run_while-returns-in_err-run_statement
run_while-returns-in_err-run_statement t c =
    while_body_stops _ _ _ _ c.u16_at-end.ensures.0 c.u16_at.ensures.0 c.requires.1 c.loop-m.invariant.1 _ _ c.if-branch.true c.in_ok-test.ensures
    c.in_err-run_statement.ensures _ c.from_residual-in_err-run_statement.ensures.1

pub run_while-returns : goal.run_while-returns
run_while-returns t c =
    while_ends _ _ _ _ c.u16_at-end.ensures.0 c.u16_at.ensures.0 c.requires.1 c.loop-m.invariant.1 c.if-branch.false c.in_ok-test.ensures

-- `run_turns`

pub run_turns-returns-in_err-test : goal.run_turns-returns-in_err-test
run_turns-returns-in_err-test t c = λ a k b.
    ran_err _ _ _ c.from_residual.ensures.1
    ∙ test_stops _ a.tree _ (for-turns _ a.tree b.tree k.tree) _ _ _ (c.in_err-test.ensures a) ∙ sym (c.loop-m.invariant.1 a k b)

pub run_turns-run_statement-requires : goal.run_turns-run_statement-requires
run_turns-run_statement-requires t c = (
  omega arith,
  (c.requires.2, still-funded (tested_kept _ c.loop-m.invariant.0 c.requires.3 c.in_ok-test.ensures c.requires.0) c.requires.3),
)

pub run_turns-returns-in_err-run_statement : goal.run_turns-returns-in_err-run_statement
run_turns-returns-in_err-run_statement t c = λ a k b.
    ran_err _ _ _ c.from_residual-in_err-run_statement.ensures.1
    ∙ body_stops _ a.tree _ (for-turns _ a.tree b.tree k.tree) _ _ _ _ c.if-branch.true (c.in_ok-test.ensures a)
    (both_stop _ b.tree k.tree _ _ _ (c.in_err-run_statement.ensures b))
    ∙ sym (c.loop-m.invariant.1 a k b)

pub run_turns-perform-requires : goal.run_turns-perform-requires
run_turns-perform-requires t c = (
  c.requires.1,
  still-funded
      (turn_kept _ c.loop-m.invariant.0 c.requires.3 c.in_ok-test.ensures c.requires.0 c.in_ok-run_statement.ensures c.requires.2)
      c.requires.3,
)

pub run_turns-loop-m-smaller : goal.run_turns-loop-m-smaller
run_turns-loop-m-smaller t c =
    closed_less _ c.loop-m.invariant.0 c.requires.3 c.in_ok-test.ensures c.requires.0 c.in_ok-run_statement.ensures c.requires.2 c.in_ok-perform.ensures c.requires.1

pub run_turns-loop-m-preserved : goal.run_turns-loop-m-preserved
run_turns-loop-m-preserved t c = (
  closed_kept _ c.loop-m.invariant.0 c.requires.3 c.in_ok-test.ensures c.requires.0 c.in_ok-run_statement.ensures c.requires.2 c.in_ok-perform.ensures c.requires.1,
  λ a k b. c.loop-m.invariant.1 a k b
      ∙ turn_goes _ a.tree _ (for-turns _ a.tree b.tree k.tree) _ _ _ c.if-branch.true (c.in_ok-test.ensures a)
      (both_go _ b.tree k.tree _ _ (c.in_ok-run_statement.ensures b) (c.in_ok-perform.ensures k)),
)

pub run_turns-returns-in_err-perform : goal.run_turns-returns-in_err-perform
run_turns-returns-in_err-perform t c = λ a k b.
    ran_err _ _ _ c.from_residual-in_err-perform.ensures.1
    ∙ body_stops _ a.tree _ (for-turns _ a.tree b.tree k.tree) _ _ _ _ c.if-branch.true (c.in_ok-test.ensures a)
    (both_go _ b.tree k.tree _ _ (c.in_ok-run_statement.ensures b) (c.in_err-perform.ensures k))
    ∙ sym (c.loop-m.invariant.1 a k b)

pub run_turns-returns : goal.run_turns-returns
run_turns-returns t c = λ a k b.
    loop_ends _ a.tree _ (for-turns _ a.tree b.tree k.tree) _ _ c.if-branch.false (c.in_ok-test.ensures a) ∙ sym (c.loop-m.invariant.1 a k b)

-- The measures: the number of bytes, and of a loop the bytes that are left or the units that are left.
use Rattle.std.proofs.Common.{◌≡◌, ◌+◌, ◌-◌, ◌*◌, length}
use Rattle.rules.specs.Running.{◌>>◌, perform, condition, repeat, statement, statements}
use Rattle.records.specs.Acceptance.{Accepted, GoodSimple, Good, GoodAll}
use Rattle.machine.proofs.Keeping.{Kept}
use Rattle.actions.proofs.Blocks.{Rest}
use Rattle.actions.proofs.statements.+run.Given as goal

abbrev pub decreases-run_statement : goal.decreases-run_statement
decreases-run_statement l = 2 * length l.s.now + 1

abbrev pub decreases-run_block : goal.decreases-run_block
decreases-run_block l = 2 * length l.s.now + 2

abbrev pub decreases-run_if : goal.decreases-run_if
decreases-run_if l = 2 * length l.s.now

abbrev pub decreases-run_if_else : goal.decreases-run_if_else
decreases-run_if_else l = 2 * length l.s.now

abbrev pub decreases-run_while : goal.decreases-run_while
decreases-run_while l = 2 * length l.s.now

abbrev pub decreases-run_for : goal.decreases-run_for
decreases-run_for l = 2 * length l.s.now

abbrev pub decreases-run_turns : goal.decreases-run_turns
decreases-run_turns l = 2 * length l.body.now + 2

abbrev pub invariant-run_block-loop-i : goal.invariant-run_block-loop-i
invariant-run_block-loop-i l =
    Kept l.setting.limit l.initial.m l.m
    × ((a : GoodAll l.s) → Rest l.setting l.s l.i l.m (statements l.setting a.tree l.initial.m))

abbrev pub decreases-run_block-loop-i : goal.decreases-run_block-loop-i
decreases-run_block-loop-i l = length l.s - l.i

abbrev pub invariant-run_while-loop-m : goal.invariant-run_while-loop-m
invariant-run_while-loop-m l =
    Kept l.setting.limit l.initial.m l.m
    × ((a : Accepted l.condition) (b : Good l.body)
    → repeat l.setting (condition l.setting a.tree) (statement l.setting b.tree) l.initial.m
    ≡ repeat l.setting (condition l.setting a.tree) (statement l.setting b.tree) l.m)

-- a turn charges a unit
abbrev pub decreases-run_while-loop-m : goal.decreases-run_while-loop-m
decreases-run_while-loop-m l = l.setting.limit - l.m.units

abbrev pub invariant-run_turns-loop-m : goal.invariant-run_turns-loop-m
invariant-run_turns-loop-m l =
    Kept l.setting.limit l.initial.m l.m
    × ((a : Accepted l.condition) (k : GoodSimple l.closing) (b : Good l.body)
    → repeat l.setting (condition l.setting a.tree) (statement l.setting b.tree >> perform l.setting k.tree) l.initial.m
    ≡ repeat l.setting (condition l.setting a.tree) (statement l.setting b.tree >> perform l.setting k.tree) l.m)

-- a turn charges a unit
abbrev pub decreases-run_turns-loop-m : goal.decreases-run_turns-loop-m
decreases-run_turns-loop-m l = l.setting.limit - l.m.units

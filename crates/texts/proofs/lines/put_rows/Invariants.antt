use Rattle.std.proofs.Common.{◌≡◌, ◌+◌, ◌*◌, ◌≤◌, ◌++◌, length}
use lib.ListN.{take}
use Rattle.rules.specs.Basics.{joined}
use Rattle.rules.specs.Reporting.{spaced}
use Rattle.texts.proofs.lines.put_rows.Given as goal

-- the first rows have been put
abbrev pub invariant-loop-row : goal.invariant-loop-row
invariant-loop-row l =
    (l.page ≡ l.initial.page ++ joined spaced (take l.row-index l.rows))
    × (length l.page ≤ length l.initial.page + 11 * l.row-index)
    × (l.row-index ≤ length l.rows)

use Rattle.std.proofs.Common.{◌≡◌, ◌+◌, ◌*◌, ◌≤◌, ◌++◌, length}
use Rattle.rules.specs.Basics.{each}
use Rattle.texts.proofs.Texts.{line}
use Rattle.texts.proofs.put_rules.Given as goal

-- the lines of the first rules have been put
abbrev pub invariant-loop-i : goal.invariant-loop-i
invariant-loop-i l =
    (l.page ≡ l.initial.page ++ each (line l.fn.accepted.parsed.file.now) 0 l.i) × (length l.page ≤ length l.initial.page + 122 * l.i)

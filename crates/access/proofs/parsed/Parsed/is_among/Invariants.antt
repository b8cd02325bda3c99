use mathlib.Core.Path.{◌≡◌}
use lib.ListN.{take}
use Rattle.rules.specs.Basics.{any}
use mathlib.Core.Bool.{false}
use Rattle.access.specs.Trees.{TreeRead}
use Rattle.access.specs.Places.{past}
use Rattle.access.specs.FoundAnswers.{same}
use Rattle.access.proofs.parsed.Parsed.is_among.Given as goal

abbrev pub invariant-loop : goal.invariant-loop
invariant-loop l =
    (l.at ≡ past l.file l.initial.at l.counter) × ((a : TreeRead l.file) → any (same l.name l.from) (take l.counter a.tree.transitions) ≡ false)

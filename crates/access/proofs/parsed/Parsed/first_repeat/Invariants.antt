use mathlib.Core.Path.{◌≡◌}
use Rattle.access.specs.Trees.{TreeRead}
use Rattle.access.specs.Places.{past}
use Rattle.access.proofs.Finding.{Passed}
use Rattle.access.proofs.parsed.Parsed.first_repeat.Given as goal

abbrev pub invariant-loop-i : goal.invariant-loop-i
invariant-loop-i l = (l.at ≡ past l.file l.initial.at l.i) × ((a : TreeRead l.file) → Passed a.tree.transitions l.i)

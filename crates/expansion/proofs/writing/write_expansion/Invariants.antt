-- The actions and the first i transitions have been written.
use mathlib.Core.Path.{◌≡◌}
use Rattle.access.specs.Trees.{AcceptedFile}
use Rattle.access.specs.Places.{past}
use Rattle.expansion.proofs.Transitions.{Reached}
use Rattle.expansion.proofs.writing.write_expansion.Given as goal

abbrev pub invariant-loop : goal.invariant-loop
invariant-loop l =
    (l.at ≡ past l.file l.initial.at l.counter)
    × ((a : AcceptedFile l.file) → Reached a.tree.transitions l.counter l.initial.next l.initial.words l.words l.next)

use mathlib.Core.Path.{◌≡◌}
use Rattle.access.specs.Places.{past}
use Rattle.access.proofs.places.nth.Given as goal

abbrev pub invariant-loop : goal.invariant-loop
invariant-loop l = (l.to ≡ past l.file l.at l.counter)

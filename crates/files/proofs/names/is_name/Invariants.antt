use Prim.Native.Nat.{◌-◌, ◌≤◌}
use mathlib.Core.Path.{◌≡◌}
use lib.Dec.{eqb}
use Rattle.rules.specs.Basics.{any}
use Rattle.files.specs.Members.{names_in}
use Rattle.files.proofs.names.is_name.Given as goal

abbrev pub invariant-loop : goal.invariant-loop
invariant-loop l = (l.counter ≤ 64) × (any (eqb l.name) (names_in 64 l.s) ≡ any (eqb l.name) (names_in (64 - l.counter) l.rest))

abbrev pub decreases-loop : goal.decreases-loop
decreases-loop l = 64 - l.counter

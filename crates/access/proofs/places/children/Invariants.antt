use Prim.Native.Nat.{◌-◌, ◌≤◌}
use mathlib.Core.Path.{◌≡◌}
use lib.ListN.{length}
use Rattle.records.specs.Kinds.{number_of}
use Rattle.access.specs.Places.{past, Children}
use Rattle.access.proofs.places.children.Given as goal

abbrev pub invariant-loop-kind : goal.invariant-loop-kind
invariant-loop-kind l =
    (l.end ≡ past l.file l.at l.count) × (l.end ≤ length l.file) × (l.count ≤ l.end) × ((g : Children (number_of l.kind) l.file l.at) → l.count ≤ g.count)

abbrev pub decreases-loop-kind : goal.decreases-loop-kind
decreases-loop-kind l = length l.file - l.end

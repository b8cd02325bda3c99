-- The ruling on all the lists is that on those that are left.
use Prim.Native.Nat.{suc, ◌-◌}
use mathlib.Core.Path.{◌≡◌}
use mathlib.Core.List.{[]}
use lib.ListN.{length}
use Rattle.rules.specs.Basics.{each}
use Rattle.rules.specs.Lists.{lists_of, lists_to}
use Rattle.rules.specs.Judging.{ruled_on}
use Rattle.searcher.specs.Plans.{PlannedBy, breaks_in, Sound}
use Rattle.searcher.proofs.Rulings.{onward}
use Rattle.searcher.proofs.plan.Search.by_length.Given as goal

abbrev pub invariant-loop-length : goal.invariant-loop-length
invariant-loop-length l =
    let count = length l.self.rows.now in
    Sound l.self l.cache
    × ((g : PlannedBy l.self) →
    let p = breaks_in g l.fresh in
    ruled_on l.self.bound p (lists_to count l.depth) ≡ onward l.self.bound p [] l.n (each (lists_of count) l.length (suc l.depth - l.length)))

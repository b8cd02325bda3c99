-- The rows in turn: the ruling on all the lists is that on those that are left. A turn goes on with a row, a row with what is left.
use Prim.Native.Nat.{◌-◌, ◌*◌}
use mathlib.Core.Path.{◌≡◌}
use lib.ListN.{length, replicate}
use Rattle.rules.specs.Basics.{each}
use Rattle.rules.specs.Lists.{lists_of}
use Rattle.searcher.specs.Plans.{PlannedBy, breaks_in, Sound}
use Rattle.searcher.proofs.Rulings.{behind, onward}
use Rattle.searcher.proofs.plan.Search.+extend.Given as goal

abbrev pub invariant-extend_each-loop-row : goal.invariant-extend_each-loop-row
invariant-extend_each-loop-row l =
    let count = length l.self.rows.now in
    Sound l.self l.cache
    × ((g : PlannedBy l.self) →
    let p = breaks_in g l.key.position in
    onward l.self.bound p (replicate l.at 0) l.tried (lists_of count l.key.left)
    ≡ onward l.self.bound p (replicate l.at 0) l.n (each (behind count (l.key.left - 1)) l.row (count - l.row)))

abbrev pub decreases-extend : goal.decreases-extend
decreases-extend l = 3 * l.key.now.left

abbrev pub decreases-extend_by : goal.decreases-extend_by
decreases-extend_by l = 3 * l.key.now.left - 2

abbrev pub decreases-extend_each : goal.decreases-extend_each
decreases-extend_each l = 3 * l.key.now.left - 1

use Prim.Native.Nat.{◌-◌, ◌<◌, ◌≤◌}
use lib.ListN.{length}
use Rattle.records.specs.Acceptance.{GoodAll}
use Rattle.emitter.proofs.Blocks.{Counted}
use Rattle.emitter.proofs.statements.count_joints.Given as goal

abbrev pub invariant-loop-k : goal.invariant-loop-k
invariant-loop-k l = (l.k ≤ length l.s) × (l.count < l.k) × ((a : GoodAll l.s) → Counted a l.k l.count)

abbrev pub decreases-loop-k : goal.decreases-loop-k
decreases-loop-k l = length l.s - l.k

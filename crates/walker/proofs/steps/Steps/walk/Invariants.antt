-- From the present node and machine the run is what it is from the first.
use Prim.Native.Nat.{◌-◌}
use mathlib.Core.Path.{◌≡◌}
use Rattle.machine.proofs.Keeping.{Kept}
use Rattle.walker.specs.Tables.{Expanded}
use Rattle.walker.specs.Runs.{walk_in}
use Rattle.walker.proofs.steps.Steps.walk.Given as goal

abbrev pub invariant-loop-at : goal.invariant-loop-at
invariant-loop-at l =
    Kept l.setting.limit l.initial.m l.m
    × ((a : Expanded l.self.file.now l.self.words.now) →
    walk_in l.self.file.now a.tree l.setting l.initial.at l.initial.m ≡ walk_in l.self.file.now a.tree l.setting l.at l.m)

-- each step charges a unit
abbrev pub decreases-loop-at : goal.decreases-loop-at
decreases-loop-at l = l.setting.limit - l.m.units

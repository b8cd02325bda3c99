use Prim.Native.Nat.{ℕ, ◌+◌, ◌≤◌}
use mathlib.Core.Path.{◌≡◌}
use mathlib.Core.List.{List}
use lib.ListN.{length}
use Rattle.rules.specs.Basics.{sum}
use Rattle.rules.specs.Reading.{group}
use Rattle.records.specs.Kinds.{number_of}
use Rattle.records.specs.Checking.{outcome, of_part}
use Rattle.files.specs.Members.{member, Reads}
use Rattle.files.proofs.GroupLaws.{Rest}
use Rattle.files.proofs.groups.check_group.Given as goal

abbrev pub invariant-loop-kind : goal.invariant-loop-kind
invariant-loop-kind g l =
    (l.p.at + l.steps ≤ l.rest.at)
    × (l.rest.at + length l.rest.bytes.now ≡ l.p.at + length l.p.bytes.now)
    × ((s v a : ℕ) (names : List ℕ) → Reads (goal.F-post g l.body) (member s v a names (number_of l.kind)) →
    Rest (number_of l.kind) (member s v a names (number_of l.kind)) l.rest.start
    (outcome sum (of_part (group l.most (number_of l.kind) (member s v a names (number_of l.kind))) l.p)) l.rest.at l.rest.bytes.now l.steps l.left)

abbrev pub decreases-loop-kind : goal.decreases-loop-kind
decreases-loop-kind g l = l.left

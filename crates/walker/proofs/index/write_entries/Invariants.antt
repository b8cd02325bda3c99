-- The entries are those of the kind 1 steps before the i-th.
use Prim.Native.Nat.{ℕ, ◌≤◌}
use mathlib.Core.Path.{◌≡◌}
use mathlib.Core.List.{List}
use lib.ListN.{length}
use Rattle.rules.specs.Expanding.{expansion}
use Rattle.walker.specs.Tables.{Expanded}
use Rattle.walker.proofs.Indexes.{EnteredTo}
use Rattle.walker.proofs.index.write_entries.Given as goal

abbrev pub invariant-loop-i : goal.invariant-loop-i
invariant-loop-i l =
    (length l.entries ≤ l.i)
    × ((file : List ℕ) (a : Expanded file l.words) → l.steps ≡ length (expansion a.tree) → EnteredTo l.i (expansion a.tree) l.entries)

-- The steps from the i-th on are in the index.
use Prim.Native.Nat.{ℕ}
use mathlib.Core.Path.{◌≡◌}
use mathlib.Core.List.{List}
use lib.ListN.{length}
use Rattle.rules.specs.Expanding.{expansion}
use Rattle.walker.specs.Tables.{Expanded}
use Rattle.walker.proofs.Indexes.{IndexedFrom}
use Rattle.walker.proofs.index.write_nodes.Given as goal

abbrev pub invariant-loop-i : goal.invariant-loop-i
invariant-loop-i l =
    (length l.nodes ≡ 1091)
    × ((file : List ℕ) (a : Expanded file l.words) → l.steps ≡ length (expansion a.tree) → IndexedFrom l.i (expansion a.tree) l.nodes)

-- What is found is what is found at the entries that are left, by whether a step that was passed has the name.
use Prim.Native.Nat.{ℕ}
use mathlib.Core.Path.{◌≡◌}
use mathlib.Core.Bool.{Bool}
use mathlib.Core.List.{List}
use lib.ListN.{drop}
use Rattle.rules.specs.Expanding.{expansion}
use Rattle.walker.specs.Tables.{Expanded, guard_places}
use Rattle.walker.proofs.Guards.{Left, unfound}
use Rattle.walker.proofs.entries.Entries.find_entry.Given as goal

abbrev pub invariant-loop-place : goal.invariant-loop-place
invariant-loop-place l =
    (file : List ℕ) (a : Expanded file l.words) → l.self ≡ guard_places 0 (expansion a.tree) → (b : Bool) × (l.found ≡ unfound b)
    × Left l.words (expansion a.tree) b l.name l.state (drop l.place-index (guard_places 0 (expansion a.tree)))

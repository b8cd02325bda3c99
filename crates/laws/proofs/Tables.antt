-- How long a table of steps is.
use mathlib.Core.Path.{◌≡◌, refl}
use Prim.Native.Nat.{◌*◌}
use native.Mathlib.Omega.{arith}
use mathlib.Core.List.{List, [], ◌∷◌}
use lib.ListN.{length}
use Rattle.rules.specs.Basics.{joined}
use Rattle.rules.specs.Expanding.{Step, words_of, table}

pub table-length : (l : List Step) → length (table l) ≡ 5 * length l
unfolding table joined words_of
table-length [] = refl
table-length (s ∷ l) = let h = table-length l in omega arith

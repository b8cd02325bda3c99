-- Numbers in a row.
use Rattle.std.specs.Prelude.{ℕ, zero, suc, ◌+◌, List, [], ◌∷◌, take, drop}
use Rattle.rules.specs.Basics.{number}

-- k numbers of 32 bits, one after another from an offset on
unfoldable pub numbers_at : (k at : ℕ) → List ℕ → List ℕ
numbers_at zero at file = []
numbers_at (suc k) at file = number (take 4 (drop at file)) ∷ numbers_at k (at + 4) file

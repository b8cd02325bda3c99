-- Places in an array.
use Rattle.std.specs.Prelude.{ℕ, ◌≤◌, List, ◌≡◌, take, length}
use Rattle.rules.specs.Basics.{padded}

-- the array's first places are so many, and behind them stand zeros
pub record ZerosBehind (count : ℕ) (places : List ℕ) : Type 0 where
  pub fits : count ≤ 1024
  pub counts : length (take count places) ≡ count
  pub zeros : padded 1024 (take count places) ≡ places

-- Operators' numbers and the rules' operators.
use Rattle.std.proofs.Common.{◌≡◌, ℕ, ◌<◌, arith}
use Rattle.std.specs.Prelude.{None}
use Rattle.rules.specs.Basics.{choose}
use Rattle.rules.specs.Values.{apply}

-- what no operator has as its number gives no value
pub unknown_fails : (o x y : ℕ) → 10 < o → None ≡ apply o x y
unfolding apply choose
unknown_fails o x y h = grind arith

-- Words compared with an expansion.
use Prim.Native.Nat.{ℕ, ◌*◌}
use mathlib.Core.Path.{◌≡◌, refl, ap}
use mathlib.Core.Bool.{Bool, ◌&&◌}
use mathlib.Core.List.{List, [], ◌∷◌}
use native.Mathlib.Omega.{arith}
use lib.Dec.{eqb}
use lib.ListN.{length, take, drop}
use lib.Seq.{take_at}
use Rattle.std.proofs.lemmas.Bool.Decides.{nat_tests}
use Rattle.std.specs.List.{starts_with}
use Rattle.rules.specs.Syntax.{Agreement}
use Rattle.rules.specs.Expanding.{expansion, table}
use Rattle.rules.specs.Accepting.{written}
use Rattle.rules.specs.Stepping.{begins_with}
use Rattle.laws.proofs.Tables.{table-length}

-- ---- whether words begin with others

-- equality of numbers, either way round
eqb_comm : (a b : ℕ) → eqb a b ≡ eqb b a
eqb_comm a b = grind (arith, nat_tests)

-- what the library says of it
pub begins-is : (ws front : List ℕ) → starts_with eqb ws front ≡ begins_with ws front
unfolding begins_with
begins-is ws [] = refl
begins-is [] (y ∷ ys) = refl
begins-is (w ∷ ws) (y ∷ ys) = rw (eqb_comm y w) (ap (λ (b : Bool). eqb w y && b) (begins-is ws ys))

-- ---- an expansion that was written

pub written-begins : (a : Agreement) (n : ℕ) (ws : List ℕ) → n ≡ length (expansion a) → take (5 * n) (written a ws) ≡ table (expansion a)
unfolding written
written-begins a n ws e =
    let z : length (table (expansion a)) ≡ 5 * n = omega (arith, table-length (expansion a)) in
    take_at (table (expansion a)) (drop (5 * length (expansion a)) ws) (5 * n) z

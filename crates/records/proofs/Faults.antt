-- The number of a fault that a check answers is at most 8, as no reader of the rules refuses with another.
use Prim.Native.Nat.{ℕ, ◌≤◌}
use mathlib.Core.Path.{◌≡◌}
use mathlib.Core.Bool.{Bool, false}
use native.Mathlib.Omega.{arith}
use Rattle.std.specs.Prelude.{Err}
use Rattle.rules.specs.Reading.{Reading, refused, read, Reader}
use Rattle.grammar.proofs.Small.{Few, Small, small-pure, small-then, small-range, small-field, small-expression, small-loop-set}
use Rattle.records.specs.declared.fault.Fault.{Fault}
use Rattle.records.specs.declared.part.Part.{Part}
use Rattle.records.specs.Checking.{of_part, outcome, ranged, pair}
use Rattle.records.specs.Counting.{for_head}

-- of a reading
pub fault-few : {A : Type 0} (steps : A → ℕ) (x : Reading A) {f : Fault} → Few x → Err f ≡ outcome steps x → f.number ≤ 8
fault-few steps (refused n p) {f} few e = let i : f.number ≡ n = cc in omega arith
fault-few steps (read a at left) few e = absurd cc

-- of a part that is read
pub fault-small : {A : Type 0} (steps : A → ℕ) (r : Reader A) (p : Part) {f : Fault} → Small r → Err f ≡ outcome steps (of_part r p) → f.number ≤ 8
fault-small steps r p h e = fault-few steps (of_part r p) (h.each p.start p.at p.bytes.now) e

-- ---- the readers of the checks' own

pub small-ranged : (test : ℕ → Bool) → Small (ranged test)
unfolding ranged
small-ranged test = small-then (small-field 2) λ i. small-then (small-range (test i)) λ _. small-pure i

pub small-pair : {A B : Type 0} {r : Reader A} {q : Reader B} → Small r → Small q → Small (pair r q)
unfolding pair
small-pair h k = small-then h λ a. small-then k λ b. small-pure (a, b)

pub small-head : (vars levels : ℕ) → Small (for_head vars levels)
small-head vars levels = small-pair (small-pair (small-loop-set vars levels) (small-expression vars false levels)) (small-loop-set vars levels)

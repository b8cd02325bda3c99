-- `u32_at` meets its contract.
use Prim.Native.Nat.{ℕ, ◌+◌}
use mathlib.Core.Path.{◌≡◌, ap}
use lib.ListN.{get_or}
use borrow.Author.Rules.{rules}
use native.Mathlib.Omega.{arith}
use Rattle.records.proofs.Parts.{number-two, number-four}
use Rattle.records.proofs.bytes.u32_at.Goals as goal

pub returns : goal.returns
returns c =
    let a = c.args in
    let low = number-two a.s.now a.i (omega arith) in
    let high = number-two a.s.now (a.i + 2) (omega arith) in
    let last : get_or a.s.now (a.i + 2 + 1) 0 ≡ get_or a.s.now (a.i + 3) 0 = ap (λ (k : ℕ). get_or a.s.now k 0) (omega arith) in
    omega (arith, number-four a.s.now a.i (search rules), low, high, last, c.from_le_bytes.ensures)

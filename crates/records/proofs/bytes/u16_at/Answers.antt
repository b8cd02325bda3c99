-- `u16_at` meets its contract.
use Prim.Native.Nat.{◌+◌}
use native.Mathlib.Omega.{arith}
use Rattle.records.proofs.Parts.{number-two}
use Rattle.records.proofs.bytes.u16_at.Goals as goal

pub returns : goal.returns
returns c =
    let a = c.args in
    let e = c.from_le_bytes.ensures in
    (omega (arith, number-two a.s.now a.i c.requires, c.from.ensures, e), omega (arith, c.type_inv.s a.i, c.type_inv.s (a.i + 1), c.from.ensures, e))

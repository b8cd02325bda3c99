-- `read` meets its contract.
use native.Mathlib.Omega.{arith}
use Rattle.access.proofs.Using.{few-steps}
use Rattle.access.proofs.Kept.{accepted-of}
use Rattle.reader.proofs.read.Goals as goal

pub overflow_cast-result : goal.overflow_cast-result
overflow_cast-result c =
    let a = accepted-of c.in_ok-accept.field-0.accepted in
    omega (arith, a.1, few-steps a.0)

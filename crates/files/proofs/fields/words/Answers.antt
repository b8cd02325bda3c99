-- `words` meets its contract.
use Prim.Native.Nat.{◌-◌, ◌/◌}
use mathlib.Core.Path.{sym, ap₂, ◌∙◌}
use native.Mathlib.Omega.{arith}
use lib.ListN.{length}
use Rattle.records.specs.Checking.{found}
use Rattle.files.proofs.FieldLaws.{words-all, words-cut}
use Rattle.files.proofs.fields.words.Goals as goal

pub returns-then-whole-k : goal.returns-then-whole-k
returns-then-whole-k c =
    let a = c.args in
    let j = (length a.b.bytes.now - a.i) / 4 in
    rw c.refused.ensures (sym (words-cut a.b.start a.b.at a.b.bytes.now j a.k a.i (omega arith) (omega arith) (omega arith)))

pub returns : goal.returns
returns c = let a = c.args in ap₂ found c.at.ensures.0 c.at.ensures.1 ∙ sym (words-all a.b.start a.b.at a.b.bytes.now a.k a.i (omega arith))

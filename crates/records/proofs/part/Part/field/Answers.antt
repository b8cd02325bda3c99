-- `Part::field` meets its contract.
use Rattle.std.specs.Prelude.{drop}
use mathlib.Core.Path.{ap₂}
use native.Mathlib.Omega.{arith}
use lib.ListN.{length-drop}
use Rattle.rules.specs.Reading.{field}
use Rattle.records.specs.Checking.{found}
use Rattle.grammar.proofs.Bytes.{has_all}
use Rattle.records.proofs.Parts.{has-few}
use Rattle.records.proofs.part.Part.field.Goals as goal

pub returns-then-self-i : goal.returns-then-self-i
unfolding field
returns-then-self-i c =
    let a = c.args in
    let s = drop a.i a.self.bytes.now in
    rw (c.refused.ensures, has-few a.n s (omega (arith, length-drop a.i a.self.bytes.now)))

pub returns : goal.returns
unfolding field
returns c =
    let a = c.args in
    let s = drop a.i a.self.bytes.now in
    rw (has_all a.n s (omega (arith, length-drop a.i a.self.bytes.now))) (ap₂ found c.at.ensures.0 c.at.ensures.1)

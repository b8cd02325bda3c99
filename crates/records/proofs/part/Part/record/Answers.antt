-- `Part::record` meets its contract.
use mathlib.Core.Path.{sym}
use Rattle.rules.specs.Reading.{kind_of}
use Rattle.records.proofs.Parts.{long, short}
use native.Mathlib.Omega.{arith}
use Rattle.records.proofs.part.Part.record.Goals as goal

pub returns-in_default : goal.returns-in_default
returns-in_default c = (short _ (sym c.in_default.ensures.is), c.refused.ensures)

pub returns : goal.returns
unfolding kind_of
returns c =
    let w = long _ (sym c.in-Some.ensures.is) in
    let b = c.body.ensures in
    record {
      is = w.is;
      kind = c.u16_at.ensures.0;
      end = omega (arith, w.size);
      start = b.start;
      at = b.at;
      bytes = rw w.size b.bytes;
      ends = b.ends;
    }

-- A reading as the check answers it, and how answers are put together.
use Rattle.std.specs.Prelude.{◌≡◌, ◌⊎◌, ℕ, ◌+◌, ◌-◌, Bool, true, false, List, length, ltb, if◌then◌else◌, Option, Some, None, Result, Ok, Err}
use Rattle.records.specs.declared.fault.Fault.{Fault}
use Rattle.rules.specs.Basics.{part}
use Rattle.rules.specs.Reading.{Reading, refused, read, Reader, ◌>>=◌, ◌>>◌, pure, in_range, field, size_of, kind_of, whole}
use Rattle.records.specs.declared.answers.Checked.{Checked}
use Rattle.records.specs.declared.part.Part.{Part}
use Rattle.records.specs.declared.part.Record.{Record}

-- the length of the record that bytes begin with; none where it is under 4 or runs past them
unfoldable pub length_of : List ℕ → Option ℕ
length_of bytes = if whole bytes then Some (size_of bytes) else None

-- what checking finds
abbrev pub Answer : Type 0
Answer = Result Checked Fault

abbrev pub found : (end steps : ℕ) → Answer
found end steps = Ok (record { end = end; steps = steps })

abbrev pub fault_at : (number place : ℕ) → Fault
fault_at number place = record { number = number; place = place }

abbrev pub refused_at : (number place : ℕ) → Answer
refused_at number place = Err (fault_at number place)

abbrev pub outcome : {A : Type 0} → (steps : A → ℕ) → Reading A → Answer
outcome steps (refused n p) = refused_at n p
outcome steps (read a at left) = found at (steps a)

-- what a reader makes of a part of a record
abbrev pub of_part : {A : Type 0} → Reader A → Part → Reading A
of_part r p = r p.start p.at p.bytes.now

-- this record comes in this part
pub record Opens (p : Part) (r : Record) : Type 0 where
  pub is : whole p.bytes.now ≡ true
  pub kind : r.kind ≡ kind_of p.bytes.now
  pub end : r.end ≡ p.at + size_of p.bytes.now
  pub start : r.body.start ≡ p.at
  pub at : r.body.at ≡ p.at + 4
  pub bytes : r.body.bytes.now ≡ part 4 (size_of p.bytes.now) p.bytes.now
  pub ends : r.body.at + length r.body.bytes.now ≡ r.end

-- why no record is opened in this part where it may hold so many levels: it is not whole, or its level is one too many
abbrev pub Unopened : (p : Part) (levels : ℕ) → Fault → Type 0
Unopened p levels e =
    ((whole p.bytes.now ≡ false) × (e ≡ fault_at 2 p.at))
    ⊎ ((levels ≡ 0) × (whole p.bytes.now ≡ true) × (e ≡ fault_at 5 p.at))

-- an expression is no step
abbrev pub no_steps : {A : Type 0} → A → ℕ
no_steps a = 0

-- a record that ends at this offset holds this: bytes left over are refused
abbrev pub ended : (end : ℕ) → Answer → Answer
ended end (Ok c) = if ltb c.end end then refused_at 2 c.end else found end c.steps
ended end (Err e) = Err e

abbrev pub counted : (steps : ℕ) → Answer → Answer
counted steps (Ok c) = found c.end steps
counted steps (Err e) = Err e

abbrev pub added : (steps : ℕ) → Answer → Answer
added steps (Ok c) = found c.end (steps + c.steps)
added steps (Err e) = Err e

-- the bytes from i on, as `&s[i..]` has them
abbrev pub from : ℕ → List ℕ → List ℕ
from i bytes = part i (length bytes) bytes

-- a answered at these bytes at this offset; this reader goes on where it ended, and the steps of both count
abbrev pub checked_on : {A : Type 0} → (steps : A → ℕ) (r : Reader A) (start at : ℕ) (bytes : List ℕ) (a : Answer) → Answer
checked_on steps r start at bytes (Ok c) = added c.steps (outcome steps (r start c.end (from (c.end - at) bytes)))
checked_on steps r start at bytes (Err e) = Err e

-- a 16-bit field that passes a test
unfoldable pub ranged : (test : ℕ → Bool) → Reader ℕ
ranged test = do
  i ← field 2
  in_range (test i)
  pure i

-- one reader after another
unfoldable pub pair : {A B : Type 0} → Reader A → Reader B → Reader (A × B)
pair r q = do
  a ← r
  b ← q
  pure (a, b)

-- Fields in a row: what stands at a place, and what is answered of it.
use Rattle.std.specs.Prelude.{ℕ, ◌+◌, Bool, List, take, drop, if◌then◌else◌, Result, Ok, Err}
use Rattle.records.specs.declared.fault.Fault.{Fault}
use Rattle.rules.specs.Basics.{has, number}
use Rattle.records.specs.Checking.{fault_at}

-- the number of n bytes that stands i bytes into these; 0 where it is not there whole
unfoldable pub value_at : (n i : ℕ) → List ℕ → ℕ
value_at n i bytes = if has n (drop i bytes) then number (take n (drop i bytes)) else 0

-- a field of n bytes that stands i bytes into a record's body: presence before range
unfoldable pub field_answer : (n i start at : ℕ) (body : List ℕ) (good : Bool) → Result (Unit {0}) Fault
field_answer n i start at body good =
    if has n (drop i body) then (if good then Ok tt else Err (fault_at 4 start)) else Err (fault_at 2 (at + i))

-- The rules' starts and calls on a file's steps, and its fields.
use Rattle.std.specs.Prelude.{ℕ, List, [], ◌≡◌}
use Rattle.rules.specs.declared.Call.{Call}
use Rattle.rules.specs.declared.Fields.{Fields}
use Rattle.rules.specs.declared.Outcome.{Outcome}
use Rattle.rules.specs.declared.State.{State}
use Rattle.rules.specs.Syntax.{Agreement}
use Rattle.rules.specs.Expanding.{expansion}
use Rattle.rules.specs.Stepping.{records_in, start_steps, call_steps}
use Rattle.walker.specs.Tables.{Expanded}

-- the rules' start and call on a file's records and the steps of its expansion, past refusal 12
abbrev pub start_in : (file : List ℕ) → Agreement → Outcome
start_in file a = start_steps (records_in file a.fields.variables) a.fields (expansion a)

abbrev pub call_in : (file : List ℕ) → Agreement → State → Call → Outcome
call_in file a = call_steps (records_in file a.fields.variables) a.fields (expansion a) []

-- these are the fields of the file with whose expansion the words begin
abbrev pub FieldsIn : (file words : List ℕ) → Fields → Type 0
FieldsIn file words f = (a : Expanded file words) → f ≡ a.tree.fields

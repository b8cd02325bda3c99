-- The form of the worked cases: what is asked of a file, and the complete outcome.
use Rattle.std.specs.Prelude.{◌≡◌, ℕ, Bool, false, List, map, replicate}
use Rattle.std.proofs.Math.ListN.{get_elem?}
use Rattle.rules.specs.declared.Answer.{Answer}
use Rattle.rules.specs.declared.Call.{Call}
use Rattle.rules.specs.Accepting.{Counted}
use Rattle.rules.specs.declared.Judged.{Judged}
use Rattle.rules.specs.declared.Outcome.{Outcome}
use Rattle.rules.specs.declared.State.{State}
use Rattle.rules.specs.declared.Verdict.{Verdict}
use Rattle.rules.specs.Basics.{given}
use Rattle.rules.specs.Accepting.{file_of, on_file, Lent, expand_file}
use Rattle.rules.specs.Calling.{call, calls_from, run_list}
use Rattle.rules.specs.Stepping.{call_expanded, run_list_expanded}
use Rattle.rules.specs.Judging.{breaking_expanded, verdict}
use Rattle.rules.specs.Reporting.{report}
use Rattle.rules.specs.Answers.{read_numbers, counted_numbers, answer_numbers, judged_numbers, state_numbers, state_from}

-- A list of calls runs on both forms: from a fresh start, or from a given state record. `breaking_on` asks whether a list of row
-- positions breaks a rule in its expanded run on lent words. The last six are the exported numbers of what reading, expanding,
-- starting or calling and judging answer, of a state record, and back.
pub data Task : Type 0 where
  expanding : (file words : List ℕ) → Task
  calling : (file words : List ℕ) (calls : List Call) → Task
  calling_from : (given : State) (file words : List ℕ) (calls : List Call) → Task
  judging : (file : List ℕ) (rule : ℕ) (words : List ℕ) → Task
  breaking_on : (file words : List ℕ) (rule : ℕ) (list : List ℕ) → Task
  reporting : (file : List ℕ) → Task
  of_read of_expanded : Counted → Task
  of_called : Answer → Task
  of_judged : Judged → Task
  of_record : State → Task
  to_record : (numbers : List ℕ) → Task

pub data Result : Type 0 where
  expanded : Lent Counted → Result
  ran : (unexpanded expanded : List Outcome) → Result
  ruled : Lent Judged → Result
  broke : Bool → Result
  printed : (text : List ℕ) → Result
  numbers : List ℕ → Result
  recorded : State → Result

unfoldable pub result : Task → Result
result (expanding file words) = expanded (expand_file file words)
result (calling file words calls) = ran (run_list file calls) (run_list_expanded file words calls)
result (calling_from s file words calls) = ran (calls_from (call file) s calls) (calls_from (call_expanded file words) s calls)
result (judging file rule words) = ruled (verdict file rule words)
result (breaking_on file words i l) =
    broke (on_file (λ _. false) (λ a. given (λ r. breaking_expanded file words a r l) (λ _. false) (get_elem? a.rules i)) (file_of file))
result (reporting file) = printed (report file)
result (of_read c) = numbers (read_numbers c)
result (of_expanded c) = numbers (counted_numbers c)
result (of_called a) = numbers (answer_numbers a)
result (of_judged j) = numbers (judged_numbers j)
result (of_record s) = numbers (state_numbers s)
result (to_record ns) = recorded (state_from ns)

-- a verdict, and the rows of its list with zeros behind them, eight in all
abbrev pub judgement : Verdict → (rows : List ℕ) → Judged
judgement v rows = record { verdict = v; rows = rows }

abbrev pub no_rows : List ℕ
no_rows = replicate 8 0

-- each task gives its result
abbrev pub Holds : List (Task × Result) → Type 0
Holds cases = map (λ (c : Task × Result). result c.0) cases ≡ map (λ (c : Task × Result). c.1) cases

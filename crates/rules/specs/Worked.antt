-- Worked cases of what the ten cases and the slips leave open: small agreements, and the complete outcomes that document 01 gives
-- for them. Under each agreement stand its steps, their nodes and offsets counted in its text.
use Rattle.std.specs.Prelude.{ℕ, true, false, List, [], ◌∷◌, ◌++◌, take, replicate, Some, None, Ok, Err}
use Rattle.rules.specs.declared.Answer.{Answer}
use Rattle.rules.specs.declared.Answer.TheVariants.{Completed, Refused}
use Rattle.rules.specs.declared.Call.{Call}
use Rattle.rules.specs.declared.Judged.{Judged}
use Rattle.rules.specs.declared.Outcome.{Outcome}
use Rattle.rules.specs.declared.Refusal.{Refusal}
use Rattle.rules.specs.declared.State.{State}
use Rattle.rules.specs.Values.{Value}
use Rattle.rules.specs.declared.Verdict.TheVariants as verdict
use Rattle.rules.specs.Basics.{each}
use Rattle.rules.specs.Text.{text}
use Rattle.rules.specs.Encoding.{word16, word32, encoded, constant, variable, local, argument, context, binary, not}
use Rattle.rules.specs.Encoding.{set, transfer, require, return, block, if_then, if_else, while, for, transition, row, paying_row, always, rule}
use Rattle.rules.specs.Accepting.{refusal_at, refusal, lent}
use Rattle.rules.specs.Calling.{outcome}
use Rattle.rules.specs.Tasks.{Task, expanding, calling, calling_from, judging, breaking_on, reporting, of_read, of_expanded, of_called, of_judged, of_record, to_record}
use Rattle.rules.specs.Tasks.{Result, expanded, ran, ruled, broke, printed, numbers, recorded, judgement, no_rows, Holds}
use Rattle.rules.specs.Counter.{counter, counter_steps}

abbrev call_of : (name sender coins : ℕ) (arguments : List ℕ) → Call
call_of n s c xs = record { name = n; sender = s; coins = c; arguments = xs }

-- completed with "no value" and with a value; refused, without a place
abbrev done : (units : ℕ) → Answer
done u = Completed None u

abbrev gave : (value units : ℕ) → Answer
gave x u = Completed (Some x) u

abbrev refused : (number units : ℕ) → Answer
refused n u = Refused (refusal n) u

-- the same outcomes on both forms
abbrev alike : List Outcome → Result
alike os = ran os os

-- Expressions. One state, no variables, one account with 5, limit 1; the initial action returns 0, the fallback an expression.
abbrev returning : (expression : List ℕ) → List ℕ
returning e =
    encoded 1 ((1 ∷ 0 ∷ 1 ∷ 0 ∷ 0 ∷ 0 ∷ word16 1 ++ word32 1 ++ word32 5) ++ return (constant 0) ++ return e)

abbrev returning_steps : List ℕ
returning_steps = (3 ∷ 0 ∷ 7 ∷ 0 ∷ 20 ∷ []) ++ (2 ∷ 1 ∷ 7 ∷ 0 ∷ 32 ∷ [])

-- the fallback's answer: a return of a value that fails is "25: action failed", with the unit charged before it
abbrev answered : Value → Answer
answered (Some x) = gave x 1
answered None = refused 25 1

-- an expression's value where the arguments are x, y, 0, 0
abbrev valued : (expression : List ℕ) (x y : ℕ) → Value → Task × Result
valued e x y v =
    let s : State = record { state = 0; variables = replicate 16 0; balances = 5 ∷ replicate 7 0; own = 0 } in
    (calling_from s (returning e) returning_steps (call_of 0 0 0 (x ∷ y ∷ 0 ∷ 0 ∷ []) ∷ []), alike (outcome (answered v) s ∷ []))

abbrev applied : (operator x y : ℕ) → Value → Task × Result
applied o = valued (binary o (argument 0) (argument 1))

abbrev quotient : List ℕ
quotient = binary 3 (argument 0) (argument 1)

unfoldable pub expression_cases : List (Task × Result)
expression_cases =
    -- "Operators 0 to 10: + − × / remainder = ≠ < ≤ and or." "A sum or product over 4,294,967,295, a difference below zero and a
    -- zero divisor or remainder divisor fail."
    applied 0 4_294_967_290 5 (Some 4_294_967_295)
    ∷ applied 0 4_294_967_290 6 None
    ∷ applied 1 9 2 (Some 7)
    ∷ applied 1 9 9 (Some 0)
    ∷ applied 1 2 9 None
    ∷ applied 2 65_537 65_535 (Some 4_294_967_295)
    ∷ applied 2 65_536 65_536 None
    ∷ applied 3 17 5 (Some 3)
    ∷ applied 3 17 0 None
    ∷ applied 4 17 5 (Some 2)
    ∷ applied 4 17 0 None
    -- "Zero is false, anything else true; comparisons, not, and, or yield 1 or 0."
    ∷ applied 5 9 2 (Some 0)
    ∷ applied 5 9 9 (Some 1)
    ∷ applied 6 9 2 (Some 1)
    ∷ applied 6 9 9 (Some 0)
    ∷ applied 7 2 9 (Some 1)
    ∷ applied 7 9 9 (Some 0)
    ∷ applied 7 9 2 (Some 0)
    ∷ applied 8 2 9 (Some 1)
    ∷ applied 8 9 9 (Some 1)
    ∷ applied 8 9 2 (Some 0)
    ∷ applied 9 9 2 (Some 1)
    ∷ applied 9 9 0 (Some 0)
    ∷ applied 9 0 9 (Some 0)
    ∷ applied 9 0 0 (Some 0)
    ∷ applied 10 9 2 (Some 1)
    ∷ applied 10 9 0 (Some 1)
    ∷ applied 10 0 9 (Some 1)
    ∷ applied 10 0 0 (Some 0)
    ∷ valued (not (argument 0)) 0 0 (Some 1)
    ∷ valued (not (argument 0)) 9 0 (Some 0)
    -- "Both sides of every operator are evaluated.": 9 or 9 / 0, 0 and 9 / 0, 9 / 0 and 0; and not (9 / 0)
    ∷ valued (binary 10 (argument 0) quotient) 9 0 None
    ∷ valued (binary 9 (argument 1) quotient) 9 0 None
    ∷ valued (binary 9 quotient (argument 1)) 9 0 None
    ∷ valued (not quotient) 9 0 None
    ∷ []

-- Contexts, arguments, locals and transfers. Three states, six variables, two accounts with 50 and 60, start 1, limit 10.
--   initial: { v3 := context 3; v0 := context 0 + (context 1 + (context 2 + argument 0)); return 9 }
--   fallback: transfer argument 1 to account argument 0
--   7 from 2 to 0, guard context 2 = 35: { transfer argument 1 to account argument 0; v0 to v3 := contexts 0 to 3;
--   local 7 := argument 2; v4 := argument 3; v5 := local 0; return local 7 }
abbrev deposit : List ℕ
deposit =
    encoded 1
    ((3 ∷ 6 ∷ 2 ∷ 1 ∷ 0 ∷ 0 ∷ word16 10 ++ word32 1 ++ word32 50 ++ word32 60)
    ++ block
    (set 3 (context 3)
    ++ set 0 (binary 0 (context 0) (binary 0 (context 1) (binary 0 (context 2) (argument 0))))
    ++ return (constant 9))
    ++ transfer (argument 0) (argument 1)
    ++ transition 7 2 0 (binary 5 (context 2) (constant 35))
    (block
    (transfer (argument 0) (argument 1)
    ++ set 0 (context 0)
    ++ set 1 (context 1)
    ++ set 2 (context 2)
    ++ set 3 (context 3)
    ++ set 263 (argument 2)
    ++ set 4 (argument 3)
    ++ set 5 (local 0)
    ++ return (local 7))))

abbrev deposit_steps : List ℕ
deposit_steps =
    (5 ∷ 6 ∷ 4 ∷ 0 ∷ 28 ∷ [])
    ++ (6 ∷ 7 ∷ 4 ∷ 0 ∷ 40 ∷ [])
    ++ (7 ∷ 1 ∷ 7 ∷ 0 ∷ 88 ∷ [])
    ++ (4 ∷ 3 ∷ 5 ∷ 0 ∷ 100 ∷ [])
    ++ (2 ∷ 8 ∷ 1 ∷ 7 ∷ 124 ∷ [])
    ++ (8 ∷ 9 ∷ 5 ∷ 0 ∷ 148 ∷ [])
    ++ (9 ∷ 10 ∷ 4 ∷ 0 ∷ 164 ∷ [])
    ++ (10 ∷ 11 ∷ 4 ∷ 0 ∷ 176 ∷ [])
    ++ (11 ∷ 12 ∷ 4 ∷ 0 ∷ 188 ∷ [])
    ++ (12 ∷ 13 ∷ 4 ∷ 0 ∷ 200 ∷ [])
    ++ (13 ∷ 14 ∷ 4 ∷ 0 ∷ 212 ∷ [])
    ++ (14 ∷ 15 ∷ 4 ∷ 0 ∷ 224 ∷ [])
    ++ (15 ∷ 16 ∷ 4 ∷ 0 ∷ 236 ∷ [])
    ++ (16 ∷ 0 ∷ 7 ∷ 0 ∷ 248 ∷ [])

-- its records, by their six variables, two balances and own balance
abbrev deposited : (state : ℕ) (six : List ℕ) (balance0 balance1 own : ℕ) → State
deposited s vs b c w = record { state = s; variables = vs ++ replicate 10 0; balances = b ∷ c ∷ replicate 6 0; own = w }

-- in state 2, the own balance 5, v5 nonzero
abbrev waiting : State
waiting = deposited 2 (0 ∷ 0 ∷ 0 ∷ 0 ∷ 0 ∷ 9 ∷ []) 45 60 5

abbrev pay : (sender coins account amount : ℕ) → Call
pay s c a x = call_of 8 s c (a ∷ x ∷ 0 ∷ 0 ∷ [])

unfoldable pub deposit_cases : List (Task × Result)
deposit_cases =
    -- "the initial action runs with sender 0, no coins, zero arguments; its return value is dropped, its units are reported"; its
    -- context 3 is the start state
    (calling deposit deposit_steps [], alike (outcome (done 3) (deposited 1 (0 ∷ 0 ∷ 0 ∷ 1 ∷ 0 ∷ 0 ∷ []) 50 60 0) ∷ []))
    -- "0 sender, 1 coins paid, 2 agreement's own balance, 3 state before the call": 1, 30, 35 at the guard and 25 after the
    -- transfer, 2. "Locals begin at zero." "Return ends the action normally with its value." The limit is used up.
    ∷ (
      calling_from waiting deposit deposit_steps (call_of 7 1 30 (0 ∷ 10 ∷ 70 ∷ 80 ∷ []) ∷ []),
      alike (outcome (gave 70 10) (deposited 0 (1 ∷ 30 ∷ 25 ∷ 2 ∷ 80 ∷ 0 ∷ []) 55 30 25) ∷ []),
    )
    -- "it fails if the account is not below A or the amount exceeds the own balance"; "the fallback action runs and the state
    -- stays"; "An action without a return answers 'no value'." The third call pays 3 and moves all 8. The words after the steps
    -- read like a guard of the calls' name and are no step.
    ∷ (
      calling_from waiting deposit (deposit_steps ++ (2 ∷ 8 ∷ 1 ∷ 8 ∷ 124 ∷ [])) (pay 0 0 2 5 ∷ pay 0 0 1 6 ∷ pay 0 3 1 8 ∷ []),
      alike
          (outcome (refused 25 1) waiting
          ∷ outcome (refused 25 1) waiting
          ∷ outcome (done 1) (deposited 2 (0 ∷ 0 ∷ 0 ∷ 0 ∷ 0 ∷ 9 ∷ []) 42 68 0)
          ∷ []),
    )
    ∷ []

-- A call of name 7 to the deposit agreement, refused before anything is charged. That name leads from state 2 alone, and 61 coins
-- are more than account 1 has.
abbrev denied : (sender coins : ℕ) (words : List ℕ) → State → (unexpanded expanded : ℕ) → Task × Result
denied k c words s n m = (
  calling_from s deposit words (call_of 7 k c (0 ∷ 0 ∷ 0 ∷ 0 ∷ []) ∷ []),
  ran (outcome (refused n 0) s ∷ []) (outcome (refused m 0) s ∷ []),
)

abbrev fit : State
fit = deposited 1 (replicate 6 0) 50 60 0

-- the state not below S
abbrev state_beyond : State
state_beyond = deposited 3 (replicate 6 0) 50 60 0

-- v6 is not zero
abbrev variable_used : State
variable_used =
    record { state = 1; variables = replicate 6 0 ++ (1 ∷ replicate 9 0); balances = 50 ∷ 60 ∷ replicate 6 0; own = 0 }

-- account 2 has a balance, and the total is right
abbrev account_used : State
account_used = record { state = 1; variables = replicate 16 0; balances = 50 ∷ 59 ∷ 1 ∷ replicate 5 0; own = 0 }

-- the total is 4,294,967,296 more than the file's
abbrev total_over : State
total_over = deposited 1 (replicate 6 0) 4_294_967_295 60 51

-- the steps without their last word
abbrev short : List ℕ
short = take 69 deposit_steps

unfoldable pub order_cases : List (Task × Result)
order_cases =
    -- "From 6 on the smaller number goes first": each call has the fault of its number and those of all greater ones.
    denied 2 61 short state_beyond 9 9
    ∷ denied 1 61 short state_beyond 20 11
    ∷ denied 1 61 (short ++ (249 ∷ [])) state_beyond 20 12
    ∷ denied 1 61 deposit_steps state_beyond 20 20
    ∷ denied 1 61 deposit_steps fit 21 21
    ∷ denied 1 60 deposit_steps fit 22 22
    -- "unused entry nonzero, or total not the file's"
    ∷ denied 1 61 deposit_steps variable_used 20 20
    ∷ denied 1 61 deposit_steps account_used 20 20
    ∷ denied 1 61 deposit_steps total_over 20 20
    ∷ []

-- If-else and for. Two states, two variables, one account with 5.
--   initial: v1 := 4
--   fallback: require 0
--   1 from 0 to 1, guard 1 / argument 0: {
--     if 1 / argument 1,
--       for (local 0 := 1; local 0 < 3; local 0 := local 0 + 1) { v0 := v0 + local 0; if argument 2, return local 0 }
--     else { v0 := 5; if argument 2, return v0 };
--     v1 := v1 × v0 }
--   2 from 1 to 0: return v1
abbrev branching : (limit : ℕ) → List ℕ
branching u =
    encoded 1
    ((2 ∷ 2 ∷ 1 ∷ 0 ∷ 0 ∷ 0 ∷ word16 u ++ word32 1 ++ word32 5)
    ++ set 1 (constant 4)
    ++ require (constant 0)
    ++ transition 1 0 1 (binary 3 (constant 1) (argument 0))
    (block
    (if_else (binary 3 (constant 1) (argument 1))
    (for (set 256 (constant 1)) (binary 7 (local 0) (constant 3)) (set 256 (binary 0 (local 0) (constant 1)))
    (block (set 0 (binary 0 (variable 0) (local 0)) ++ if_then (argument 2) (return (local 0)))))
    (block (set 0 (constant 5) ++ if_then (argument 2) (return (variable 0))))
    ++ set 1 (binary 2 (variable 1) (variable 0))))
    ++ transition 2 1 0 (constant 1) (return (variable 1)))

-- The first transition makes 5, its block 6, if-else 7 and 8, for 9 to 11, its body 12 and 13, the other part 14 and 15; the
-- second transition makes 16.
abbrev branching_steps : List ℕ
branching_steps =
    (4 ∷ 0 ∷ 4 ∷ 0 ∷ 20 ∷ [])
    ++ (3 ∷ 2 ∷ 6 ∷ 0 ∷ 34 ∷ [])
    ++ (0 ∷ 5 ∷ 1 ∷ 1 ∷ 54 ∷ [])
    ++ (5 ∷ 7 ∷ 2 ∷ 0 ∷ 82 ∷ [])
    ++ (5 ∷ 8 ∷ 3 ∷ 0 ∷ 82 ∷ [])
    ++ (7 ∷ 9 ∷ 4 ∷ 0 ∷ 106 ∷ [])
    ++ (9 ∷ 10 ∷ 2 ∷ 0 ∷ 120 ∷ [])
    ++ (9 ∷ 6 ∷ 3 ∷ 0 ∷ 120 ∷ [])
    ++ (10 ∷ 12 ∷ 4 ∷ 0 ∷ 170 ∷ [])
    ++ (12 ∷ 13 ∷ 2 ∷ 0 ∷ 198 ∷ [])
    ++ (12 ∷ 11 ∷ 3 ∷ 0 ∷ 198 ∷ [])
    ++ (13 ∷ 1 ∷ 7 ∷ 0 ∷ 204 ∷ [])
    ++ (11 ∷ 9 ∷ 4 ∷ 0 ∷ 140 ∷ [])
    ++ (8 ∷ 14 ∷ 4 ∷ 0 ∷ 218 ∷ [])
    ++ (14 ∷ 15 ∷ 2 ∷ 0 ∷ 236 ∷ [])
    ++ (14 ∷ 6 ∷ 3 ∷ 0 ∷ 236 ∷ [])
    ++ (15 ∷ 1 ∷ 7 ∷ 0 ∷ 242 ∷ [])
    ++ (6 ∷ 1 ∷ 4 ∷ 0 ∷ 252 ∷ [])
    ++ (1 ∷ 16 ∷ 1 ∷ 2 ∷ 284 ∷ [])
    ++ (16 ∷ 0 ∷ 7 ∷ 0 ∷ 292 ∷ [])

abbrev branched : (state v0 v1 : ℕ) → State
branched s x y = record { state = s; variables = x ∷ y ∷ replicate 14 0; balances = 5 ∷ replicate 7 0; own = 0 }

abbrev branch : (argument0 argument1 argument2 : ℕ) → Call
branch x y z = call_of 1 0 0 (x ∷ y ∷ z ∷ 0 ∷ [])

-- the calls' outcomes after the fresh start
abbrev branches : (limit : ℕ) → List Call → List Outcome → Task × Result
branches u calls os = (calling (branching u) branching_steps calls, alike (outcome (done 1) (branched 0 0 4) ∷ os))

unfoldable pub branch_cases : List (Task × Result)
branch_cases =
    (expanding (branching 13) (replicate 101 9), expanded (lent (Ok 20) (branching_steps ++ (9 ∷ []))))
    -- The for runs twice and is tested three times; the limit is just used up. Then the other transition.
    ∷ branches 13 (branch 1 1 0 ∷ call_of 2 0 0 (replicate 4 0) ∷ [])
    (outcome (done 13) (branched 1 3 12) ∷ outcome (gave 12 2) (branched 0 3 12) ∷ [])
    -- the other part of the if-else
    ∷ branches 13 (branch 1 2 0 ∷ []) (outcome (done 5) (branched 1 5 20) ∷ [])
    -- "Return ends the action normally with its value.": inside the for, and inside the other part
    ∷ branches 13 (branch 1 1 7 ∷ []) (outcome (gave 1 7) (branched 1 1 4) ∷ [])
    ∷ branches 13 (branch 1 2 7 ∷ []) (outcome (gave 5 5) (branched 1 5 4) ∷ [])
    -- "If the limit is already used, the call is refused instead."
    ∷ branches 12 (branch 1 1 0 ∷ []) (outcome (refused 26 12) (branched 0 0 4) ∷ [])
    -- "23: guard false. 24: guard failed. 25: action failed.", here by the condition
    ∷ branches 13 (branch 2 1 0 ∷ branch 0 1 0 ∷ branch 1 0 0 ∷ [])
    (outcome (refused 23 1) (branched 0 0 4)
    ∷ outcome (refused 24 1) (branched 0 0 4)
    ∷ outcome (refused 25 2) (branched 0 0 4)
    ∷ [])
    -- "of 24 to 26 the one met first in running": the condition would fail, but there is no unit for it
    ∷ branches 1 (branch 1 0 0 ∷ []) (outcome (refused 26 1) (branched 0 0 4) ∷ [])
    ∷ []

-- Starts that are refused. One state, one variable, one account with 5, limit 3; the fallback requires 0; the rule holds always.
abbrev starting : (initial : List ℕ) → List ℕ
starting s =
    encoded 1
    ((1 ∷ 1 ∷ 1 ∷ 0 ∷ 0 ∷ 0 ∷ word16 3 ++ word32 1 ++ word32 5) ++ s ++ require (constant 0) ++ always (constant 1))

-- { v0 := 1; require 0 } fails with its second unit
abbrev failing : List ℕ
failing = starting (block (set 0 (constant 1) ++ require (constant 0)))

abbrev failing_steps : List ℕ
failing_steps = (3 ∷ 4 ∷ 4 ∷ 0 ∷ 24 ∷ []) ++ (4 ∷ 0 ∷ 6 ∷ 0 ∷ 38 ∷ []) ++ (2 ∷ 1 ∷ 6 ∷ 0 ∷ 50 ∷ [])

-- while 1, v0 := 1 uses up the limit
abbrev endless : List ℕ
endless = starting (while (constant 1) (set 0 (constant 1)))

abbrev endless_steps : List ℕ
endless_steps =
    (3 ∷ 4 ∷ 2 ∷ 0 ∷ 24 ∷ []) ++ (3 ∷ 0 ∷ 3 ∷ 0 ∷ 24 ∷ []) ++ (4 ∷ 3 ∷ 4 ∷ 0 ∷ 32 ∷ []) ++ (2 ∷ 1 ∷ 6 ∷ 0 ∷ 46 ∷ [])

abbrev zeros : State
zeros = record { state = 0; variables = replicate 16 0; balances = replicate 8 0; own = 0 }

abbrev unjudged : (rule : ℕ) (words : List ℕ) (number : ℕ) → Task × Result
unjudged i words n = (judging failing i words, ruled (lent (judgement (verdict.Refused (refusal n)) no_rows) words))

unfoldable pub start_cases : List (Task × Result)
start_cases =
    -- "27: initial action failed or used up its units"; "a refused start hands back an all-zero state record", which is unfit
    (
      calling failing failing_steps (call_of 1 0 0 (replicate 4 0) ∷ []),
      alike (outcome (refused 27 2) zeros ∷ outcome (refused 20 0) zeros ∷ []),
    )
    ∷ (calling endless endless_steps [], alike (outcome (refused 27 3) zeros ∷ []))
    -- an expanded start's 11 before 12, and 12 before 27
    ∷ (
      calling failing (replicate 14 9) [],
      ran (outcome (refused 27 2) zeros ∷ []) (outcome (refused 11 0) zeros ∷ []),
    )
    ∷ (
      calling failing (replicate 15 9) [],
      ran (outcome (refused 27 2) zeros ∷ []) (outcome (refused 12 0) zeros ∷ []),
    )
    -- a verdict's 10 before 11 before 27, "words unchanged"
    ∷ unjudged 1 (replicate 14 9) 10
    ∷ unjudged 0 (replicate 14 9) 11
    ∷ unjudged 0 (replicate 15 9) 27
    -- the expansion's 11
    ∷ (expanding failing (replicate 14 9), expanded (lent (Err (refusal 11)) (replicate 14 9)))
    -- "a failed start prints `start refused 27` after the steps"
    ∷ (reporting failing, printed (text "steps 3\nstart refused 27\n"))
    ∷ []

-- Rules. Eight states, one variable, two accounts with 5 and 20, start 1, depth 2, limit 9.
--   initial: v0 := context 3
--   fallback: require 0
--   1 from 1 to 7: v0 := argument 2
--   1 from 7 to 2: v0 := argument 2
-- Rows: 9, which is refused; 1 by account 1 with 6 coins and the arguments 1, 2, 7, 3. Rules: context 2 < context 3; 6 − v0;
-- 1 / context 2; context 2; 1 not after 1; 1 only after 1; then what is given.
abbrev ruling : (bound : ℕ) (more : List ℕ) → List ℕ
ruling b more =
    encoded 1
    ((8 ∷ 1 ∷ 2 ∷ 1 ∷ 2 ∷ 0 ∷ word16 9 ++ word32 b ++ word32 5 ++ word32 20)
    ++ set 0 (context 3)
    ++ require (constant 0)
    ++ transition 1 1 7 (constant 1) (set 0 (argument 2))
    ++ transition 1 7 2 (constant 1) (set 0 (argument 2))
    ++ row 9 0
    ++ paying_row 1 1 6 (1 ∷ 2 ∷ 7 ∷ 3 ∷ [])
    ++ always (binary 7 (context 2) (context 3))
    ++ always (binary 1 (constant 6) (variable 0))
    ++ always (binary 3 (constant 1) (context 2))
    ++ always (context 2)
    ++ rule 2 1 1
    ++ rule 3 1 1
    ++ more)

abbrev ruling_steps : List ℕ
ruling_steps =
    (10 ∷ 1 ∷ 4 ∷ 0 ∷ 24 ∷ [])
    ++ (9 ∷ 8 ∷ 6 ∷ 0 ∷ 36 ∷ [])
    ++ (1 ∷ 11 ∷ 1 ∷ 1 ∷ 56 ∷ [])
    ++ (11 ∷ 7 ∷ 4 ∷ 0 ∷ 64 ∷ [])
    ++ (7 ∷ 12 ∷ 1 ∷ 1 ∷ 84 ∷ [])
    ++ (12 ∷ 2 ∷ 4 ∷ 0 ∷ 92 ∷ [])

abbrev judges : (bound rule : ℕ) → Judged → Task × Result
judges b i j = (judging (ruling b []) i (replicate 31 0), ruled (lent j (ruling_steps ++ (0 ∷ []))))

unfoldable pub rule_cases : List (Task × Result)
rule_cases =
    -- "its context 3 is the present state": own balance and state are 0 and 1, after one completed call 6 and 7, after two 12 and
    -- 2. Of the seven lists only the last, 1 1, completes two.
    judges 7 0 (judgement (verdict.Broken 7 2) (1 ∷ 1 ∷ replicate 6 0))
    -- "spent, the bound", which lies inside a length: 2 and 3 are the places of the lists of one row
    ∷ judges 2 0 (judgement (verdict.Spent 2) no_rows)
    -- "its expression is false or fails in the fresh state or after a completed call": v0 is 1, then 7
    ∷ judges 7 1 (judgement (verdict.Broken 3 1) (1 ∷ replicate 7 0))
    ∷ judges 7 2 (judgement (verdict.Broken 1 0) no_rows)
    ∷ judges 7 3 (judgement (verdict.Broken 1 0) no_rows)
    -- "With p = q, type 2 breaks at the second, type 3 at the first."
    ∷ judges 7 4 (judgement (verdict.Broken 7 2) (1 ∷ 1 ∷ replicate 6 0))
    ∷ judges 7 5 (judgement (verdict.Broken 3 1) (1 ∷ replicate 7 0))
    -- the same in a report, with a bound of 6
    ∷ (
      reporting (ruling 6 []),
      printed
          (text
          "steps 6\nrule 0 spent 6\nrule 1 broken 3 1\nrule 2 broken 1\nrule 3 broken 1\nrule 4 spent 6\nrule 5 broken 3 1\n"),
    )
    -- "A bad file prints `refused`, number, place": of two more rules the second, at 280, names no transition
    ∷ (reporting (ruling 7 (rule 2 1 1 ++ rule 2 1 9)), printed (text "refused 4 280\n"))
    ∷ []

-- Three calls that complete in this order alone. One state, one variable, one account with 5, depth 3, limit 2, bound 40.
--   1: v0 from 0 to 1        2: v0 from 1 to 2        3: v0 from 2 to 3
-- Rows: 1, 2, 3. Rules: 3 not after 1; 3 only after 3; 2 only after 1.
abbrev sequence : List ℕ
sequence =
    encoded 1
    ((1 ∷ 1 ∷ 1 ∷ 0 ∷ 3 ∷ 0 ∷ word16 2 ++ word32 40 ++ word32 5)
    ++ set 0 (constant 0)
    ++ require (constant 0)
    ++ transition 1 0 0 (binary 5 (variable 0) (constant 0)) (set 0 (constant 1))
    ++ transition 2 0 0 (binary 5 (variable 0) (constant 1)) (set 0 (constant 2))
    ++ transition 3 0 0 (binary 5 (variable 0) (constant 2)) (set 0 (constant 3))
    ++ row 1 0
    ++ row 2 0
    ++ row 3 0
    ++ rule 2 3 1
    ++ rule 3 3 3
    ++ rule 3 2 1)

-- "later than", "earlier": not only next to it. Of 40 lists the 19th is the first that completes all three.
unfoldable pub sequence_cases : List (Task × Result)
sequence_cases =
    (reporting sequence, printed (text "steps 8\nrule 0 broken 19 0 1 2\nrule 1 broken 19 0 1 2\nrule 2 held 40\n"))
    -- "expanded on any lent words": on the counter agreement's steps call 1 leads to v0 = 2; with no words every call is refused
    ∷ (breaking_on (counter 2 6 10) counter_steps 0 (0 ∷ []), broke true)
    ∷ (breaking_on (counter 2 6 10) [] 0 (0 ∷ []), broke false)
    ∷ []

-- k, k + 1 and on, n numbers
abbrev counting : (k n : ℕ) → List ℕ
counting = each (λ i. i ∷ [])

abbrev counted26 : State
counted26 = record { state = 1; variables = counting 2 16; balances = counting 18 8; own = 26 }

-- a refusal with a place
abbrev bad_field : Refusal
bad_field = refusal_at 4 280

-- the exported numbers: the refusal's number (0 for none) and place, then what was asked for
unfoldable pub number_cases : List (Task × Result)
number_cases =
    (of_read (Ok 6), numbers (0 ∷ 0 ∷ []))
    ∷ (of_read (Err bad_field), numbers (4 ∷ 280 ∷ []))
    ∷ (of_expanded (Ok 6), numbers (0 ∷ 0 ∷ 6 ∷ []))
    ∷ (of_expanded (Err bad_field), numbers (4 ∷ 280 ∷ 0 ∷ []))
    ∷ (of_called (gave 70 10), numbers (0 ∷ 0 ∷ 1 ∷ 70 ∷ 10 ∷ []))
    ∷ (of_called (done 10), numbers (0 ∷ 0 ∷ 0 ∷ 0 ∷ 10 ∷ []))
    ∷ (of_called (Refused bad_field 3), numbers (4 ∷ 280 ∷ 0 ∷ 0 ∷ 3 ∷ []))
    ∷ (of_judged (judgement (verdict.Broken 7 2) (8 ∷ 9 ∷ replicate 6 0)), numbers (0 ∷ 0 ∷ 1 ∷ 7 ∷ 2 ∷ 8 ∷ 9 ∷ replicate 6 0))
    ∷ (of_judged (judgement (verdict.Held 7) no_rows), numbers (0 ∷ 0 ∷ 2 ∷ 7 ∷ 0 ∷ no_rows))
    ∷ (of_judged (judgement (verdict.Spent 6) no_rows), numbers (0 ∷ 0 ∷ 3 ∷ 6 ∷ 0 ∷ no_rows))
    ∷ (of_judged (judgement (verdict.Refused bad_field) no_rows), numbers (4 ∷ 280 ∷ 0 ∷ 0 ∷ 0 ∷ no_rows))
    ∷ (of_record counted26, numbers (counting 1 26))
    ∷ (to_record (counting 1 26), recorded counted26)
    ∷ []

unfoldable pub worked_cases : List (Task × Result)
worked_cases =
    expression_cases ++ deposit_cases ++ order_cases ++ branch_cases ++ start_cases ++ rule_cases ++ sequence_cases ++ number_cases

abbrev pub WorkedCases : Type 0
WorkedCases = Holds worked_cases

-- "One call, unexpanded" and "Starting": both operations on the unexpanded form, with their complete outcome.
use Rattle.std.specs.Prelude.{ℕ, ◌+◌, ◌-◌, Bool, ◌&&◌, ◌||◌, List, [], ◌∷◌, ◌++◌, drop, get_or, replicate, eqb, ltb, leb, None}
use Rattle.std.proofs.Math.Bool
use Rattle.std.proofs.Math.Option.{Option, none, some}
use Rattle.std.proofs.Math.ListN
use Rattle.rules.specs.declared.Answer.{Answer}
use Rattle.rules.specs.declared.Answer.TheVariants.{Completed, Refused}
use Rattle.rules.specs.declared.Call.{Call}
use Rattle.rules.specs.declared.Fields.{Fields}
use Rattle.rules.specs.declared.Machine.{Machine}
use Rattle.rules.specs.declared.Outcome.{Outcome}
use Rattle.rules.specs.declared.Refusal.{Refusal}
use Rattle.rules.specs.declared.State.{State}
use Rattle.rules.specs.Basics.{first_of, given, any, find, is_none, sum}
use Rattle.rules.specs.Syntax.{Transition, Agreement}
use Rattle.rules.specs.Accepting.{refusal, file_of, on_file}
use Rattle.rules.specs.Values.{is_true}
use Rattle.rules.specs.declared.Setting.{Setting}
use Rattle.rules.specs.Running.{machine, Run, going, returned, stopped, ◌>>◌, statement, guarded}

abbrev pub outcome : Answer → State → Outcome
outcome a s = record { answer = a; state = s }

-- "a refused start hands back an all-zero state record"
unfoldable pub zero_state : State
zero_state = record { state = 0; variables = replicate 16 0; balances = replicate 8 0; own = 0 }

unfoldable pub refused_start : Refusal → (units : ℕ) → Outcome
refused_start r u = outcome (Refused r u) zero_state

-- "Any refusal restores the whole state record, coins included." "On refusal: .. state and words unchanged"
unfoldable pub refused_call : Refusal → (units : ℕ) → State → Outcome
refused_call r u s = outcome (Refused r u) s

-- the sum of all balances and the own balance
unfoldable pub total : State → ℕ
total s = sum s.balances + s.own

-- "Starting: variables zero, opening balances, own balance 0, start state"
unfoldable pub opening_state : Fields → State
opening_state f = record { state = f.start; variables = replicate 16 0; balances = f.opening; own = 0 }

-- "the initial action runs with sender 0, no coins, zero arguments"
unfoldable pub no_call : Call
no_call = record { name = 0; sender = 0; coins = 0; arguments = replicate 4 0 }

-- "Coins move from sender to agreement." "Locals begin at zero." Nothing is charged or returned yet: "An action without a return
-- answers 'no value'."
unfoldable pub entered : Call → State → Machine
entered k s =
    machine s.variables (replicate 8 0)
    (ListN.set s.balances k.sender (get_or s.balances k.sender 0 - k.coins))
    (s.own + k.coins) 0 None

-- how a run ends: in a state (expanded, at a node) or refused
pub data End : Type 0 where
  ended : (node : ℕ) → Machine → End
  halted : (number : ℕ) → Machine → End

-- where a run leads: by its result, or after a return to r
unfoldable pub leads : {A : Type 0} → (A → ℕ) → (r : ℕ) → Run A → End
leads d r (going a m) = ended (d a) m
leads d r (returned m) = ended r m
leads d r (stopped k m) = halted k m

-- an action that ends in a state, by a return or without one
unfoldable pub ends_in : ℕ → Run (Unit {0}) → End
ends_in n = leads (λ _. n) n

unfoldable pub state_after : ℕ → Machine → State
state_after n m = record { state = n; variables = m.variables; balances = m.balances; own = m.own }

-- "its return value is dropped, its units are reported"; "27: initial action failed or used up its units"
unfoldable pub started : End → Outcome
started (ended n m) = outcome (Completed None m.units) (state_after n m)
started (halted k m) = refused_start (refusal 27) m.units

-- "units charged with 23 to 27 on a start or call, else 0": those are refused in a run, and the others before it
unfoldable pub called : State → End → Outcome
called s (ended n m) = outcome (Completed m.returned m.units) (state_after n m)
called s (halted k m) = refused_call (refusal k) m.units s

-- "20: state record unfit: state not below S, unused entry nonzero, or total not the file's"
unfoldable pub unfit : Fields → State → Bool
unfit f s =
    leb f.states s.state
    || any is_true (drop f.variables s.variables)
    || any is_true (drop f.accounts s.balances)
    || Bool.not (eqb (total s) (sum f.opening))

-- A call's refusals before anything is charged: "9: sender not below A (calls).", those of the lent words (`word_tests`), 20, "21:
-- sender's balance below the coins. 22: name known, but not from here." (`elsewhere`). "From 6 on the smaller number goes first, but
-- of 24 to 26 the one met first in running."
unfoldable pub call_tests : Fields → State → Call → (word_tests : List (Bool × ℕ)) (elsewhere : Bool) → List (Bool × ℕ)
call_tests f s k word_tests elsewhere =
    (leb f.accounts k.sender, 9)
    ∷ word_tests
    ++ ((unfit f s, 20)
    ∷ (ltb (get_or s.balances k.sender 0) k.coins, 21)
    ∷ (elsewhere, 22)
    ∷ [])

-- what a run goes by
abbrev pub setting : Fields → (before : ℕ) → Call → Setting
setting f before k = record { limit = f.limit; accounts = f.accounts; states = f.states; before = before; call = k }

module _ (f : Fields) where
  unfoldable pub start_setting : Setting
  start_setting = setting f f.start no_call

  unfoldable pub call_setting : State → Call → Setting
  call_setting s k = setting f s.state k

  -- a start, given how the initial action runs
  unfoldable pub start_by : (Setting → Machine → End) → Outcome
  start_by run = started (run start_setting (entered no_call (opening_state f)))

  -- a call, given its tests and how it runs
  unfoldable pub call_by : (tests : List (Bool × ℕ)) → (Setting → Machine → End) → State → Call → Outcome
  call_by tests run s k =
      given (λ n. refused_call (refusal n) 0 s)
      (λ _. called s (run (call_setting s k) (entered k s)))
      (first_of tests)

module _ (a : Agreement) where
  unfoldable pub run_initial : Setting → Machine → End
  run_initial c m = ends_in a.fields.start (statement c a.initial m)

  -- a transition bears the name; the transition of that name from the state
  unfoldable pub known : (name : ℕ) → Bool
  known n = any (λ (t : Transition). eqb t.name n) a.transitions

  unfoldable pub transition_of : (name state : ℕ) → Option Transition
  transition_of n s = find (λ (t : Transition). eqb t.name n && eqb t.from s) a.transitions

  -- "If no transition bears the name, the fallback action runs and the state stays. Otherwise the transition of that name from
  -- the present state has its guard evaluated, then its action runs, then its 'to' becomes the state."
  unfoldable pub run_by : Option Transition → Setting → Machine → End
  run_by none c m = ends_in c.before (statement c a.fallback m)
  run_by (some t) c m = ends_in t.to ((do guarded c t.guard; statement c t.action) m)

  unfoldable pub start_tree : Outcome
  start_tree = start_by a.fields run_initial

  unfoldable pub call_tree : State → Call → Outcome
  call_tree s k =
      let t = transition_of k.name s.state in
      call_by a.fields (call_tests a.fields s k [] (known k.name && is_none t)) (run_by t) s k

-- the two operations on a file
unfoldable pub start : (file : List ℕ) → Outcome
start file = on_file (λ r. refused_start r 0) start_tree (file_of file)

unfoldable pub call : (file : List ℕ) → State → Call → Outcome
call file s k = on_file (λ r. refused_call r 0 s) (λ a. call_tree a s k) (file_of file)

-- A list of calls from a state record: "each call gets the record that the call before it handed back, refused or not, and nothing
-- else changes it."
unfoldable pub calls_from : (State → Call → Outcome) → State → List Call → List Outcome
calls_from call s [] = []
calls_from call s (k ∷ ks) = let o = call s k in o ∷ calls_from call o.state ks

-- the start's outcome, then the calls'; "Each run begins with its own start's record"
unfoldable pub follow : (State → Call → Outcome) → Outcome → List Call → List Outcome
follow call o ks = o ∷ calls_from call o.state ks

unfoldable pub run_list : (file : List ℕ) → List Call → List Outcome
run_list file = follow (call file) (start file)

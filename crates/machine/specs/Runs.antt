-- A run as the code has it: its result, or why it stopped, and its machine. And what operations ask of a machine.
use Rattle.std.specs.Prelude.{ℕ, ◌+◌, ◌≤◌, ◌<◌, length, Bool, ◌⊎◌, if◌then◌else◌, Result, Ok, Err}
use Rattle.rules.specs.declared.Machine.{Machine}
use Rattle.rules.specs.declared.Refusal.{Refusal}
use Rattle.rules.specs.Accepting.{refusal}
use Rattle.rules.specs.Values.{Value}
use Rattle.rules.specs.Basics.{sum, most32}
use Rattle.rules.specs.Values.{is_true}
use Rattle.rules.specs.Running.{Run, going, returned, stopped, Action, Exec, after, pure, skip, stop}
use Rattle.rules.specs.Running.{or_stop, assign, pay, return_with}
use Rattle.machine.specs.declared.Stop.{Stop}
use Rattle.machine.specs.declared.Stop.TheVariants.{Returned, GuardFalse, GuardFailed, ActionFailed, UnitsUsedUp}

-- a run that stopped, on its last machine
abbrev pub stopped_by : {A : Type 0} → Stop → Machine → Run A
stopped_by Returned m = returned m
stopped_by GuardFalse m = stopped 23 m
stopped_by GuardFailed m = stopped 24 m
stopped_by ActionFailed m = stopped 25 m
stopped_by UnitsUsedUp m = stopped 26 m

-- a run, from its result and its last machine
abbrev pub ran : {A : Type 0} → Result A Stop → Machine → Run A
ran (Ok a) m = going a m
ran (Err e) m = stopped_by e m

-- how a run ended: it completed, by a return or without one, or it met a refusal
abbrev pub ending : {A : Type 0} → Run A → Result (Unit {0}) Refusal
ending (going a m) = Ok tt
ending (returned m) = Ok tt
ending (stopped n m) = Err (refusal n)

-- a run that came to this, on its last machine; of a refusal the number counts, as those that a run meets carry no place
abbrev pub came_to : Result (Unit {0}) Refusal → Machine → Run (Unit {0})
came_to (Ok a) m = going a m
came_to (Err r) m = stopped r.number m

-- what an assignment may name: a variable or a local
abbrev pub Target : ℕ → Type 0
Target t = (t < 16) ⊎ ((256 ≤ t) × (t < 264))

-- all balances and the own balance
unfoldable pub funds : Machine → ℕ
funds m = sum m.balances + m.own

-- all of it fits 32 bits
abbrev pub Solvent : Machine → Type 0
Solvent m = funds m ≤ most32

-- what a run asks of its machine: at most 8 accounts, each with a balance, and a total that fits 32 bits
pub record Funded (accounts : ℕ) (m : Machine) : Type 0 where
  pub few : accounts ≤ 8
  pub room : accounts ≤ length m.balances
  pub solvent : Solvent m

-- What a step does once its expressions have their values: set, transfer, return, require (25, 25) and guard (24, 23), condition.
unfoldable pub assign_value : (target : ℕ) → Value → Action
assign_value t v m = after (or_stop 25 v m) (assign t)

unfoldable pub pay_values : (accounts : ℕ) (account amount : Value) → Action
pay_values accounts k v m = after (or_stop 25 k m) (λ i w. after (or_stop 25 v w) (pay accounts i))

unfoldable pub answer_value : Value → Action
answer_value v m = after (or_stop 25 v m) return_with

unfoldable pub demand_value : (failed untrue : ℕ) → Value → Action
demand_value failed untrue v m = after (or_stop failed v m) (λ x. if is_true x then skip else stop untrue)

unfoldable pub test_value : Value → Exec Bool
test_value v m = after (or_stop 25 v m) (λ x. pure (is_true x))

-- What every run keeps: the sum of all balances and the own balance, and the arrays' lengths. Units never fall, and never pass a limit
-- that they had not passed.
use Rattle.std.specs.Prelude.{Result, Ok, Err}
use mathlib.Core.Path.{◌≡◌, refl, ◌∙◌}
use Prim.Native.Nat.{ℕ, ◌+◌, ◌-◌, ◌≤◌, ◌<◌}
use native.Mathlib.Omega.{arith}
use lib.ListN.{length, length-set}
use lib.Dec.{ltb}
use borrow.Author.Tests.{ltb-true}
use Rattle.rules.specs.declared.Machine.{Machine}
use Rattle.rules.specs.declared.Setting.{Setting}
use Rattle.rules.specs.Syntax.{Expr, Simple, Stmt}
use Rattle.rules.specs.Running.{with_units, Run, charge, perform, condition, statement, guarded}
use Rattle.laws.proofs.Basics.{if-cases, move-total}
use Rattle.laws.proofs.Targets.{Anywhere, any-aimed, any-sound}
use Rattle.runs.proofs.Closure.{goes, either, way_of}
use Rattle.runs.proofs.Ends.{Stepwise, last_of, ends-last, perform-ending, condition-ending, guarded-ending, statement-ending}
use Rattle.machine.specs.declared.Stop.{Stop}
use Rattle.machine.specs.declared.Stop.TheVariants.{Returned, GuardFalse, GuardFailed, ActionFailed, UnitsUsedUp}
use Rattle.machine.specs.Runs.{stopped_by, ran, funds, Solvent, Funded}

-- from m to w, at a limit
pub record Kept (limit : ℕ) (m w : Machine) : Type 0 where
  pub total : funds w ≡ funds m
  pub variables : length w.variables ≡ length m.variables
  pub locals : length w.locals ≡ length m.locals
  pub balances : length w.balances ≡ length m.balances
  pub units : m.units ≤ w.units
  pub within : m.units ≤ limit → w.units ≤ limit

-- to a run's last machine
abbrev pub Keeps : {A : Type 0} → ℕ → Machine → Run A → Type 0
Keeps l m r = Kept l m (last_of r)

-- as the code has it
last_stopped : (A : Type 0) (e : Stop) (w : Machine) → last_of (stopped_by {A = A} e w) ≡ w
last_stopped A Returned w = refl
last_stopped A GuardFalse w = refl
last_stopped A GuardFailed w = refl
last_stopped A ActionFailed w = refl
last_stopped A UnitsUsedUp w = refl

last_ran : {A : Type 0} (r : Result A Stop) (w : Machine) → last_of (ran r w) ≡ w
last_ran (Ok a) w = refl
last_ran {A} (Err e) w = last_stopped A e w

pub ran-keeps : {A : Type 0} {l : ℕ} {m w : Machine} (r : Result A Stop) (x : Run A) → ran r w ≡ x → Keeps l m x → Kept l m w
ran-keeps {w = w} r x is k = rw (← last_ran r w, is) k

pub still-solvent : {l : ℕ} {m w : Machine} → Kept l m w → Solvent m → Solvent w
still-solvent k h = omega (arith, k.total)

pub still-funded : {l a : ℕ} {m w : Machine} → Kept l m w → Funded a m → Funded a w
still-funded k h = record { few = h.few; room = omega (arith, k.balances, h.room); solvent = still-solvent k h.solvent }

-- with the same units
kept_free : (l : ℕ) (m w : Machine) → funds w ≡ funds m → length w.variables ≡ length m.variables
    → length w.locals ≡ length m.locals → length w.balances ≡ length m.balances → w.units ≡ m.units → Kept l m w
kept_free l m w t v o b e = record { total = t; variables = v; locals = o; balances = b; units = omega arith; within = λ h. omega arith }

pub kept_same : (l : ℕ) (m : Machine) → Kept l m m
kept_same l m = kept_free l m m refl refl refl refl refl

pub kept_on : {l : ℕ} {m w v : Machine} → Kept l m w → Kept l w v → Kept l m v
kept_on h k =
    record {
      total = k.total ∙ h.total;
      variables = k.variables ∙ h.variables;
      locals = k.locals ∙ h.locals;
      balances = k.balances ∙ h.balances;
      units = omega (arith, h.units, k.units);
      within = λ b. k.within (h.within b);
    }

-- a unit that was left
one-unit : (l : ℕ) (m : Machine) → m.units < l → Kept l m (with_units (m.units + 1) m)
unfolding funds
one-unit l m h = record { total = refl; variables = refl; locals = refl; balances = refl; units = omega arith; within = λ _. omega arith }

pub charge-keeps : (l : ℕ) (m : Machine) → Keeps l m (charge l m)
unfolding charge
charge-keeps l m = if-cases (Keeps l m) (ltb m.units l) (λ e. one-unit l m (ltb-true m.units l e)) (λ _. kept_same l m)

-- An account's place is there: what paying asks, and every run keeps.
abbrev pub Room : ℕ → Machine → Type 0
Room accounts m = accounts ≤ length m.balances

module _ (c : Setting) where
  abbrev Keep : (k : ℕ) (m w : Machine) → Type 0
  Keep k m w = Room c.accounts m → Kept c.limit m w

  keep : Stepwise c Anywhere Keep
  unfolding funds
  keep = record {
    stays = λ m _. kept_same c.limit m;
    joins = λ k m v w f g q. kept_on (f q) (g (omega (arith, (f q).balances, q)));
    fewer = λ k m w f. f;
    unit = λ m l _. one-unit c.limit m l;
    variable = λ m t x _ _ _. kept_free _ m _ refl (length-set m.variables t x) refl refl refl;
    local = λ m t x _. kept_free _ m _ refl refl (length-set m.locals (t - 256) x) refl refl;
    payment = λ m k x l e q.
        kept_free _ m _ (move-total m.balances m.own k _ _ (omega arith) (omega arith)) refl refl (length-set m.balances k _) refl;
    answer = λ m x _. kept_free _ m _ refl refl refl refl refl;
  }

  pub perform-keeps : (x : Simple) (m : Machine) → Room c.accounts m → Keeps c.limit m (perform c x m)
  perform-keeps x m = ends-last keep 1 (way_of x) m _ (perform-ending keep x (any-aimed x) m)

  pub condition-keeps : (e : Expr) (m : Machine) → Room c.accounts m → Keeps c.limit m (condition c e m)
  condition-keeps e m = ends-last keep 1 goes m _ (condition-ending keep e m)

  pub guarded-keeps : (e : Expr) (m : Machine) → Room c.accounts m → Keeps c.limit m (guarded c e m)
  guarded-keeps e m = ends-last keep 1 goes m _ (guarded-ending keep e m)

  pub statement-keeps : (s : Stmt) (m : Machine) → Room c.accounts m → Keeps c.limit m (statement c s m)
  statement-keeps s m = ends-last keep 0 either m _ (statement-ending keep s (any-sound s) m)

-- What an action charges, and whether it goes on or returns.
use Prim.Native.Nat.{ℕ, ◌+◌, ◌-◌, ◌≤◌}
use native.Mathlib.Omega.{arith}
use Rattle.rules.specs.declared.Machine.{Machine}
use Rattle.rules.specs.declared.Setting.{Setting}
use Rattle.rules.specs.Syntax.{Expr, Simple, Stmt}
use Rattle.rules.specs.Running.{Run, Exec, ◌>>=◌, perform, condition, statement, guarded}
use Rattle.laws.proofs.Targets.{Anywhere, any-aimed, any-sound}
pub use Rattle.runs.proofs.Closure.{Way, goes, returns, either, MayGo, MayReturn, way_of}
use Rattle.runs.proofs.Ends.{Stepwise, Ends, ends-after, ends-either, perform-ending, condition-ending, guarded-ending, statement-ending}

module _ (c : Setting) where
  abbrev pub limit : ℕ
  limit = c.limit

  -- v comes k units or more after m, and those were left
  abbrev pub Later : (k : ℕ) (m v : Machine) → Type 0
  Later k m v = (m.units + k ≤ v.units) × (k ≤ limit - m.units)

  -- a run from m ends in such a way, k units later or more, unless it is refused
  abbrev pub Costs : {A : Type 0} → (k : ℕ) → Way → Machine → Run A → Type 0
  Costs = Ends Later

  later : Stepwise c Anywhere Later
  later = record {
    stays = λ m. omega arith;
    joins = λ k m v w h g. omega arith;
    fewer = λ k m w h. omega arith;
    unit = λ m l. omega arith;
    variable = λ m t x _ l. omega arith;
    local = λ m t x. omega arith;
    payment = λ m k x l e. omega arith;
    answer = λ m x. omega arith;
  }

  pub perform-costs : (x : Simple) (m : Machine) → Costs 1 (way_of x) m (perform c x m)
  perform-costs x = perform-ending later x (any-aimed x)

  pub condition-costs : (e : Expr) (m : Machine) → Costs 1 goes m (condition c e m)
  condition-costs = condition-ending later

  pub guarded-costs : (e : Expr) (m : Machine) → Costs 1 goes m (guarded c e m)
  guarded-costs = guarded-ending later

  -- the units never fall
  abbrev pub Grows : {A : Type 0} → Exec A → Type 0
  Grows f = (m : Machine) → Costs 0 either m (f m)

  pub then_grows : {A B : Type 0} (f : Exec A) (g : A → Exec B) → Grows f → ((a : A) → Grows (g a)) → Grows (f >>= g)
  then_grows f g hf hg m = ends-after later 0 either either m (f m) g (λ x. x) (hf m) hg

  pub perform-grows : (x : Simple) → Grows (perform c x)
  perform-grows x m = ends-either later 1 (way_of x) m (perform c x m) (perform-costs x m)

  pub statement-grows : (s : Stmt) → Grows (statement c s)
  statement-grows s = statement-ending later s (any-sound s)

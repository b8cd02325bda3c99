-- Statements of one step, conditions and guards, from the charge and the values of their expressions.
use Rattle.std.proofs.Common.{◌≡◌, ℕ, refl}
use Rattle.std.specs.Prelude.{Some, None}
use Rattle.rules.specs.declared.Machine.{Machine}
use Rattle.rules.specs.declared.Setting.{Setting}
use Rattle.rules.specs.Syntax.{Expr, Simple, set, transfer, require, return}
use Rattle.rules.specs.Values.{Value, evaluate}
use Rattle.rules.specs.Running.{going, after, or_stop, view, value, charge, pay, perform, condition, guarded}
use Rattle.machine.specs.declared.Stop.{Stop}
use Rattle.machine.specs.Runs.{stopped_by, assign_value, pay_values, answer_value, demand_value, test_value}
use Rattle.machine.proofs.Runs.{after_stop}

-- The charge went through and left w.
module _ (c : Setting) (m : Machine) {w : Machine} (charged : charge c.limit m ≡ going tt w) where
  pub perform-set : (t : ℕ) (e : Expr) (v : Value) → v ≡ evaluate (view c w) e → perform c (set t e) m ≡ assign_value t v w
  unfolding perform value assign_value
  perform-set t e v h = rw (charged, h)

  pub perform-transfer : (k e : Expr) (i v : Value) → i ≡ evaluate (view c w) k → v ≡ evaluate (view c w) e
      → perform c (transfer k e) m ≡ pay_values c.accounts i v w
  unfolding perform value pay_values or_stop
  perform-transfer k e i v g h = rw (charged, g, h) (go (evaluate (view c w) k))
    where
      go : (u : Value) →
          after (or_stop 25 u w) (λ i n. after (or_stop 25 (evaluate (view c n) e) n) (pay c.accounts i))
          ≡ after (or_stop 25 u w) (λ i n. after (or_stop 25 (evaluate (view c w) e) n) (pay c.accounts i))
      go (Some x) = refl
      go None = refl

  pub perform-require : (e : Expr) (v : Value) → v ≡ evaluate (view c w) e → perform c (require e) m ≡ demand_value 25 25 v w
  unfolding perform value demand_value
  perform-require e v h = rw (charged, h)

  pub perform-return : (e : Expr) (v : Value) → v ≡ evaluate (view c w) e → perform c (return e) m ≡ answer_value v w
  unfolding perform value answer_value
  perform-return e v h = rw (charged, h)

  pub condition-tests : (e : Expr) (v : Value) → v ≡ evaluate (view c w) e → condition c e m ≡ test_value v w
  unfolding condition value test_value
  condition-tests e v h = rw (charged, h)

  pub guarded-demands : (e : Expr) (v : Value) → v ≡ evaluate (view c w) e → guarded c e m ≡ demand_value 24 23 v w
  unfolding guarded value demand_value
  guarded-demands e v h = rw (charged, h)

-- The charge was refused, which ends the run.
module _ (c : Setting) (m : Machine) (e : Stop) (w : Machine) (refused : charge c.limit m ≡ stopped_by e w) where
  pub perform-ends : (x : Simple) → perform c x m ≡ stopped_by e w
  unfolding perform
  perform-ends (set t x) = rw (refused, after_stop)
  perform-ends (transfer k x) = rw (refused, after_stop)
  perform-ends (require x) = rw (refused, after_stop)
  perform-ends (return x) = rw (refused, after_stop)

  pub guarded-ends : (x : Expr) → guarded c x m ≡ stopped_by e w
  unfolding guarded
  guarded-ends x = rw (refused, after_stop)

  pub condition-ends : (x : Expr) → condition c x m ≡ stopped_by e w
  unfolding condition
  condition-ends x = rw (refused, after_stop)

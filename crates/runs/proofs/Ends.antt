-- One run, by the steps from its first machine to its last (`Stepwise`), and how it ends (`Ends`).
use mathlib.Core.Path.{refl}
use Prim.Native.Nat.{ℕ, ◌+◌, ◌-◌, ◌≤◌, ◌<◌}
use mathlib.Core.Bool.{◌&&◌}
use lib.Dec.{ltb, leb}
use lib.ListN.{get_or, set}
use borrow.Author.Tests.{ltb-true, leb-true}
use Rattle.std.specs.Prelude.{Some, None}
use Rattle.rules.specs.declared.Machine.{Machine}
use Rattle.rules.specs.declared.Setting.{Setting}
use Rattle.rules.specs.Syntax.{Expr, Simple, Stmt}
use Rattle.rules.specs.Values.{Value, evaluate}
use Rattle.rules.specs.Running.{with_variables, with_locals, with_funds, with_units, with_returned, Run, going, returned, stopped, Exec, after, ◌>>◌}
use Rattle.rules.specs.Running.{or_stop, view, charge, assign, pay, value, return_with, perform, condition, statement, guarded}
use Rattle.laws.proofs.Basics.{both-true, if-cases}
use Rattle.laws.proofs.Targets.{Aimed, Sound}
use Rattle.runs.proofs.Closure.{Way, MayGo, MayReturn, goes, either, way_of, Relation, Closed, Primitives}
use Rattle.runs.proofs.Closure.{perform-related, condition-related, guarded-related, statement-related, transition-related}

-- Q k m w: from m to w, where k units or more are charged. Runs are made of such steps, with assignments to targets of T.
pub record Stepwise (c : Setting) (T : ℕ → Type 0) (Q : ℕ → Machine → Machine → Type 0) : Type 0 where
  pub stays : (m : Machine) → Q 0 m m
  pub joins : (k : ℕ) (m v w : Machine) → Q k m v → Q 0 v w → Q k m w
  pub fewer : (k : ℕ) (m w : Machine) → Q k m w → Q 0 m w
  pub unit : (m : Machine) → m.units < c.limit → Q 1 m (with_units (m.units + 1) m)
  pub variable : (m : Machine) (t x : ℕ) → T t → t < 256 → Q 0 m (with_variables (set m.variables t x) m)
  pub local : (m : Machine) (t x : ℕ) → Q 0 m (with_locals (set m.locals (t - 256) x) m)
  pub payment : (m : Machine) (k x : ℕ) → k < c.accounts → x ≤ m.own
      → Q 0 m (with_funds (set m.balances k (get_or m.balances k 0 + x)) (m.own - x) m)
  pub answer : (m : Machine) (x : ℕ) → Q 0 m (with_returned (Some x) m)

-- the machine that a run ends with
abbrev pub last_of : {A : Type 0} → Run A → Machine
last_of (going a m) = m
last_of (returned m) = m
last_of (stopped i m) = m

module _ (Q : ℕ → Machine → Machine → Type 0) where
  -- a run from m ends in such a way; a refusal may come before the units are charged
  abbrev pub Ends : {A : Type 0} → (units : ℕ) → Way → Machine → Run A → Type 0
  Ends k w m (going a v) = MayGo w × Q k m v
  Ends k w m (returned v) = MayReturn w × Q k m v
  Ends k w m (stopped i v) = Q 0 m v

  -- the first of two runs
  abbrev Ending : Relation
  Ending A k w x y = (m : Machine) → Ends k w m (x m)

module _ {c : Setting} {T : ℕ → Type 0} {Q : ℕ → Machine → Machine → Type 0} (q : Stepwise c T Q) where
  ends-on : {A : Type 0} (k : ℕ) (w : Way) (m v : Machine) (r : Run A) → Q k m v → Ends Q 0 w v r → Ends Q k w m r
  ends-on k w m v (going a u) h e = (e.0, q.joins k m v u h e.1)
  ends-on k w m v (returned u) h e = (e.0, q.joins k m v u h e.1)
  ends-on k w m v (stopped i u) h e = q.fewer k m u (q.joins k m v u h e)

  pub ends-after : {A B : Type 0} (k : ℕ) (u w : Way) (m : Machine) (r : Run A) (f : A → Exec B) → (MayReturn u → MayReturn w)
      → Ends Q k u m r → ((a : A) (v : Machine) → Ends Q 0 w v (f a v)) → Ends Q k w m (after r f)
  ends-after k u w m (going a v) f t h g = ends-on k w m v (f a v) h.1 (g a v)
  ends-after k u w m (returned v) f t h g = (t h.0, h.1)
  ends-after k u w m (stopped i v) f t h g = h

  pub ends-either : {A : Type 0} (k : ℕ) (w : Way) (m : Machine) (r : Run A) → Ends Q k w m r → Ends Q 0 either m r
  ends-either k w m (going a v) h = (tt, q.fewer k m v h.1)
  ends-either k w m (returned v) h = (tt, q.fewer k m v h.1)
  ends-either k w m (stopped i v) h = h

  pub ends-last : {A : Type 0} (k : ℕ) (w : Way) (m : Machine) (r : Run A) → Ends Q k w m r → Q 0 m (last_of r)
  ends-last k w m (going a v) h = q.fewer k m v h.1
  ends-last k w m (returned v) h = q.fewer k m v h.1
  ends-last k w m (stopped i v) h = h

  closed : Closed (Ending Q)
  closed = record {
    binds = λ {k = k} {u = u} {w = w} {x = x} f g t h n m. ends-after k u w m (x m) f t (h m) n;
    pures = λ a m. (tt, q.stays m);
    stops = λ w i m. q.stays m;
    weakens = λ {k = k} w {x = x} h m. ends-either k w m (x m) (h m);
  }

  primitives : Primitives c c T (Ending Q)
  unfolding charge value or_stop assign pay return_with
  primitives = record {
    limits = refl;
    charges = λ m. if-cases (Ends Q 1 goes m) (ltb m.units c.limit) (λ e. (tt, q.unit m (ltb-true _ _ e))) (λ _. q.stays m);
    values = λ i e m. valued i m (evaluate (view c m) e);
    assigns = λ t x a m. (tt, if-cases (Q 0 m) (ltb t 256) (λ e. q.variable m t x a (ltb-true t 256 e)) (λ _. q.local m t x));
    pays = λ k x m. if-cases (Ends Q 0 goes m) (ltb k c.accounts && leb x m.own)
        (λ e. let b = both-true _ _ e in (tt, q.payment m k x (ltb-true k _ b.0) (leb-true x _ b.1))) (λ _. q.stays m);
    answers = λ x m. (tt, q.answer m x);
  }
    where
      valued : (i : ℕ) (m : Machine) (v : Value) → Ends Q 0 goes m (or_stop i v m)
      valued i m None = q.stays m
      valued i m (Some x) = (tt, q.stays m)

  -- ---- so of each action

  pub perform-ending : (x : Simple) → Aimed T x → (m : Machine) → Ends Q 1 (way_of x) m (perform c x m)
  perform-ending = perform-related closed primitives

  pub condition-ending : (e : Expr) (m : Machine) → Ends Q 1 goes m (condition c e m)
  condition-ending = condition-related closed primitives

  pub guarded-ending : (e : Expr) (m : Machine) → Ends Q 1 goes m (guarded c e m)
  guarded-ending = guarded-related closed primitives

  pub statement-ending : (s : Stmt) → Sound T s → (m : Machine) → Ends Q 0 either m (statement c s m)
  statement-ending = statement-related closed primitives

  pub transition-ending : (e : Expr) (s : Stmt) → Sound T s → (m : Machine) → Ends Q 0 either m ((guarded c e >> statement c s) m)
  transition-ending = transition-related closed primitives

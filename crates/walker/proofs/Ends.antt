-- What a step does to a run, and how a run goes on after it.
use Rattle.std.specs.Prelude.{if◌then◌else◌}
use Prim.Native.Nat.{ℕ, ◌≤◌, ◌<◌}
use mathlib.Core.Path.{◌≡◌, sym, subst}
use mathlib.Core.Bool.{Bool}
use mathlib.Core.List.{List}
use mathlib.Core.Option.{Option, none, some}
use native.Mathlib.Omega.{arith}
use lib.Dec.{eqb, leb}
use borrow.Author.Tests.{le-leb, lt-leb, ne_eqb}
use Rattle.rules.specs.declared.Machine.{Machine}
use Rattle.rules.specs.Basics.{choose}
use Rattle.rules.specs.Syntax.{Expr, Simple}
use Rattle.rules.specs.Expanding.{Step}
use Rattle.rules.specs.declared.Setting.{Setting}
use Rattle.rules.specs.Running.{Run, going, returned, stopped, perform, condition, guarded}
use Rattle.rules.specs.Calling.{End, ended, halted, leads}
use Rattle.rules.specs.Stepping.{Records, leaving, step_from, target_in, with, onward, admitted, decided, performed, advance, taken, walk, walk_from}
use Rattle.machine.specs.declared.Stop.{Stop}
use Rattle.machine.specs.declared.Stop.TheVariants.{Returned, GuardFalse, GuardFailed, ActionFailed, UnitsUsedUp}
use Rattle.machine.specs.Runs.{stopped_by}
use Rattle.machine.proofs.Keeping.{Kept, Keeps, kept_same, Room, perform-keeps, condition-keeps}
use Rattle.laws.proofs.Basics.{if-all}
use Rattle.forms.proofs.Units.{Way, goes, Later, Costs, way_of, perform-costs, condition-costs}
use Rattle.forms.proofs.Endings.{walk_more}
use Rattle.walker.specs.Runs.{run_of}

-- ---- ends as the code has them

-- a run that stopped is no run that goes on, and its end is no node
pub not_going : {A : Type 0} (e : Stop) (m : Machine) {a : A} {w : Machine} → stopped_by e m ≡ going a w → ⊥
not_going Returned m h = cc
not_going GuardFalse m h = cc
not_going GuardFailed m h = cc
not_going ActionFailed m h = cc
not_going UnitsUsedUp m h = cc

pub reached-goes : (x : End) {n : ℕ} {m : Machine} → going n m ≡ run_of x → x ≡ ended n m
reached-goes (ended n m) h = cc
reached-goes (halted k m) h = cc

pub reached-stops : (x : End) (e : Stop) (w : Machine) (g : ℕ → Machine → End) → stopped_by e w ≡ run_of x → stopped_by e w ≡ run_of (onward g x)
unfolding onward
reached-stops (ended n m) e w g h = absurd (not_going e w h)
reached-stops (halted k m) e w g h = h

module _ (c : Setting) where
  -- a run that goes on or is refused, and stopped so, is refused so
  pub stops-so : {A : Type 0} (m : Machine) (x : Run A) (e : Stop) (w : Machine) (d : A → ℕ) (t : ℕ) → Costs c 1 goes m x → stopped_by e w ≡ x
      → stopped_by e w ≡ run_of (leads d t x)
  unfolding leads
  stops-so m (going a v) e w d t k h = absurd (not_going e w h)
  stops-so m (returned v) e w d t k h = absurd k.0
  stops-so {A} m (stopped i v) e w d t k h = refused e h
    where
      refused : (e : Stop) → stopped_by {A = A} e w ≡ stopped i v → stopped_by {A = ℕ} e w ≡ stopped i v
      refused Returned h = cc
      refused GuardFalse h = cc
      refused GuardFailed h = cc
      refused ActionFailed h = cc
      refused UnitsUsedUp h = cc

  -- ---- one step

  abbrev limit : ℕ
  limit = c.limit

  -- a step that ends at a node charges a unit
  abbrev Charged : Machine → End → Type 0
  Charged m (ended n v) = Later c 1 m v
  Charged m (halted k v) = Unit {0}

  -- the machine that a step hands on
  abbrev Keeping : Machine → End → Type 0
  Keeping m (ended n v) = Kept limit m v
  Keeping m (halted k v) = Kept limit m v

  leads-charged : {A : Type 0} (w : Way) (m : Machine) (d : A → ℕ) (t : ℕ) (x : Run A) → Costs c 1 w m x → Charged m (leads d t x)
  unfolding leads
  leads-charged w m d t (going a v) h = h.1
  leads-charged w m d t (returned v) h = h.1
  leads-charged w m d t (stopped i v) h = tt

  leads-keeping : {A : Type 0} (m : Machine) (d : A → ℕ) (t : ℕ) (x : Run A) → Keeps limit m x → Keeping m (leads d t x)
  unfolding leads
  leads-keeping m d t (going a v) h = h
  leads-keeping m d t (returned v) h = h
  leads-keeping m d t (stopped i v) h = h

  module _ (records : Records) (steps : List Step) where
    -- what holds of a condition, of a statement and of a refusal holds of a step
    step-all : (P : End → Type 0) (s : Step) (m : Machine) → P (halted 25 m)
        → ((e : Expr) (d : Bool → ℕ) (t : ℕ) → P (leads d t (condition c e m))) → ((x : Simple) (t : ℕ) → P (leads (λ _. t) t (perform c x m)))
        → P (advance records steps c s m)
    unfolding advance choose decided performed with leads
    step-all P s m h cond act =
        if-all Q (leb 4 k) performs (if-all Q (eqb k 2) decides (if-all Q (eqb k 3) decides h))
      where
        k : ℕ
        k = s.kind

        Q : (Machine → End) → Type 0
        Q x = P (x m)

        d : Bool → ℕ
        d b = target_in (step_from steps s.origin (if b then 2 else 3))

        decides : P (decided records steps c s m)
        decides = go (records.expr s.at)
          where
            go : (o : Option Expr) → P (leads d s.target (with (condition c) o m))
            go none = h
            go (some e) = cond e d s.target

        performs : P (performed records steps c s m)
        performs = go (records.simple s.at)
          where
            go : (o : Option Simple) → P (leads (λ _. s.target) s.target (with (perform c) o m))
            go none = h
            go (some x) = act x s.target

    step-charged : (s : Step) (m : Machine) → Charged m (advance records steps c s m)
    step-charged s m =
        step-all (Charged m) s m tt (λ e d t. leads-charged goes m d t _ (condition-costs c e m)) (λ x t. leads-charged (way_of x) m _ t _ (perform-costs c x m))

    step-keeping : (s : Step) (m : Machine) → Room c.accounts m → Keeping m (advance records steps c s m)
    step-keeping s m q =
        step-all (Keeping m) s m (kept_same limit m) (λ e d t. leads-keeping m d t _ (condition-keeps c e m q)) (λ x t. leads-keeping m _ t _ (perform-keeps c x m q))

    -- the same where the step leads on
    pub step_keeps : (s : Step) (m : Machine) {n : ℕ} {w : Machine} → Room c.accounts m → going n w ≡ run_of (advance records steps c s m) → Kept limit m w
    step_keeps s m q e = subst (Keeping m) (reached-goes _ e) (step-keeping s m q)

    pub step-costs : (s : Step) (m : Machine) {n : ℕ} {w : Machine} → going n w ≡ run_of (advance records steps c s m) → (m.units < limit) × (m.units < w.units)
    step-costs s m e =
        let k = subst (Charged m) (reached-goes _ e) (step-charged s m) in
        (omega (arith, k.1), omega (arith, k.0))

    -- ---- a step by its kind

    pub step-decides : (s : Step) (m : Machine) → s.kind ≡ 2 → advance records steps c s m ≡ decided records steps c s m
    unfolding advance choose
    step-decides s m h = rw (lt-leb 4 s.kind (omega (arith, h)), h)

    pub step-performs : (s : Step) (m : Machine) → 4 ≤ s.kind → advance records steps c s m ≡ performed records steps c s m
    unfolding advance
    step-performs s m l = rw (le-leb 4 s.kind l)

    pub step_other : (s : Step) (m : Machine) → (s.kind ≡ 2 → ⊥) → (s.kind ≡ 3 → ⊥) → s.kind < 4 → advance records steps c s m ≡ halted 25 m
    unfolding advance choose
    step_other s m b d l = rw (lt-leb 4 s.kind l, ne_eqb _ _ b, ne_eqb _ _ d)

    pub decided-is : (s : Step) (m : Machine) (e : Expr) → records.expr s.at ≡ some e
        → decided records steps c s m ≡ leads (λ b. target_in (step_from steps s.origin (if b then 2 else 3))) s.target (condition c e m)
    unfolding decided with
    decided-is s m e h = rw h

    pub performed-is : (s : Step) (m : Machine) (x : Simple) → records.simple s.at ≡ some x
        → performed records steps c s m ≡ leads (λ _. s.target) s.target (perform c x m)
    unfolding performed with
    performed-is s m x h = rw h

    pub admitted-is : (s : Step) (m : Machine) (e : Expr) → records.expr s.at ≡ some e
        → admitted records steps c s m ≡ leads (λ _. s.target) s.target (guarded c e m)
    unfolding admitted with
    admitted-is s m e h = rw h

    -- ---- a run

    pub walk_ends : (n : ℕ) (m : Machine) → n ≤ c.states → walk_from records steps c n m ≡ ended n m
    unfolding walk_from walk
    walk_ends n m h = rw (le-leb n c.states h)

    pub walk_refused : (n : ℕ) (m : Machine) → c.states < n → leaving steps n ≡ none → walk_from records steps c n m ≡ halted 25 m
    unfolding walk_from walk taken
    walk_refused n m h e = rw (lt-leb n c.states h, e)

    pub walk-stops : (n : ℕ) (m : Machine) (s : Step) (e : Stop) (w : Machine) → c.states < n → leaving steps n ≡ some s
        → stopped_by e w ≡ run_of (advance records steps c s m) → stopped_by e w ≡ run_of (walk_from records steps c n m)
    unfolding walk_from walk taken
    walk-stops n m s e w h l i = rw (lt-leb n c.states h, l) (reached-stops _ e w _ i)

    -- it goes on as one from the node that a step leads to
    pub walk-goes : (n : ℕ) (m : Machine) (s : Step) → c.states < n → leaving steps n ≡ some s → (k : ℕ) (w : Machine)
        → going k w ≡ run_of (advance records steps c s m) → walk_from records steps c n m ≡ walk_from records steps c k w
    unfolding walk_from walk taken onward
    walk-goes n m s h e k w i =
        let u = step-costs s m i in
        rw (lt-leb n c.states h, e, reached-goes _ i) (sym (walk_more c records steps limit k w (omega arith) (omega arith)))

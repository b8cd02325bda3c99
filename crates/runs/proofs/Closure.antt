-- One induction over actions. A relation between two runs of one action, each in its own setting, that the primitives have (`Primitives`)
-- and that a whole has where its parts have it (`Closed`), all actions have: `statement-related` and what stands with it.
use mathlib.Core.Path.{◌≡◌, subst}
use Prim.Native.Nat.{ℕ, zero, suc}
use mathlib.Core.Bool.{Bool}
use Rattle.std.specs.Prelude.{if◌then◌else◌}
use Rattle.rules.specs.declared.Setting.{Setting}
use Rattle.rules.specs.Syntax.{Expr, Simple, set, transfer, require, return}
use Rattle.rules.specs.Syntax.{Stmt, simple, block, if_then, if_else, while, for, Stmts, last, ◌then◌}
use Rattle.rules.specs.Values.{is_true}
use Rattle.rules.specs.Running.{Exec, Action, ◌>>=◌, ◌>>◌, pure, skip, stop, charge, value, assign, pay, return_with}
use Rattle.rules.specs.Running.{perform, condition, loop, repeat, statement, statements, guarded}
use Rattle.laws.proofs.Basics.{if-by}
use Rattle.laws.proofs.Targets.{Aimed, Sound, Sounds}

-- how an action may end, if it is not refused: it goes on, it returns, or either
pub data Way : Type 0 where
  goes returns either : Way

abbrev pub MayGo : Way → Type 0
MayGo goes = Unit {0}
MayGo returns = ⊥
MayGo either = Unit {0}

abbrev pub MayReturn : Way → Type 0
MayReturn goes = ⊥
MayReturn returns = Unit {0}
MayReturn either = Unit {0}

-- how a one-step statement may end
abbrev pub way_of : Simple → Way
way_of (set t e) = goes
way_of (transfer k e) = goes
way_of (require e) = goes
way_of (return e) = returns

-- Between two actions that charge so many units or more, unless they are refused, and end in such a way. One that speaks of a single
-- run leaves out the second.
abbrev pub Relation : Type 1
Relation = (A : Type 0) (units : ℕ) → Way → Exec A → Exec A → Type 0

-- a whole has it where its parts have it
pub record Closed (K : Relation) : Type 1 where
  pub binds : {A B : Type 0} {k : ℕ} {u w : Way} {x y : Exec A} (f g : A → Exec B) → (MayReturn u → MayReturn w)
      → K A k u x y → ((a : A) → K B 0 w (f a) (g a)) → K B k w (x >>= f) (y >>= g)
  pub pures : {A : Type 0} (a : A) → K A 0 goes (pure a) (pure a)
  pub stops : {A : Type 0} (w : Way) (number : ℕ) → K A 0 w (stop number) (stop number)
  pub weakens : {A : Type 0} {k : ℕ} (w : Way) {x y : Exec A} → K A k w x y → K A 0 either x y

-- the primitives have it, in settings c and d; assignments to the targets of T
pub record Primitives (c d : Setting) (T : ℕ → Type 0) (K : Relation) : Type 0 where
  pub limits : c.limit ≡ d.limit
  pub charges : K _ 1 goes (charge c.limit) (charge d.limit)
  pub values : (number : ℕ) (e : Expr) → K _ 0 goes (value c number e) (value d number e)
  pub assigns : (t x : ℕ) → T t → K _ 0 goes (assign t x) (assign t x)
  pub pays : (k x : ℕ) → K _ 0 goes (pay c.accounts k x) (pay d.accounts k x)
  pub answers : (x : ℕ) → K _ 0 returns (return_with x) (return_with x)

module _ {c d : Setting} {T : ℕ → Type 0} {K : Relation} (closed : Closed K) (primitives : Primitives c d T K) where
  -- an expression, and a unit before it; then what is done with its value
  valued : {A : Type 0} {w : Way} (number : ℕ) (e : Expr) (f g : ℕ → Exec A) → ((x : ℕ) → K _ 0 w (f x) (g x))
      → K _ 0 w (value c number e >>= f) (value d number e >>= g)
  valued number e f g h = closed.binds f g absurd (primitives.values number e) h

  charged : {A : Type 0} {w : Way} (number : ℕ) (e : Expr) (f g : ℕ → Exec A) → ((x : ℕ) → K _ 0 w (f x) (g x))
      → K _ 1 w (charge c.limit >> (value c number e >>= f)) (charge d.limit >> (value d number e >>= g))
  charged number e f g h = closed.binds _ _ absurd primitives.charges λ _. valued number e f g h

  -- of a require and of a guard
  checked : (number : ℕ) (b : Bool) → K _ 0 goes (if b then skip else stop number) (if b then skip else stop number)
  checked number b = if-by (K _ 0 goes) b (closed.pures tt) (closed.stops goes number)

  pub perform-related : (x : Simple) → Aimed T x → K _ 1 (way_of x) (perform c x) (perform d x)
  unfolding perform
  perform-related (set t e) q = charged 25 e _ _ λ x. primitives.assigns t x q
  perform-related (transfer k e) q = charged 25 k _ _ λ i. valued 25 e _ _ λ x. primitives.pays i x
  perform-related (require e) q = charged 25 e _ _ λ x. checked 25 (is_true x)
  perform-related (return e) q = charged 25 e _ _ λ x. primitives.answers x

  pub condition-related : (e : Expr) → K _ 1 goes (condition c e) (condition d e)
  unfolding condition
  condition-related e = charged 25 e _ _ λ x. closed.pures (is_true x)

  pub guarded-related : (e : Expr) → K _ 1 goes (guarded c e) (guarded d e)
  unfolding guarded
  guarded-related e = charged 24 e _ _ λ x. checked 23 (is_true x)

  -- one action and then another
  sequence : {x y f g : Action} {k : ℕ} (w : Way) → K _ k w x y → K _ 0 either f g → K _ 0 either (x >> f) (y >> g)
  sequence w h k = closed.binds _ _ (λ r. r) (closed.weakens w h) λ _. k

  -- a condition, and then what it names
  branch : (e : Expr) {x y f g : Action} → K _ 0 either x y → K _ 0 either f g
      → K _ 0 either (condition c e >>= λ b. if b then x else f) (condition d e >>= λ b. if b then y else g)
  branch e h k = closed.binds _ _ (λ r. r) (closed.weakens goes (condition-related e)) λ b. if-by (K _ 0 either) b h k

  skips : K _ 0 either skip skip
  skips = closed.weakens goes (closed.pures tt)

  loop-related : (n : ℕ) (e : Expr) {x y : Action} → K _ 0 either x y → K _ 0 either (loop c n (condition c e) x) (loop d n (condition d e) y)
  unfolding loop
  loop-related zero e h = closed.stops either 26
  loop-related (suc n) e h = branch e (sequence either h (loop-related n e h)) skips

  repeat-related : (e : Expr) {x y : Action} → K _ 0 either x y → K _ 0 either (repeat c (condition c e) x) (repeat d (condition d e) y)
  unfolding repeat
  repeat-related e {x} {y} h =
      subst (λ (l : ℕ). K _ 0 either (repeat c (condition c e) x) (loop d (suc l) (condition d e) y)) primitives.limits (loop-related _ e h)

  mutual
    unfolding statement

    pub statement-related : (s : Stmt) → Sound T s → K _ 0 either (statement c s) (statement d s)
    statement-related (simple at x) q = closed.weakens (way_of x) (perform-related x q)
    statement-related (block ss) q = statements-related ss q
    statement-related (if_then at e s) q = branch e (statement-related s q.1) skips
    statement-related (if_else at e s t) q = branch e (statement-related s q.1) (statement-related t q.2)
    statement-related (while at e s) q = repeat-related e (statement-related s q.1)
    statement-related (for i x at e k y s) q =
        sequence (way_of x) (perform-related x q.0)
        (repeat-related e (sequence either (statement-related s q.3) (closed.weakens (way_of y) (perform-related y q.2))))

    statements-related : (ss : Stmts) → Sounds T ss → K _ 0 either (statements c ss) (statements d ss)
    statements-related (last s) q = statement-related s q
    statements-related (s then ss) q = sequence either (statement-related s q.0) (statements-related ss q.1)

  -- a guard and then an action
  pub transition-related : (e : Expr) (s : Stmt) → Sound T s → K _ 0 either (guarded c e >> statement c s) (guarded d e >> statement d s)
  transition-related e s q = sequence goes (guarded-related e) (statement-related s q)

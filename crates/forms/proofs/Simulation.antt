-- A walk through the table follows a statement that is wired into it and whose records read back.
use mathlib.Core.Path.{◌≡◌, refl, sym, ◌∙◌, ap}
use Prim.Native.Nat.{ℕ, zero, suc, ◌+◌, ◌<◌}
use native.Mathlib.Omega.{arith}
use mathlib.Core.Bool.{Bool, true, false}
use mathlib.Core.Option.{some}
use mathlib.Core.List.{List, [], ◌∷◌}
use borrow.Author.Tests.{lt-leb, le-leb}
use Rattle.std.specs.Prelude.{if◌then◌else◌}
use Rattle.rules.specs.declared.Machine.{Machine}
use Rattle.rules.specs.Basics.{choose}
use Rattle.rules.specs.Syntax.{Expr, Simple, set, transfer, require, return}
use Rattle.rules.specs.Syntax.{Stmt, simple, block, if_then, if_else, while, for, Stmts, last, ◌then◌}
use Rattle.rules.specs.Reading.{expr_at, simple_at}
use Rattle.rules.specs.Expanding.{Step, step, step_of, step_kind, target_of, joints, made}
use Rattle.rules.specs.declared.Setting.{Setting}
use Rattle.rules.specs.Running.{Run, going, returned, stopped, Action, after, ◌>>=◌, ◌>>◌, skip, perform, condition, loop, repeat, statement, statements}
use Rattle.rules.specs.Calling.{End, halted, leads}
use Rattle.rules.specs.Stepping.{Records, records_in, step_from, target_in, with, decided, performed, advance, onward, taken, walk, walk_from}
use Rattle.forms.proofs.Units.{goes, either, MayGo, MayReturn, limit, Later, Costs, way_of, perform-costs, condition-costs, Grows, then_grows, perform-grows, statement-grows}
use Rattle.forms.proofs.Endings.{walk_more}
use Rattle.forms.proofs.Lookups.{kind-high, Held, One, Two, Wired, Wireds, leaving-held, branch_held}
use Rattle.forms.proofs.Accepted.{Reads, ReadsAll}

module _ (c : Setting) (vars : ℕ) (file : List ℕ) (steps : List Step) where
  abbrev R : Records
  R = records_in file vars

  -- the walk from a node
  abbrev pub W : ℕ → Machine → End
  W = walk_from R steps c

  -- where the walk goes on after an action to d with return node r
  abbrev pub on_from : (d r : ℕ) → Run (Unit {0}) → End
  on_from d r (going u v) = W d v
  on_from d r (returned v) = W r v
  on_from d r (stopped i v) = halted i v

  -- from o the walk does the action, on machines for which k tests are enough
  abbrev Does : (k : ℕ) → Action → (o d r : ℕ) → Type 0
  Does k a o d r = (m : Machine) → 0 < k → limit c < k + m.units → W o m ≡ on_from d r (a m)

  -- ---- one step

  at-step : (p : ℕ) (s : Step) (l : List Step) → Held steps c.states p (s ∷ l) → (m : Machine)
      → W p m ≡ onward (walk R steps c (limit c)) (advance R steps c s m)
  unfolding walk_from walk taken
  at-step p s l h m = rw (lt-leb p c.states h.0, leaving-held steps c.states p s l h)

  -- after a step the limit is enough nodes
  on-W : (p : ℕ) (m v : Machine) → Later c 1 m v → walk R steps c (limit c) p v ≡ W p v
  unfolding walk_from
  on-W p m v h = sym (walk_more c (records_in file vars) steps (limit c) p v (omega arith) (omega arith))

  performs : (at : ℕ) (x : Simple) (o d r : ℕ) → advance R steps c (step_of at x o d r) ≡ performed R steps c (step_of at x o d r)
  unfolding advance step_of
  performs at x o d r = rw (le-leb 4 (step_kind x) (kind-high x))

  -- a statement that goes on leads to d, and one that returns to r
  aims : (x : Simple) (d r : ℕ) → (MayGo (way_of x) → target_of x d r ≡ d) × (MayReturn (way_of x) → target_of x d r ≡ r)
  unfolding target_of
  aims (set t e) d r = (λ _. refl, absurd)
  aims (transfer k e) d r = (λ _. refl, absurd)
  aims (require e) d r = (λ _. refl, absurd)
  aims (return e) d r = (absurd, λ _. refl)

  -- a one-step statement
  one-does : (k at : ℕ) (x : Simple) (o d r : ℕ) → One steps c.states at x o d r → simple_at file vars at ≡ some x → Does k (perform c x) o d r
  unfolding performed with step_of leads onward
  one-does k at x o d r h e m p q =
      at-step o (step_of at x o d r) [] h m
      ∙ rw (performs at x o d r, e) (go (perform c x m) (perform-costs c x m))
    where
      t : ℕ
      t = target_of x d r

      go : (y : Run (Unit {0})) → Costs c 1 (way_of x) m y → onward (walk R steps c (limit c)) (leads (λ _. t) t y) ≡ on_from d r y
      go (going u v) g = on-W t m v g.1 ∙ ap (λ (n : ℕ). W n v) ((aims x d r).0 g.0)
      go (returned v) g = on-W t m v g.1 ∙ ap (λ (n : ℕ). W n v) ((aims x d r).1 g.0)
      go (stopped i v) g = refl

  -- a condition, and then what it names: a test fewer is left
  branch-does : (k at : ℕ) (e : Expr) (o y z d r : ℕ) (a b : Action) → Two steps c.states at o y z → expr_at file vars at ≡ some e
      → Does k a y d r → Does k b z d r → Does (suc k) (condition c e >>= λ t. if t then a else b) o d r
  unfolding advance choose decided with leads onward
  branch-does k at e o y z d r a b h q ha hb m p l =
      at-step o (step o y 2 0 at) (step o z 3 0 at ∷ []) h m
      ∙ rw q (go (condition c e m) (condition-costs c e m))
    where
      to : Bool → ℕ
      to t = target_in (step_from steps o (if t then 2 else 3))

      at-node : (t : Bool) (v : Machine) → W (to t) v ≡ W (if t then y else z) v
      at-node t v = ap (λ (n : ℕ). W n v) (branch_held steps c.states at o y z h t)

      go : (x : Run Bool) → Costs c 1 goes m x → onward (walk R steps c (limit c)) (leads to y x) ≡ on_from d r (after x (λ t. if t then a else b))
      go (going true v) g = on-W (to true) m v g.1 ∙ at-node true v ∙ ha v (omega arith) (omega arith)
      go (going false v) g = on-W (to false) m v g.1 ∙ at-node false v ∙ hb v (omega arith) (omega arith)
      go (returned v) g = absurd g.0
      go (stopped i v) g = refl

  -- ---- actions of many steps

  then-does : (k o j d r : ℕ) (a b : Action) → Grows c a → Does k a o j r → Does k b j d r → Does k (a >> b) o d r
  then-does k o j d r a b h ha hb m p q = ha m p q ∙ go (a m) (h m)
    where
      go : (x : Run (Unit {0})) → Costs c 0 either m x → on_from j r x ≡ on_from d r (after x (λ _. b))
      go (going u v) g = hb v p (omega arith)
      go (returned v) g = refl
      go (stopped i v) g = refl

  loop-does : (at : ℕ) (e : Expr) (o y d r : ℕ) (a : Action) → Two steps c.states at o y d → expr_at file vars at ≡ some e → Grows c a
      → ((k : ℕ) → Does k a y o r) → (k : ℕ) → Does k (loop c k (condition c e) a) o d r
  unfolding loop
  loop-does at e o y d r a h q grows ha zero = λ m p l. absurd (omega arith)
  loop-does at e o y d r a h q grows ha (suc k) =
      branch-does k at e o y d d r _ skip h q (then-does k y o d r a _ grows (ha k) (loop-does at e o y d r a h q grows ha k)) (λ m p l. refl)

  mutual
    unfolding statement repeat

    statement-does : (s : Stmt) (o d r n : ℕ) → Wired steps c.states s o d r n → Reads file vars s → (k : ℕ) → Does k (statement c s) o d r
    statement-does (simple at x) o d r n w q k = one-does k at x o d r w q
    statement-does (block ss) o d r n w q k = statements-do ss o n d r (n + joints ss) w q k
    statement-does (if_then at e s) o d r n w q k = λ m p l.
        branch-does k at e o n d d r _ skip w.0 q.0 (statement-does s n d r (n + 1) w.1 q.1 k) (λ v _ _. refl) m (omega arith) (omega arith)
    statement-does (if_else at e s t) o d r n w q k = λ m p l.
        branch-does k at e o n (n + 1) d r _ _ w.0 q.0 (statement-does s n d r (n + 2) w.1 q.1 k)
        (statement-does t (n + 1) d r (n + 2 + made s) w.2 q.2 k) m (omega arith) (omega arith)
    statement-does (while at e s) o d r n w q k = λ m p l.
        loop-does at e o n d r _ w.0 q.0 (statement-grows c s) (statement-does s n o r (n + 1) w.1 q.1) (suc (limit c)) m (omega arith) (omega arith)
    statement-does (for a x at e b y s) o d r n w q k =
        then-does k o n d r (perform c x) _ (perform-grows c x) (one-does k a x o n r w.0 q.0)
        (λ m p l.
        loop-does at e n (n + 1) d r (statement c s >> perform c y) w.1 q.1 (then_grows c (statement c s) _ (statement-grows c s) (λ _. perform-grows c y))
        (λ j. then-does j (n + 1) (n + 2) n r (statement c s) (perform c y) (statement-grows c s) (statement-does s (n + 1) (n + 2) r (n + 3) w.2 q.3 j)
        (one-does j b y (n + 2) n r w.3 q.2))
        (suc (limit c)) m (omega arith) (omega arith))

    statements-do : (ss : Stmts) (o j d r n : ℕ) → Wireds steps c.states ss o j d r n → ReadsAll file vars ss → (k : ℕ)
        → Does k (statements c ss) o d r
    statements-do (last s) o j d r n w q k = statement-does s o d r n w q k
    statements-do (s then ss) o j d r n w q k =
        then-does k o j d r (statement c s) _ (statement-grows c s) (statement-does s o j r n w.0 q.0 k)
        (statements-do ss j (j + 1) d r (n + made s) w.1 q.1 k)

  -- from its entry the walk does what the statement does
  pub follows : (s : Stmt) (o d r n : ℕ) → Wired steps c.states s o d r n → Reads file vars s → (m : Machine) → W o m ≡ on_from d r (statement c s m)
  follows s o d r n w q m = statement-does s o d r n w q (suc (limit c)) m (omega arith) (omega arith)

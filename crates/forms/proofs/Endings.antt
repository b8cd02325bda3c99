-- A loop ends by its condition, a refusal or a return, and a run of steps by a node or a refusal: never by the number allowed.
use mathlib.Core.Path.{◌≡◌, refl, ◌∙◌, ap}
use Prim.Native.Nat.{ℕ, zero, suc, ◌+◌, ◌<◌}
use native.Mathlib.Omega.{arith}
use mathlib.Core.Option.{Option, none, some}
use mathlib.Core.List.{List}
use lib.Dec.{leb}
use Rattle.rules.specs.declared.Machine.{Machine}
use Rattle.rules.specs.Syntax.{Expr}
use Rattle.rules.specs.Expanding.{Step}
use Rattle.rules.specs.declared.Setting.{Setting}
use Rattle.rules.specs.Running.{Run, going, returned, stopped, Exec, Action, after, ◌>>◌, perform, condition, loop, repeat, statement}
use Rattle.rules.specs.Calling.{End, ended, halted, leads}
use Rattle.rules.specs.Stepping.{Records, leaving, with, decided, performed, advance, onward, taken, walk, walk_from}
use Rattle.rules.specs.Demands.{LoopsEnd, RunsEnd}
use Rattle.laws.proofs.Basics.{if-by}
use Rattle.laws.proofs.Choosing.{done, ◌&◌, choose-by}
use Rattle.forms.proofs.Units.{Way, goes, either, limit, Later, Costs, way_of, perform-costs, condition-costs, Grows, then_grows, perform-grows, statement-grows}

-- what one more does not change, any number more does not
any-more : {A : Type 0} (f : ℕ → A) (n : ℕ) → ((k : ℕ) → n < k → f (suc k) ≡ f k) → (more : ℕ) → f (n + 1 + more) ≡ f (suc n)
any-more f n h zero = ap f (omega arith)
any-more f n h (suc more) = ap f one ∙ h (n + 1 + more) (omega arith) ∙ any-more f n h more
  where
    one : n + 1 + suc more ≡ suc (n + 1 + more)
    one = omega arith

module _ (c : Setting) where
  -- what follows a run matters only on the machines that it can hand on
  after_same : {A B : Type 0} (k : ℕ) (w : Way) (m : Machine) (r : Run A) (f g : A → Exec B) → Costs c k w m r
      → ((a : A) (v : Machine) → Later c k m v → f a v ≡ g a v) → after r f ≡ after r g
  after_same k w m (going a v) f g h e = e a v h.1
  after_same k w m (returned v) f g h e = refl
  after_same k w m (stopped i v) f g h e = refl

  -- one test more changes nothing
  loop-more : (e : Expr) (body : Action) → Grows c body → (k : ℕ) (m : Machine) → 0 < k → limit c < k + m.units
      → loop c (suc k) (condition c e) body m ≡ loop c k (condition c e) body m
  unfolding loop
  loop-more e body h zero m p q = absurd (omega arith)
  loop-more e body h (suc k) m p q =
      after_same 1 goes m (condition c e m) _ _ (condition-costs c e m) λ b v l.
      if-by (λ (x y : Action). x v ≡ y v) b
      (after_same 0 either v (body v) _ _ (h v) λ _ u j. loop-more e body h k u (omega arith) (omega arith)) refl

  loop-ends : (e : Expr) (body : Action) → Grows c body → (more : ℕ) (m : Machine)
      → loop c (limit c + 1 + more) (condition c e) body m ≡ repeat c (condition c e) body m
  unfolding repeat
  loop-ends e body h more m =
      any-more (λ k. loop c k (condition c e) body m) (limit c) (λ k l. loop-more e body h k m (omega arith) (omega arith)) more

  -- ---- steps

  -- two ways to go on that do the same one step after m
  abbrev Alike : Machine → (g h : ℕ → Machine → End) → Type 0
  Alike m g h = (n : ℕ) (v : Machine) → Later c 1 m v → g n v ≡ h n v

  module _ (records : Records) (steps : List Step) where
    leads-same : {A : Type 0} (w : Way) (m : Machine) (d : A → ℕ) (t : ℕ) (g h : ℕ → Machine → End) → Alike m g h
        → (r : Run A) → Costs c 1 w m r → onward g (leads d t r) ≡ onward h (leads d t r)
    unfolding leads onward
    leads-same w m d t g h e (going a v) k = e (d a) v k.1
    leads-same w m d t g h e (returned v) k = e t v k.1
    leads-same w m d t g h e (stopped i v) k = refl

    with-same : {A B : Type 0} (w : A → Way) (m : Machine) (f : A → Exec B) (d : B → ℕ) (t : ℕ) (g h : ℕ → Machine → End)
        → Alike m g h → ((x : A) → Costs c 1 (w x) m (f x m))
        → (o : Option A) → onward g (leads d t (with f o m)) ≡ onward h (leads d t (with f o m))
    unfolding with leads onward
    with-same w m f d t g h e k none = refl
    with-same w m f d t g h e k (some x) = leads-same (w x) m d t g h e (f x m) (k x)

    taken-same : (m : Machine) (g h : ℕ → Machine → End) → Alike m g h
        → (o : Option Step) → taken records steps c g o m ≡ taken records steps c h o m
    unfolding taken advance decided performed onward
    taken-same m g h e none = refl
    taken-same m g h e (some s) =
        if-by Done (leb 4 s.kind) performs (choose-by Done s.kind _ _ (halted 25) (halted 25) (decides & decides & done) refl)
      where
        Done : (x y : Machine → End) → Type 0
        Done x y = onward g (x m) ≡ onward h (y m)

        decides : Done (decided records steps c s) (decided records steps c s)
        decides = with-same (λ _. goes) m (condition c) _ _ g h e (λ x. condition-costs c x m) (records.expr s.at)

        performs : Done (performed records steps c s) (performed records steps c s)
        performs = with-same way_of m (perform c) _ _ g h e (λ x. perform-costs c x m) (records.simple s.at)

    -- one node more changes nothing
    pub walk_more : (k n : ℕ) (m : Machine) → 0 < k → limit c < k + m.units → walk records steps c (suc k) n m ≡ walk records steps c k n m
    unfolding walk
    walk_more zero n m p q = absurd (omega arith)
    walk_more (suc k) n m p q =
        if-by (λ (x y : Machine → End). x m ≡ y m) (leb n c.states) {x = ended n} {y = ended n} refl
        (taken-same m _ _ (λ t v l. walk_more k t v (omega arith) (omega arith)) (leaving steps n))

    walk_ends : (more n : ℕ) (m : Machine) → walk records steps c (limit c + 1 + more) n m ≡ walk_from records steps c n m
    unfolding walk_from
    walk_ends more n m = any-more (λ k. walk records steps c k n m) (limit c) (λ k l. walk_more k n m (omega arith) (omega arith)) more

-- ---- the theorems

pub loops-end : LoopsEnd
loops-end c e s y more m = (
  loop-ends c e (statement c s) (statement-grows c s) more m,
  loop-ends c e (statement c s >> perform c y) (then_grows c (statement c s) _ (statement-grows c s) (λ _. perform-grows c y)) more m,
)

pub runs-end : RunsEnd
runs-end records steps c more n m = walk_ends c records steps more n m

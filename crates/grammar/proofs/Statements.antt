-- The walk over expressions and statements: each that is read stands in the file record by record (Statement).
use Prim.Native.Nat.{ℕ, zero, suc, ◌+◌, ◌≤◌, ◌<◌}
use mathlib.Core.Path.{◌≡◌, refl, sym, ap, subst, ◌∙◌}
use mathlib.Core.Bool.{Bool, true, false, ◌&&◌, ◌||◌}
use mathlib.Core.List.{List, [], ◌∷◌, ◌++◌, map}
use mathlib.Core.Logic.{◌⊎◌, inl, inr}
use lib.Dec.{eqb, ltb, leb}
use lib.ListN.{length, drop}
use native.Mathlib.Omega.{arith}
use borrow.Author.Tests.{ltb-true, leb-true}
use Rattle.rules.specs.Basics.{if◌then◌else◌, choose, any, part}
use Rattle.rules.specs.Syntax.{Expr, Simple, set, transfer, require, return, Stmt, simple, block, if_then, if_else, while, for, Stmts, last, ◌then◌}
use Rattle.rules.specs.Reading.{read, Reader, ◌>>=◌, pure, here, room, is_empty, refuse, kind_of, only, statements}
use Rattle.rules.specs.Reading.{expression_body, expression, placed, set_body, simples, statement_body, loop_set, statement}
use Rattle.laws.proofs.Choosing.{done, ◌&◌}
use Rattle.laws.proofs.Basics.{both-true}
use Rattle.laws.proofs.Every.{Every, Everys}
use Rattle.laws.proofs.Targets
use Rattle.grammar.proofs.Keeping.{Anything, Keeps, Stored, Inner, keeps-pure, keeps-refuse, keeps-if, keeps-choose, keeps-test, keeps-look, keeps-self, keeps-here}
use Rattle.grammar.proofs.Keeping.{keeps-then, keeps-seen, keeps-any, keeps-as, keeps-field, keeps-child, keeps-record, stored-other}
use Rattle.grammar.proofs.Levels.{one_step}

-- "targets 0 to V−1 are variables, 256 to 263 the eight locals"
abbrev pub Target : (vars target : ℕ) → Type 0
Target vars t = (t < vars) ⊎ ((256 ≤ t) × (t < 264))

abbrev pub Aimed : (vars : ℕ) → Simple → Type 0
Aimed vars = Targets.Aimed (Target vars)

target-in : (vars t : ℕ) → (ltb t vars || leb 256 t && ltb t 264) ≡ true → Target vars t
target-in vars t e = go (ltb t vars) refl e
  where
    go : (b : Bool) → ltb t vars ≡ b → (b || leb 256 t && ltb t 264) ≡ true → Target vars t
    go true h e = inl (ltb-true t vars h)
    go false h e = let b = both-true (leb 256 t) (ltb t 264) e in inr (leb-true 256 t b.0, ltb-true t 264 b.1)

-- by its kind a statement is one of one step, with its offset, or one of the others
placed-is : (k : ℕ) (t : List (ℕ × Reader Simple)) (u : List (ℕ × Reader Stmt)) (other : Reader Stmt)
    → choose k (map placed t ++ u) other
    ≡ (if any (λ (p : ℕ × Reader Simple). eqb k p.0) t then (placed (k, choose k t (refuse 3))).1 else choose k u other)
unfolding choose any placed
placed-is k [] u other = refl
placed-is k (p ∷ t) u other = go (eqb k p.0) _ _ _ (placed-is k t u other)
  where
    go : (b c : Bool) (x y : Reader Stmt) → x ≡ (if c then (placed (k, choose k t (refuse 3))).1 else y)
        → (if b then (placed p).1 else x) ≡ (if b || c then (placed (k, if b then p.1 else choose k t (refuse 3))).1 else y)
    go true c x y e = refl
    go false c x y e = e

module _ (file : List ℕ) where
  -- ---- expressions

  module _ (vars : ℕ) (in_rule : Bool) where
    body-keeps : {e : Reader Expr} → ((start at end : ℕ) → Keeps file start at end e Anything)
        → (kind start at end : ℕ) → Keeps file start at end (expression_body vars in_rule e kind) Anything
    unfolding expression_body
    body-keeps h kind start at end =
        keeps-choose kind
        (keeps-field 4 _ _ refl (keeps-pure _ tt)
        & keeps-field 2 _ _ refl (keeps-test _ λ _. keeps-pure _ tt)
        & keeps-if in_rule (keeps-refuse 3) (keeps-field 2 _ _ refl (keeps-test _ λ _. keeps-pure _ tt))
        & keeps-if in_rule (keeps-refuse 3) (keeps-field 2 _ _ refl (keeps-test _ λ _. keeps-pure _ tt))
        & keeps-field 2 _ _ refl (keeps-test _ λ _. keeps-pure _ tt)
        & keeps-field 2 _ _ refl (keeps-test _ λ _. keeps-then (h _ _ _) λ x m _. keeps-then (h _ _ _) λ y n _. keeps-pure _ tt)
        & keeps-then (h _ _ _) (λ x m _. keeps-pure _ tt)
        & done)
        (keeps-refuse 3)

    pub expression-keeps : (levels start at end : ℕ)
        → Keeps file start at end (expression vars in_rule levels) (Stored file (expression vars in_rule levels) at)
    unfolding expression
    expression-keeps zero start at end = keeps-as (keeps-record Anything λ _ to. keeps-refuse 5) λ a to h. h.0
    expression-keeps (suc l) start at end =
        keeps-as (keeps-record Anything λ kind to. body-keeps (λ s a e. keeps-any (expression-keeps l s a e)) kind _ _ to) λ a to h. h.0

  -- ---- statements

  module _ (vars : ℕ) where
    -- an expression, and a loop's set
    abbrev pub ExprAt : (levels at : ℕ) → Expr → (to : ℕ) → Type 0
    ExprAt l = Stored file (expression vars false l)

    abbrev pub SetAt : (levels at : ℕ) → Simple → (to : ℕ) → Type 0
    SetAt l at x to = Stored file (loop_set vars l) at x to × Aimed vars x

    mutual
      -- a statement that stands from `at` to `to`, by the levels that its record had left: its records, and those of its parts
      pub data Statement : (levels at : ℕ) → Stmt → (to : ℕ) → Type 0 where
        step : {l at to : ℕ} {x : Simple} → Stored file (one_step vars l) at x to → Aimed vars x → Statement (suc l) at (simple at x) to
        row : {l at to : ℕ} {ss : Stmts} → Statements l (at + 4) ss to → Statement (suc l) at (block ss) to
        branch : {l at c m to : ℕ} {e : Expr} {s : Stmt} → c ≡ at + 4 → ExprAt l c e m → Statement l m s to → Statement (suc l) at (if_then c e s) to
        branches : {l at c m n to : ℕ} {e : Expr} {s t : Stmt} → c ≡ at + 4 → ExprAt l c e m → Statement l m s n → Statement l n t to
            → Statement (suc l) at (if_else c e s t) to
        loop : {l at c m to : ℕ} {e : Expr} {s : Stmt} → c ≡ at + 4 → ExprAt l c e m → Statement l m s to → Statement (suc l) at (while c e s) to
        counted : {l at a b c m n o to : ℕ} {i k : Simple} {e : Expr} {s : Stmt} → a ≡ at + 4 → c ≡ m → b ≡ n
            → SetAt l a i m → ExprAt l c e n → SetAt l b k o → Statement l o s to → Statement (suc l) at (for a i c e b k s) to

      -- a block's statements in a row
      pub data Statements : (levels at : ℕ) → Stmts → (to : ℕ) → Type 0 where
        final : {l at to : ℕ} {s : Stmt} → Statement l at s to → Statements l at (last s) to
        next : {l at m to : ℕ} {s : Stmt} {ss : Stmts} → Statement l at s m → Statements l m ss to → Statements l at (s then ss) to

    module _ {e : Reader Expr} (he : (start at end : ℕ) → Keeps file start at end e Anything) (start at end : ℕ) where
      set-keeps : Keeps file start at end (set_body vars e) (λ x _. Aimed vars x)
      unfolding set_body
      set-keeps = keeps-field 2 _ _ refl (keeps-test _ λ h. keeps-then (he _ _ _) λ x m _. keeps-pure (set _ x) (target-in vars _ h))

      simples-keep : (kind : ℕ) → Keeps file start at end (choose kind (simples vars e) (refuse 3)) (λ x _. Aimed vars x)
      unfolding simples
      simples-keep kind =
          keeps-choose kind
          (set-keeps
          & keeps-then (he _ _ _) (λ x m _. keeps-then (he _ _ _) λ y n _. keeps-pure (transfer x y) tt)
          & keeps-then (he _ _ _) (λ x m _. keeps-pure (require x) tt)
          & keeps-then (he _ _ _) (λ x m _. keeps-pure (return x) tt)
          & done)
          (keeps-refuse 3)

    -- an expression with so many levels left
    any-expression : (l start at end : ℕ) → Keeps file start at end (expression vars false l) Anything
    any-expression l start at end = keeps-any (expression-keeps vars false l start at end)

    pub loop-set-keeps : (levels start at end : ℕ) → Keeps file start at end (loop_set vars levels) (SetAt levels at)
    unfolding loop_set only
    loop-set-keeps zero start at end = keeps-record (λ x _. Aimed vars x) λ _ to. keeps-refuse 5
    loop-set-keeps (suc l) start at end =
        keeps-record (λ x _. Aimed vars x) λ kind to. keeps-if (eqb kind 16) (set-keeps (any-expression l) _ _ _) (keeps-refuse 3)

    module _ (l : ℕ) {s : Reader Stmt} (hs : (start at end : ℕ) → Keeps file start at end s (λ x to. Statement l at x to)) where
      statements-keep : (n start at end : ℕ) → Keeps file start at end (statements n s) (λ xs to. Statements l at xs to)
      unfolding statements
      statements-keep zero start at end = keeps-then (hs _ _ _) λ x m h. keeps-pure (last x) (final h)
      statements-keep (suc n) start at end =
          keeps-then (hs _ _ _) λ x m h.
          keeps-look is_empty _ λ e _.
          keeps-if e (keeps-pure (last x) (final h)) (keeps-then (statements-keep n _ _ _) λ xs to hs. keeps-pure (x then xs) (next h hs))

      -- those of more than one step, by their kinds
      compounds-keep : (kind at end : ℕ) → let e = expression vars false l in
          Keeps file at (at + 4) end
          (choose kind
          ((32, do n ← room; ss ← statements n s; pure (block ss))
          ∷ (33, do c ← here; x ← e; y ← s; pure (if_then c x y))
          ∷ (34, do c ← here; x ← e; y ← s; z ← s; pure (if_else c x y z))
          ∷ (35, do c ← here; x ← e; y ← s; pure (while c x y))
          ∷ (36, do a ← here; i ← loop_set vars l; c ← here; x ← e; b ← here; k ← loop_set vars l; y ← s; pure (for a i c x b k y))
          ∷ [])
          (refuse 3))
          (λ x to. Statement (suc l) at x to)
      compounds-keep kind at end =
          keeps-choose kind
          (keeps-look length _ (λ n _. keeps-then (statements-keep n _ _ _) λ ss m h. keeps-pure (block ss) (row h))
          & keeps-here (ExprAt l) _ e (λ c x m i hx. keeps-then (hs _ _ _) λ y n hy. keeps-pure (if_then c x y) (branch i hx hy))
          & keeps-here (ExprAt l) _ e (λ c x m i hx. keeps-then (hs _ _ _) λ y n hy. keeps-then (hs _ _ _) λ z o hz.
          keeps-pure (if_else c x y z) (branches i hx hy hz))
          & keeps-here (ExprAt l) _ e (λ c x m i hx. keeps-then (hs _ _ _) λ y n hy. keeps-pure (while c x y) (loop i hx hy))
          & keeps-here (SetAt l) _ (loop-set-keeps l _ _ _) (λ a i m ia hi. keeps-here (ExprAt l) _ e λ c x n ic hx.
          keeps-here (SetAt l) _ (loop-set-keeps l _ _ _) λ b k o ib hk. keeps-then (hs _ _ _) λ y p hy.
          keeps-pure (for a i c x b k y) (counted ia ic ib hi hx hk hy))
          & done)
          (keeps-refuse 3)
        where
          e : {m : ℕ} → Keeps file at m end (expression vars false l) (ExprAt l m)
          e = expression-keeps vars false l _ _ _

    -- what was read of a statement's body by its kind, up to the record's end
    data Body (l at kind end : ℕ) : Stmt → Type 0 where
      one : {x : Simple}
          → choose kind (simples vars (expression vars false l)) (refuse 3) at (at + 4) (part (at + 4) end file) ≡ read x end (part end end file)
          → Aimed vars x → Body l at kind end (simple at x)
      other : {s : Stmt} → Statement (suc l) at s end → Body l at kind end s

    closed-body : {l at to : ℕ} {s t : Stmt} {r : Reader Stmt} → Stored file r at t to → Body l at (kind_of (drop at file)) to s
        → Statement (suc l) at s to
    closed-body st (one e a) = step (stored-other _ st e) a
    closed-body st (other h) = h

    one-keeps : (l kind at to : ℕ)
        → Keeps file at (at + 4) to (placed (kind, choose kind (simples vars (expression vars false l)) (refuse 3))).1 (λ s m. m ≡ to → Body l at kind to s)
    unfolding placed
    one-keeps l kind at to =
        keeps-self (λ a. choose kind (simples vars (expression vars false l)) (refuse 3) >>= λ x. pure (simple a x))
        (keeps-then (keeps-seen (simples-keep (any-expression l) at (at + 4) to kind)) λ x m h.
        keeps-pure (simple at x) λ e. one (h.0 ∙ ap (λ (n : ℕ). read x n (part n to file)) e) h.1)

    module _ (l : ℕ) (hs : (start at end : ℕ) → Keeps file start at end (statement vars l) (λ s to. Statement l at s to)) where
      statement-body-keeps : (kind at to : ℕ)
          → Keeps file at (at + 4) to (statement_body vars (expression vars false l) (loop_set vars l) (statement vars l) kind) (λ s m. m ≡ to → Body l at kind to s)
      unfolding statement_body
      statement-body-keeps kind at to =
          let t = simples vars (expression vars false l) in
          subst (λ (r : Reader Stmt). Keeps file at (at + 4) to r (λ s m. m ≡ to → Body l at kind to s)) (sym (placed-is kind t _ (refuse 3)))
          (keeps-if (any (λ (p : ℕ × Reader Simple). eqb kind p.0) t) (one-keeps l kind at to)
          (keeps-as (compounds-keep l hs kind at to) λ s m h e. other (subst (Statement (suc l) at s) e h)))

    pub statement-keeps : (levels start at end : ℕ)
        → Keeps file start at end (statement vars levels) (λ s to. Stored file (statement vars levels) at s to × Statement levels at s to)
    unfolding statement
    statement-keeps zero start at end = keeps-record (λ s to. Statement zero at s to) λ _ to. keeps-refuse 5
    statement-keeps (suc l) start at end =
        keeps-as (keeps-child (Body l at) λ kind to. statement-body-keeps l (λ start at end. keeps-as (statement-keeps l start at end) λ _ _ h. h.1) kind at to)
        λ s to h. (h.0, closed-body h.0 h.1)

-- ---- what every part of a statement that was read has

module _
    {file : List ℕ} {vars : ℕ} {S : ℕ → Simple → Type 0} {E : ℕ → Expr → Type 0}
    (expr : (l at to : ℕ) (e : Expr) → l ≤ 16 → ExprAt file vars l at e to → E at e)
    (one : (l at to : ℕ) (x : Simple) → l ≤ 16 → Stored file (one_step vars l) at x to → Aimed vars x → S at x)
    (set : (l at to : ℕ) (x : Simple) → l ≤ 16 → SetAt file vars l at x to → S at x)
  where
    mutual
      pub every-read : {l at to : ℕ} {s : Stmt} → Statement file vars l at s to → l ≤ 17 → Every S E s
      every-read (step r a) h = one _ _ _ _ (omega arith) r a
      every-read (row ss) h = all-read ss (omega arith)
      every-read (branch i e s) h = (expr _ _ _ _ (omega arith) e, every-read s (omega arith))
      every-read (branches i e s t) h = (expr _ _ _ _ (omega arith) e, every-read s (omega arith), every-read t (omega arith))
      every-read (loop i e s) h = (expr _ _ _ _ (omega arith) e, every-read s (omega arith))
      every-read (counted i j k x e y s) h =
          (set _ _ _ _ (omega arith) x, expr _ _ _ _ (omega arith) e, set _ _ _ _ (omega arith) y, every-read s (omega arith))

      all-read : {l at to : ℕ} {ss : Stmts} → Statements file vars l at ss to → l ≤ 17 → Everys S E ss
      all-read (final s) h = every-read s h
      all-read (next s ss) h = (every-read s h, all-read ss h)

-- ---- the bodies alone

pub expression-inner : (vars : ℕ) (in_rule : Bool) (l at : ℕ) → Inner at (expression_body vars in_rule (expression vars in_rule l))
expression-inner vars in_rule l at file kind to =
    body-keeps file vars in_rule (λ s a e. keeps-any (expression-keeps file vars in_rule l s a e)) kind at (at + 4) to

pub loop-set-inner : (vars l at : ℕ) → Inner at (only 16 (set_body vars (expression vars false l)))
unfolding only
loop-set-inner vars l at file kind to =
    keeps-if (eqb kind 16) (keeps-any (set-keeps file vars (any-expression file vars l) at (at + 4) to)) (keeps-refuse 3)

pub statement-inner : (vars l at : ℕ) → Inner at (statement_body vars (expression vars false l) (loop_set vars l) (statement vars l))
statement-inner vars l at file kind to =
    keeps-any (statement-body-keeps file vars l (λ start at end. keeps-as (statement-keeps file vars l start at end) λ _ _ h. h.1) kind at to)

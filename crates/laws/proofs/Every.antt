-- What every one-step statement and every expression of a statement has, at its offset.
use Prim.Native.Nat.{ℕ}
use Rattle.rules.specs.Syntax.{Expr, Simple, Stmt, simple, block, if_then, if_else, while, for, Stmts, last, ◌then◌}

module _ (S : ℕ → Simple → Type 0) (E : ℕ → Expr → Type 0) where
  abbrev mutual
    pub Every : Stmt → Type 0
    Every (simple at x) = S at x
    Every (block ss) = Everys ss
    Every (if_then at e s) = E at e × Every s
    Every (if_else at e s t) = E at e × Every s × Every t
    Every (while at e s) = E at e × Every s
    Every (for a x at e b y s) = S a x × E at e × S b y × Every s

    pub Everys : Stmts → Type 0
    Everys (last s) = Every s
    Everys (s then ss) = Every s × Everys ss

module _ {S : ℕ → Simple → Type 0} {E : ℕ → Expr → Type 0} (step : (at : ℕ) (x : Simple) → S at x) (expr : (at : ℕ) (e : Expr) → E at e) where
  mutual
    pub every : (s : Stmt) → Every S E s
    every (simple at x) = step at x
    every (block ss) = everys ss
    every (if_then at e s) = (expr at e, every s)
    every (if_else at e s t) = (expr at e, every s, every t)
    every (while at e s) = (expr at e, every s)
    every (for a x at e b y s) = (step a x, expr at e, step b y, every s)

    everys : (ss : Stmts) → Everys S E ss
    everys (last s) = every s
    everys (s then ss) = (every s, everys ss)

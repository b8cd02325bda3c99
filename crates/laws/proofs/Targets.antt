-- What the sets of an action aim at.
use Prim.Native.Nat.{ℕ}
use Rattle.rules.specs.Syntax.{Simple, set, transfer, require, return, Stmt, Stmts}
use Rattle.laws.proofs.Every.{Every, Everys, every}

module _ (T : ℕ → Type 0) where
  abbrev pub Aimed : Simple → Type 0
  Aimed (set t e) = T t
  Aimed (transfer k e) = Unit {0}
  Aimed (require e) = Unit {0}
  Aimed (return e) = Unit {0}

  -- each set in it has such a target
  abbrev pub Sound : Stmt → Type 0
  Sound = Every (λ _ x. Aimed x) (λ _ _. Unit {0})

  abbrev pub Sounds : Stmts → Type 0
  Sounds = Everys (λ _ x. Aimed x) (λ _ _. Unit {0})

-- where every target will do, every action is sound
abbrev pub Anywhere : ℕ → Type 0
Anywhere t = Unit {0}

pub any-aimed : (x : Simple) → Aimed Anywhere x
any-aimed (set t e) = tt
any-aimed (transfer k e) = tt
any-aimed (require e) = tt
any-aimed (return e) = tt

pub any-sound : (s : Stmt) → Sound Anywhere s
any-sound = every (λ _. any-aimed) (λ _ _. tt)

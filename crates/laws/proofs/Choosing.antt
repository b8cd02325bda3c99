-- What holds of each entry of a table holds of the one that is chosen.
use Prim.Native.Nat.{ℕ}
use mathlib.Core.List.{List, [], ◌∷◌}
use lib.Dec.{eqb}
use Rattle.rules.specs.Basics.{choose}
use Rattle.laws.proofs.Basics.{if-by}

infixr 20 ◌&◌
-- two tables of the same numbers, whose entries are related one by one
pub data Rows {A : Type 0} (R : A → A → Type 0) : (t u : List (ℕ × A)) → Type 0 where
  done : Rows R [] []
  ◌&◌ : {k : ℕ} {x y : A} {t u : List (ℕ × A)} → R x y → Rows R t u → Rows R ((k, x) ∷ t) ((k, y) ∷ u)

pub choose-by : {A : Type 0} (R : A → A → Type 0) (n : ℕ) (t u : List (ℕ × A)) (x y : A) → Rows R t u → R x y → R (choose n t x) (choose n u y)
unfolding choose
choose-by R n t u x y done h = h
choose-by R n t u x y (◌&◌ {k = k} {t = t'} {u = u'} g gs) h = if-by R (eqb n k) g (choose-by R n t' u' x y gs h)

-- The first list that p holds of, list by list (first-cons): a place counted from one later is one later.
use mathlib.Core.Path.{◌≡◌, refl}
use Prim.Native.Nat.{ℕ, suc}
use mathlib.Core.Bool.{Bool, true, false}
use mathlib.Core.List.{List, [], ◌∷◌}
use Rattle.std.specs.Prelude.{if◌then◌else◌}
use Rattle.rules.specs.Judging.{First, at, nowhere, first_from, first}

unfoldable pub one_later : First → First
one_later (at n l) = at (suc n) l
one_later nowhere = nowhere

from-later : (n : ℕ) (p : List ℕ → Bool) (ls : List (List ℕ)) → first_from (suc n) p ls ≡ one_later (first_from n p ls)
unfolding first_from one_later
from-later n p [] = refl
from-later n p (l ∷ ls) = go (p l) (from-later (suc n) p ls)
  where
    go : (b : Bool) → first_from (suc (suc n)) p ls ≡ one_later (first_from (suc n) p ls)
        → (if b then at (suc n) l else first_from (suc (suc n)) p ls) ≡ one_later (if b then at n l else first_from (suc n) p ls)
    go true e = refl
    go false e = e

pub first-cons : (p : List ℕ → Bool) (l : List ℕ) (ls : List (List ℕ)) → first p (l ∷ ls) ≡ (if p l then at 1 l else one_later (first p ls))
unfolding first first_from
first-cons p l ls = go (p l)
  where
    go : (b : Bool) → (if b then at 1 l else first_from 2 p ls) ≡ (if b then at 1 l else one_later (first_from 1 p ls))
    go true = refl
    go false = from-later 1 p ls

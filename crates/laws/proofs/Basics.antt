-- Laws of truth values, of if and of sums.
use mathlib.Core.Path.{◌≡◌, refl, sym}
use Prim.Native.Nat.{ℕ, zero, suc, ◌+◌, ◌<◌}
use native.Mathlib.Omega.{arith}
use mathlib.Core.Bool.{Bool, true, false, ◌&&◌, ◌||◌}
use mathlib.Core.List.{List, [], ◌∷◌}
use lib.ListN.{length, get_or, set}
use Rattle.std.specs.Prelude.{if◌then◌else◌}
use Rattle.rules.specs.Basics.{sum}

pub clash : {A : Type 0} → ◌≡◌ {A = Bool} true false → A
clash e = absurd cc

pub both-true : (a b : Bool) → (a && b) ≡ true → (a ≡ true) × (b ≡ true)
both-true true b e = (refl, e)
both-true false b e = clash (sym e)

pub both-false : (a b : Bool) → (a || b) ≡ false → (a ≡ false) × (b ≡ false)
both-false true b e = clash e
both-false false b e = (refl, e)

pub if-cases : {A : Type 0} (P : A → Type 0) (b : Bool) {x y : A} → (b ≡ true → P x) → (b ≡ false → P y) → P (if b then x else y)
if-cases P true h k = h refl
if-cases P false h k = k refl

pub if-all : {A : Type 0} (P : A → Type 0) (b : Bool) {x y : A} → P x → P y → P (if b then x else y)
if-all P b h k = if-cases P b (λ _. h) (λ _. k)

pub if-by : {A B : Type 0} (R : A → B → Type 0) (b : Bool) {x z : A} {y w : B} → R x y → R z w → R (if b then x else z) (if b then y else w)
if-by R true h k = h
if-by R false h k = k

pub sum-set : (l : List ℕ) (i v : ℕ) → i < length l → sum (set l i v) + get_or l i 0 ≡ sum l + v
unfolding sum
sum-set [] i v h = absurd (omega arith)
sum-set (x ∷ l) zero v h = omega arith
sum-set (x ∷ l) (suc i) v h = let e = sum-set l i v (omega arith) in omega arith

-- "The sum of all balances and the own balance never changes": an account's balance becomes x and the own balance y, which together
-- have as much as before.
pub move-total : (balances : List ℕ) (own k x y : ℕ) → k < length balances → x + y ≡ get_or balances k 0 + own
    → sum (set balances k x) + y ≡ sum balances + own
move-total bs own k x y h e = let z = sum-set bs k x h in omega arith

-- Laws of what each entry of a list has.
use mathlib.Core.Path.{◌≡◌, subst}
use mathlib.Core.Bool.{Bool}
use mathlib.Core.Option.{some}
use mathlib.Core.List.{List, [], ◌∷◌, ◌++◌}
use Rattle.rules.specs.Basics.{find}
use Rattle.rules.specs.Demands.{All, none, more}
use Rattle.laws.proofs.Basics.{if-all}

pub weaken : {A : Type 0} {P Q : A → Type 0} {xs : List A} → ((x : A) → P x → Q x) → All P xs → All Q xs
weaken f none = none
weaken f (more {x = x} h a) = more (f x h) (weaken f a)

-- of each of two lists
pub all_append : {A : Type 0} {P : A → Type 0} (a b : List A) → All P a → All P b → All P (a ++ b)
all_append [] b h k = k
all_append (x ∷ a) b (more p h) k = more p (all_append a b h k)

-- and so the one that is found
pub all-find : {A : Type 0} {P : A → Type 0} (p : A → Bool) {xs : List A} {y : A} → All P xs → find p xs ≡ some y → P y
unfolding find
all-find p none e = absurd cc
all-find {P = P} p {y = y} (more {x = x} h a) e = if-all (λ o. o ≡ some y → P y) (p x) (λ e. let z : x ≡ y = cc in subst P z h) (all-find p a) e

-- What the first repeat says of the tree, and that the place of refusal 6 is at most 32,768 (repeat-small).
use Rattle.std.specs.Prelude.{if◌then◌else◌}
use mathlib.Core.Path.{◌≡◌, refl}
use Prim.Native.Nat.{ℕ, ◌≤◌}
use native.Mathlib.Omega.{arith}
use mathlib.Core.Bool.{Bool, true, false, ◌&&◌}
use mathlib.Core.List.{List, [], ◌∷◌}
use mathlib.Core.Option.{Option, none, some}
use lib.Dec.{eqb}
use Rattle.rules.specs.Basics.{any}
use Rattle.rules.specs.Syntax.{Transition}
use Rattle.rules.specs.Accepting.{first_repeat}
use Rattle.rules.specs.Demands.{All, more}
use Rattle.access.specs.Trees.{TreeRead}
use Rattle.grammar.proofs.Agreements.{row-all}
use Rattle.access.proofs.Trees.{tree}
use Rattle.access.proofs.Using.{tree-bounds}
use Rattle.access.specs.FoundAnswers.{repeat_of}

-- no transition begins past e
abbrev Before : ℕ → Transition → Type 0
Before e t = t.at ≤ e

among : (e p : ℕ) (earlier later : List Transition) → All (Before e) later → first_repeat earlier later ≡ some p → p ≤ e
unfolding first_repeat
among e p earlier [] h q = absurd cc
among e p earlier (u ∷ us) (more b bs) q =
    go (any (λ (t : Transition). eqb t.name u.name && eqb t.from u.from) earlier) (among e p (u ∷ earlier) us bs) q
  where
    go : (x : Bool) → (first_repeat (u ∷ earlier) us ≡ some p → p ≤ e) → (if x then some u.at else first_repeat (u ∷ earlier) us) ≡ some p → p ≤ e
    go true next q = let z : u.at ≡ p = cc in omega arith
    go false next q = next q

pub repeat-small : {file : List ℕ} (t : TreeRead file) (p : ℕ) → first_repeat [] t.tree.transitions ≡ some p → p ≤ 32768
repeat-small {file} t p q =
    let size = (tree-bounds t).size in
    among 32768 p [] t.tree.transitions (row-all file (tree t).parts.transitions.row λ at to x h. omega (arith, h.placed, h.fits, size)) q

pub repeat-same : (o p : Option ℕ) → repeat_of p ≡ repeat_of o → o ≡ p
repeat-same none none h = refl
repeat-same none (some p) h = absurd cc
repeat-same (some q) none h = absurd cc
repeat-same (some q) (some p) h = let z : p ≡ q = cc in cc

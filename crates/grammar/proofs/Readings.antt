-- What was read was read by parts: by one reader after another, and by the body of a child record.
use Prim.Native.Nat.{ℕ, ◌+◌}
use mathlib.Core.Path.{◌≡◌, refl, sym, ◌∙◌}
use mathlib.Core.Bool.{Bool, true, false}
use mathlib.Core.List.{List, [], ◌∷◌}
use lib.ListN.{drop}
use Rattle.rules.specs.Basics.{if◌then◌else◌, part}
use Rattle.rules.specs.Reading.{Reading, refused, read, Reader, after, ◌>>=◌, closed, size_of, kind_of, whole, child}
use Rattle.grammar.proofs.Bytes.{Whole, whole-record}

-- no refusal is a tree
pub unread : {A X : Type 0} {n p : ℕ} {a : A} {at : ℕ} {left : List ℕ} → refused n p ≡ read a at left → X
unread h = absurd cc

-- one reader and what followed it
pub record Then {A B : Type 0} (r : Reader A) (f : A → Reader B) (start at : ℕ) (s : List ℕ) (b : B) (to : ℕ) (rest : List ℕ) : Type 0 where
  pub value : A
  pub mid : ℕ
  pub left : List ℕ
  pub here : r start at s ≡ read value mid left
  pub next : f value start mid left ≡ read b to rest

pub then-read :
    {A B : Type 0} (r : Reader A) (f : A → Reader B) (start at : ℕ) (s : List ℕ) {b : B} {to : ℕ} {rest : List ℕ} →
    (r >>= f) start at s ≡ read b to rest → Then r f start at s b to rest
then-read {A} {B} r f start at s {b} {to} {rest} h = go (r start at s) refl h
  where
    go : (q : Reading A) → r start at s ≡ q → after q (λ a. f a start) ≡ read b to rest → Then r f start at s b to rest
    go (refused n p) i e = unread e
    go (read a m l) i e = record { value = a; mid = m; left = l; here = i; next = e }

-- what was read of a child: its body up to its end, and what is left of the parent after it
pub record Child {A : Type 0} (body : ℕ → Reader A) (at : ℕ) (left : List ℕ) (a : A) (to : ℕ) (rest : List ℕ) : Type 0 where
  pub long : Whole left (size_of left)
  pub reads : body (kind_of left) at (at + 4) (part 4 (size_of left) left) ≡ read a to []
  pub leaves : rest ≡ drop (size_of left) left

module _ {A : Type 0} (body : ℕ → Reader A) (start at : ℕ) (left : List ℕ) where
  pub child-read : {a : A} {to : ℕ} {rest : List ℕ} → child body start at left ≡ read a to rest → Child body at left a to rest
  unfolding child closed
  child-read {a} {to} {rest} h = go (whole left) (body (kind_of left) at (at + 4) (part 4 (size_of left) left)) refl refl h
    where
      go : (w : Bool) (q : Reading A) → whole left ≡ w → body (kind_of left) at (at + 4) (part 4 (size_of left) left) ≡ q
          → (if w then closed (drop (size_of left) left) q else refused 2 at) ≡ read a to rest → Child body at left a to rest
      go false q i j e = unread e
      go true (refused n p) i j e = unread e
      go true (read b m (x ∷ xs)) i j e = unread e
      go true (read b m []) i j e =
          let r : drop (size_of left) left ≡ rest = cc in
          let s : read b m [] ≡ read a to [] = cc in
          record { long = whole-record left i; reads = j ∙ s; leaves = sym r }

  -- and back
  pub child-reads : {a : A} {to : ℕ} → whole left ≡ true → body (kind_of left) at (at + 4) (part 4 (size_of left) left) ≡ read a to []
      → child body start at left ≡ read a to (drop (size_of left) left)
  unfolding child closed
  child-reads h e = rw (h, e)

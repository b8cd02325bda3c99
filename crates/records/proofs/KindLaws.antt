-- Laws of the kinds' numbers.
use Prim.Native.Nat.{ℕ}
use mathlib.Core.Path.{◌≡◌, refl, sym, ap, ◌∙◌}
use mathlib.Core.Logic.{◌⊎◌, inl, inr}
use mathlib.Core.Bool.{false}
use mathlib.Core.List.{List, [], ◌∷◌, ◌++◌, map}
use lib.Dec.{eqb}
use borrow.Author.Tests.{ne_eqb}
use Rattle.rules.specs.Basics.{choose, any}
use Rattle.records.specs.declared.kind.Kind.{Kind}
use Rattle.records.specs.declared.kind.Kind.TheVariants.{Agreement, Transition, Row, Rule, Set, Transfer, Require, Return, Block, If, IfElse, While, For}
use Rattle.records.specs.declared.kind.Kind.TheVariants.{Constant, Variable, Local, Argument, Context, Binary, Not}
use Rattle.laws.proofs.Basics.{both-false}
use Rattle.records.specs.Kinds.{number_of}

-- the kinds of expressions
abbrev pub expression_kinds : List Kind
expression_kinds = Constant ∷ Variable ∷ Local ∷ Argument ∷ Context ∷ Binary ∷ Not ∷ []

-- the kinds of statements: those of one step, and those with parts
abbrev pub step_kinds : List Kind
step_kinds = Set ∷ Transfer ∷ Require ∷ Return ∷ []

abbrev pub part_kinds : List Kind
part_kinds = Block ∷ If ∷ IfElse ∷ While ∷ For ∷ []

abbrev pub statement_kinds : List Kind
statement_kinds = step_kinds ++ part_kinds

-- the kind of a number
decoded : ℕ → Kind
decoded n = choose n (map (λ kind. (number_of kind, kind)) (Agreement ∷ Transition ∷ Row ∷ Rule ∷ (statement_kinds ++ expression_kinds))) Not

decoded-number : (kind : Kind) → decoded (number_of kind) ≡ kind
unfolding choose decoded
decoded-number Agreement = refl
-- the same for each of the others
decoded-number kind = refl

-- a number is that of one kind only
one_kind : (kind other : Kind) → number_of kind ≡ number_of other → kind ≡ other
one_kind kind other h = sym (decoded-number kind) ∙ ap decoded h ∙ decoded-number other

module _ {kind : Kind} {number : ℕ} (h : number_of kind ≡ number) {other : Kind} where
  pub kind-is : kind ≡ other → number ≡ number_of other
  kind-is e = sym h ∙ ap number_of e

  pub kind-either : {another : Kind} → (kind ≡ other) ⊎ (kind ≡ another) → (number ≡ number_of other) ⊎ (number ≡ number_of another)
  kind-either (inl e) = inl (kind-is e)
  kind-either (inr e) = inr (sym h ∙ ap number_of e)

infixr 20 ◌&◌
-- what holds of each kind of a list
pub data Each (P : Kind → Type 0) : List Kind → Type 0 where
  done : Each P []
  ◌&◌ : {kind : Kind} {kinds : List Kind} → P kind → Each P kinds → Each P (kind ∷ kinds)

-- a number that is none of theirs
abbrev pub Others : (number : ℕ) → List Kind → Type 0
Others number kinds = any (λ kind. eqb number (number_of kind)) kinds ≡ false

pub others : {number : ℕ} {kinds : List Kind} → Each (λ kind. number ≡ number_of kind → ⊥) kinds → Others number kinds
unfolding any
others done = refl
others (h & hs) = rw (ne_eqb _ _ h, others hs)

pub other-number : {number : ℕ} → ((kind : Kind) → number_of kind ≡ number → ⊥) → (kinds : List Kind) → Others number kinds
unfolding any
other-number h [] = refl
other-number h (kind ∷ kinds) = rw (ne_eqb _ _ (λ e. h kind (sym e)), other-number h kinds)

pub other-kind :
    {kind : Kind} {number : ℕ} {kinds : List Kind} → number_of kind ≡ number → Each (λ other. kind ≡ other → ⊥) kinds → Others number kinds
unfolding any
other-kind h done = refl
other-kind {kind} h (n & ns) = rw (ne_eqb _ _ (λ e. n (one_kind kind _ (h ∙ e))), other-kind h ns)

-- no row of a table has the number
pub choose-none :
    {A : Type 0} (number : ℕ) (table : List (ℕ × A)) {other : A} → any (λ (row : ℕ × A). eqb number row.0) table ≡ false →
    choose number table other ≡ other
unfolding choose any
choose-none number [] h = refl
choose-none number (row ∷ rows) h = let b = both-false (eqb number row.0) _ h in rw b.0 (choose-none number rows b.1)

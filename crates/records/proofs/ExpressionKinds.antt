-- What the check makes of an expression record's body, by its kind.
use Rattle.std.specs.Prelude.{not as opposite}
use Prim.Native.Nat.{ℕ}
use mathlib.Core.Path.{◌≡◌, refl, ap, fun_ext, ◌∙◌}
use mathlib.Core.Bool.{Bool, true, false, ◌&&◌}
use mathlib.Core.List.{List}
use native.Mathlib.Omega.{arith}
use lib.Dec.{ltb, leb}
use borrow.Author.Tests.{le-leb}
use Rattle.rules.specs.Basics.{choose, any}
use Rattle.rules.specs.Syntax.{Expr, constant, variable, local, argument, context, binary, not}
use Rattle.rules.specs.Reading.{Reader, ◌>>=◌, ◌>>◌, pure, refuse, in_range, field, expression_body, expression}
use Rattle.records.specs.Checking.{Answer, outcome, refused_at, no_steps, checked_on, ranged}
use Rattle.records.proofs.KindLaws.{Others, choose-none, expression_kinds}
use Rattle.records.proofs.Readers.{then-pure, then-onward, steady-pair, pair-onward, pair_then, steady-ranged, ranged-then}
use Rattle.records.proofs.ExpressionLaws.{steady-expression}

-- a 16-bit field from `least` on and below `bound`
abbrev pub index_answer : (least bound start at : ℕ) (s : List ℕ) → Answer
index_answer least bound start at s = outcome no_steps (ranged (λ i. leb least i && ltb i bound) start at s)

swapped : (a b : Bool) → (a && b) ≡ (b && a)
swapped true true = refl
swapped true false = refl
swapped false true = refl
swapped false false = refl

turned : (a b : Bool) → opposite a ≡ b → a ≡ opposite b
turned true b h = ap opposite h
turned false b h = ap opposite h

from_zero : (bound i : ℕ) → ltb i bound ≡ (leb 0 i && ltb i bound)
from_zero bound i = rw (le-leb 0 i (omega arith))

is-index :
    (least bound start at : ℕ) (s : List ℕ) (test : ℕ → Bool) (tree : ℕ → Expr) →
    ((i : ℕ) → test i ≡ (leb least i && ltb i bound)) →
    outcome no_steps ((field 2 >>= λ i. in_range (test i) >> pure (tree i)) start at s) ≡ index_answer least bound start at s
is-index least bound start at s test tree h =
    ap (outcome no_steps) (ranged-then test (λ i. pure (tree i)) start at s)
    ∙ then-pure no_steps tree (ranged test start at s)
    ∙ ap (λ (t : ℕ → Bool). outcome no_steps (ranged t start at s)) (fun_ext h)

module _ (vars : ℕ) (in_rule : Bool) (levels start at : ℕ) (s : List ℕ) where
  abbrev answer : (kind : ℕ) → Answer
  answer kind = outcome no_steps (expression_body vars in_rule (expression vars in_rule levels) kind start at s)

  pub constant-is : {kind : ℕ} → kind ≡ 64 → answer kind ≡ outcome no_steps (field 4 start at s)
  unfolding expression_body choose
  constant-is k = rw k (then-pure no_steps constant (field 4 start at s))

  pub variable-is : {kind : ℕ} → kind ≡ 65 → answer kind ≡ index_answer 0 vars start at s
  unfolding expression_body choose
  variable-is k = rw k (is-index 0 vars start at s (λ i. ltb i vars) variable (from_zero vars))

  pub local-refused : {kind : ℕ} → kind ≡ 66 → opposite in_rule ≡ false → answer kind ≡ refused_at 3 start
  unfolding expression_body choose refuse
  local-refused k h = rw (k, turned in_rule false h)

  pub local-is : {kind : ℕ} → kind ≡ 66 → opposite in_rule ≡ true → answer kind ≡ index_answer 0 8 start at s
  unfolding expression_body choose
  local-is k h = rw (k, turned in_rule true h) (is-index 0 8 start at s (λ i. ltb i 8) local (from_zero 8))

  pub argument-refused : {kind : ℕ} → kind ≡ 67 → opposite in_rule ≡ false → answer kind ≡ refused_at 3 start
  unfolding expression_body choose refuse
  argument-refused k h = rw (k, turned in_rule false h)

  pub argument_is : {kind : ℕ} → kind ≡ 67 → opposite in_rule ≡ true → answer kind ≡ index_answer 0 4 start at s
  unfolding expression_body choose
  argument_is k h = rw (k, turned in_rule true h) (is-index 0 4 start at s (λ i. ltb i 4) argument (from_zero 4))

  pub context-in-rule : {kind : ℕ} → kind ≡ 68 → in_rule ≡ true → answer kind ≡ index_answer 2 4 start at s
  unfolding expression_body choose
  context-in-rule k h = rw (k, h) (is-index 2 4 start at s (λ i. ltb i 4 && leb 2 i) context λ i. swapped (ltb i 4) (leb 2 i))

  pub context-is : {kind : ℕ} → kind ≡ 68 → in_rule ≡ false → answer kind ≡ index_answer 0 4 start at s
  unfolding expression_body choose
  context-is k h = rw (k, h) (is-index 0 4 start at s (λ i. ltb i 4 && true) context λ i. swapped (ltb i 4) true ∙ from_zero 4 i)

  -- an expression after c
  abbrev next : Answer → Answer
  next = checked_on no_steps (expression vars in_rule levels) start at s

  pub binary-is : {kind : ℕ} → kind ≡ 80 → answer kind ≡ next (next (index_answer 0 11 start at s))
  unfolding expression_body choose
  binary-is k =
      let e : Reader Expr = expression vars in_rule levels in
      let h = steady-expression vars in_rule levels in
      let test : ℕ → Bool = λ o. ltb o 11 in
      let rest : ℕ → Expr → Reader Expr = λ o x. e >>= λ y. pure (binary o x y) in
      rw k
      (ap (outcome no_steps) (ranged-then test (λ o. e >>= rest o) start at s ∙ pair_then (ranged test) e rest start at s)
      ∙ then-onward (steady-pair (steady-ranged test) h) e no_steps no_steps (λ p y. binary p.0 p.1 y) (λ a b. refl) start at s
      ∙ ap next (pair-onward (steady-ranged test) h start at s))
      ∙ ap (λ (t : ℕ → Bool). next (next (outcome no_steps (ranged t start at s)))) (fun_ext (from_zero 11))

  pub not_is : {kind : ℕ} → kind ≡ 81 → answer kind ≡ outcome no_steps (expression vars in_rule levels start at s)
  unfolding expression_body choose
  not_is k = rw k (then-pure no_steps not (expression vars in_rule levels start at s))

  pub other-is : (kind : ℕ) → Others kind expression_kinds → answer kind ≡ refused_at 3 start
  unfolding expression_body refuse any
  other-is kind h = rw (choose-none kind _ h)

-- A record that is read with some levels left is read with more: so an expression or a one-step statement that stands in a file is
-- read again at its offset (`expr_at`, `simple_at`).
use Prim.Native.Nat.{ℕ, zero, suc, ◌+◌, ◌≤◌}
use mathlib.Core.Path.{◌≡◌, sym, ap, ◌∙◌}
use mathlib.Core.Bool.{Bool, false}
use mathlib.Core.List.{List}
use mathlib.Core.Option.{some}
use native.Mathlib.Omega.{arith}
use lib.Dec.{eqb}
use lib.ListN.{drop}
use Rattle.rules.specs.Basics.{choose}
use Rattle.rules.specs.Syntax.{Expr, Simple}
use Rattle.rules.specs.Reading.{read, Reader, ◌>>=◌, refuse, in_range, field, kind_of, child, only}
use Rattle.rules.specs.Reading.{simples, set_body, expression_body, expression, loop_set, tree_of, expr_at, simple_at}
use Rattle.laws.proofs.Basics.{if-by}
use Rattle.laws.proofs.Choosing.{Rows, done, ◌&◌, choose-by}
use Rattle.grammar.proofs.Readings.{unread, then-read, child-read, child-reads}
use Rattle.grammar.proofs.Keeping.{Stored}

-- q reads all that r reads
record Extends {A : Type 0} (r q : Reader A) : Type 0 where
  more : (start at : ℕ) (s : List ℕ) {a : A} {to : ℕ} {rest : List ℕ} → r start at s ≡ read a to rest → q start at s ≡ read a to rest

module _ {A : Type 0} where
  same : (r : Reader A) → Extends r r
  same r = record { more = λ start at s e. e }

  refuses : (n : ℕ) (q : Reader A) → Extends (refuse n) q
  unfolding refuse
  refuses n q = record { more = λ start at s e. unread e }

  follows : {B : Type 0} {r q : Reader B} {f g : B → Reader A} → Extends r q → ((b : B) → Extends (f b) (g b)) → Extends (r >>= f) (q >>= g)
  follows {r = r} {q = q} {f = f} h i =
      record {
        more = λ start at s e.
            let x = then-read r f start at s e in
            rw (h.more start at s x.here) ((i x.value).more start x.mid x.left x.next);
      }

  chosen : (n : ℕ) {t u : List (ℕ × Reader A)} → Rows Extends t u → Extends (choose n t (refuse 3)) (choose n u (refuse 3))
  chosen n h = choose-by Extends n _ _ _ _ h (same _)

  inside : {body other : ℕ → Reader A} → ((kind : ℕ) → Extends (body kind) (other kind)) → Extends (child body) (child other)
  inside {body} {other} h =
      record {
        more = λ start at s {a} {to} e.
            let c = child-read body start at s e in
            child-reads other start at s c.long.is ((h (kind_of s)).more at (at + 4) _ c.reads) ∙ ap (read a to) (sym c.leaves);
      }

-- the record of a one-step statement
abbrev pub one_step : (vars levels : ℕ) → Reader Simple
one_step vars levels = child (λ kind. choose kind (simples vars (expression vars false levels)) (refuse 3))

module _ (vars : ℕ) where
  body-more : (in_rule : Bool) {e d : Reader Expr} → Extends e d → (kind : ℕ)
      → Extends (expression_body vars in_rule e kind) (expression_body vars in_rule d kind)
  unfolding expression_body
  body-more in_rule h kind =
      chosen kind
      (same _ & same _ & same _ & same _ & same _
      & follows (same (field 2)) (λ o. follows (same (in_range _)) λ _. follows h λ x. follows h λ y. same _)
      & follows h (λ x. same _)
      & done)

  expression-more : (in_rule : Bool) (l m : ℕ) → l ≤ m → Extends (expression vars in_rule l) (expression vars in_rule m)
  unfolding expression
  expression-more in_rule zero zero h = same _
  expression-more in_rule zero (suc m) h = inside λ k. refuses 5 _
  expression-more in_rule (suc l) zero h = absurd (omega arith)
  expression-more in_rule (suc l) (suc m) h = inside (body-more in_rule (expression-more in_rule l m (omega arith)))

  set-more : {e d : Reader Expr} → Extends e d → Extends (set_body vars e) (set_body vars d)
  unfolding set_body
  set-more h = follows (same (field 2)) λ t. follows (same (in_range _)) λ _. follows h λ x. same _

  simples-more : {e d : Reader Expr} → Extends e d → (kind : ℕ)
      → Extends (choose kind (simples vars e) (refuse 3)) (choose kind (simples vars d) (refuse 3))
  unfolding simples
  simples-more h kind = chosen kind (set-more h & follows h (λ x. follows h λ y. same _) & follows h (λ x. same _) & follows h (λ x. same _) & done)

  only-more : {e d : Reader Expr} → Extends e d → (kind : ℕ) → Extends (only 16 (set_body vars e) kind) (choose kind (simples vars d) (refuse 3))
  unfolding only simples choose
  only-more h kind = if-by Extends (eqb kind 16) (set-more h) (refuses 3 _)

  loop-set-more : (l : ℕ) → l ≤ 16 → Extends (loop_set vars l) (one_step vars 16)
  unfolding loop_set
  loop-set-more zero h = inside λ k. refuses 5 _
  loop-set-more (suc l) h = inside (only-more (expression-more false l 16 (omega arith)))

  module _ {file : List ℕ} (l : ℕ) (few : l ≤ 16) {at to : ℕ} where
    pub expression-again : {x : Expr} → Stored file (expression vars false l) at x to → expr_at file vars at ≡ some x
    unfolding expr_at tree_of
    expression-again h = rw ((expression-more false l 16 few).more at at (drop at file) (h.reads at))

    pub simple-again : {x : Simple} → Stored file (one_step vars l) at x to → simple_at file vars at ≡ some x
    unfolding simple_at tree_of
    simple-again h = rw ((inside (simples-more (expression-more false l 16 few))).more at at (drop at file) (h.reads at))

    pub loop-set-again : {x : Simple} → Stored file (loop_set vars l) at x to → simple_at file vars at ≡ some x
    unfolding simple_at tree_of
    loop-set-again h = rw ((loop-set-more l few).more at at (drop at file) (h.reads at))

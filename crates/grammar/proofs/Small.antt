-- No reader of the rules refuses with a number above 8, whatever the bytes: a law for each way in which readers are put together, and one
-- for each record.
use Prim.Native.Nat.{ℕ, zero, suc, ◌+◌, ◌≤◌}
use mathlib.Core.Path.{◌≡◌, subst}
use mathlib.Core.Bool.{Bool, true, false, ◌&&◌}
use mathlib.Core.List.{List, [], ◌∷◌, ◌++◌, map}
use native.Mathlib.Omega.{arith}
use lib.Dec.{eqb, leb}
use lib.ListN.{length, drop}
use Rattle.rules.specs.Basics.{if◌then◌else◌, choose, has, part}
use Rattle.rules.specs.Syntax.{Expr, Simple, transfer, require, return, Stmt, simple, block, if_then, if_else, while, for, last, ◌then◌}
use Rattle.rules.specs.Reading.{Reading, refused, read, Reader, after, ◌>>=◌, ◌>>◌, pure, self, here, at_end, room, refuse, in_range}
use Rattle.rules.specs.Reading.{field, fields, zero_byte, closed, size_of, kind_of, whole, child, only, comes, group, no_more, statements}
use Rattle.rules.specs.Reading.{expression_body, expression, placed, set_body, simples, statement_body, loop_set, statement}
use Rattle.rules.specs.Reading.{transition_body, rule_body, row_body, fields_body, agreement_body, read_tree}
use Rattle.laws.proofs.Basics.{if-all}
use Rattle.laws.proofs.Choosing.{Rows, done, ◌&◌, choose-by}

-- a reading's refusal has a number of at most 8
abbrev pub Few : {A : Type 0} → Reading A → Type 0
Few (refused n p) = n ≤ 8
Few (read a at left) = Unit {0}

-- every refusal of the reader has one
pub record Small {A : Type 0} (r : Reader A) : Type 0 where
  pub each : (start at : ℕ) (left : List ℕ) → Few (r start at left)

pub few-refused : {A : Type 0} {x : Reading A} {n p : ℕ} → Few x → x ≡ refused n p → n ≤ 8
few-refused h e = subst Few e h

pub which-refused : {A : Type 0} {r : Reader A} → Small r → {start at : ℕ} {left : List ℕ} {n p : ℕ} → r start at left ≡ refused n p → n ≤ 8
which-refused h {start} {at} {left} e = few-refused (h.each start at left) e

-- ---- how readers are put together

module _ {A : Type 0} where
  pub small-pure : (a : A) → Small (pure a)
  small-pure a = record { each = λ start at left. tt }

  pub small-refuse : (n : ℕ) → n ≤ 8 → Small (refuse {A = A} n)
  unfolding refuse
  small-refuse n few = record { each = λ start at left. few }

  pub small-if : (b : Bool) {r q : Reader A} → Small r → Small q → Small (if b then r else q)
  small-if b = if-all Small b

  pub small-choose : (n : ℕ) {t : List (ℕ × Reader A)} {other : Reader A} → Rows (λ r _. Small r) t t → Small other → Small (choose n t other)
  small-choose n {t} {other} = choose-by (λ r _. Small r) n t t other other

  pub small-then : {B : Type 0} {r : Reader B} {f : B → Reader A} → Small r → ((b : B) → Small (f b)) → Small (r >>= f)
  small-then {B} {r} {f} h k = record { each = λ start at left. go start (r start at left) (h.each start at left) }
    where
      go : (start : ℕ) (x : Reading B) → Few x → Few (after x (λ b. f b start))
      go start (refused n p) h = h
      go start (read b at left) h = (k b).each start at left

  closes : (parent : List ℕ) (x : Reading A) → Few x → Few (closed parent x)
  unfolding closed
  closes parent (refused n p) h = h
  closes parent (read a at []) h = tt
  closes parent (read a at (b ∷ bs)) h = omega arith

  pub small-child : {body : ℕ → Reader A} → ((kind : ℕ) → Small (body kind)) → Small (child body)
  unfolding child
  small-child {body} h =
      record {
        each = λ start at left.
            let inside = (h (kind_of left)).each at (at + 4) (part 4 (size_of left) left) in
            if-all Few (whole left) (closes (drop (size_of left) left) _ inside) (omega arith);
      }

  pub small-only : (kind k : ℕ) {r : Reader A} → Small r → Small (only kind r k)
  unfolding only
  small-only kind k h = small-if (eqb k kind) h (small-refuse 3 (omega arith))

-- what is seen without going on
pub small-self : Small self
small-self = record { each = λ start at left. tt }

pub small-here : Small here
small-here = record { each = λ start at left. tt }

pub small-at-end : Small at_end
small-at-end = record { each = λ start at left. tt }

pub small-room : Small room
small-room = record { each = λ start at left. tt }

pub small-comes : (kind : ℕ) → Small (comes kind)
unfolding comes
small-comes kind = record { each = λ start at left. tt }

-- ---- fields

pub small-range : (b : Bool) → Small (in_range b)
unfolding in_range
small-range b = small-if b (small-pure tt) (small-refuse 4 (omega arith))

pub small-field : (n : ℕ) → Small (field n)
unfolding field
small-field n = record { each = λ start at left. if-all Few (has n left) tt (omega arith) }

pub small-fields : (k n : ℕ) → Small (fields k n)
unfolding fields
small-fields zero n = small-pure []
small-fields (suc k) n = small-then (small-field n) λ x. small-then (small-fields k n) λ xs. small-pure (x ∷ xs)

pub small-zero : Small zero_byte
unfolding zero_byte
small-zero = small-then (small-field 1) λ z. small-range (eqb z 0)

-- a test, and then a reader
tested : {A : Type 0} (b : Bool) {r : Reader A} → Small r → Small (in_range b >> r)
tested b h = small-then (small-range b) λ _. h

-- a field that passes a test
index : {A : Type 0} (test : ℕ → Bool) (f : ℕ → A) → Small (field 2 >>= λ i. in_range (test i) >> pure (f i))
index test f = small-then (small-field 2) λ i. tested (test i) (small-pure (f i))

-- ---- groups

module _ {A : Type 0} {body : Reader A} (h : Small body) where
  pub small-group : (most kind : ℕ) → Small (group most kind body)
  unfolding group
  small-group zero kind = small-then (small-comes kind) λ c. small-if c (small-child λ _. small-refuse 4 (omega arith)) (small-pure [])
  small-group (suc most) kind =
      small-then (small-comes kind) λ c.
      small-if c (small-then (small-child λ _. h) λ x. small-then (small-group most kind) λ xs. small-pure (x ∷ xs)) (small-pure [])

pub small-no-more : Small no_more
unfolding no_more
small-no-more = small-then small-at-end λ e. small-if e (small-pure tt) (small-child λ _. small-refuse 3 (omega arith))

pub small-statements : {s : Reader Stmt} → Small s → (n : ℕ) → Small (statements n s)
unfolding statements
small-statements h zero = small-then h λ x. small-pure (last x)
small-statements h (suc n) =
    small-then h λ x. small-then small-at-end λ e. small-if e (small-pure (last x)) (small-then (small-statements h n) λ xs. small-pure (x then xs))

-- ---- expressions

module _ (vars : ℕ) (in_rule : Bool) where
  pub small-expression-body : {e : Reader Expr} → Small e → (kind : ℕ) → Small (expression_body vars in_rule e kind)
  unfolding expression_body
  small-expression-body h kind =
      small-choose kind
      (small-then (small-field 4) (λ n. small-pure _)
      & index _ _
      & small-if in_rule (small-refuse 3 (omega arith)) (index _ _)
      & small-if in_rule (small-refuse 3 (omega arith)) (index _ _)
      & index _ _
      & small-then (small-field 2) (λ o. tested _ (small-then h λ x. small-then h λ y. small-pure _))
      & small-then h (λ x. small-pure _)
      & done)
      (small-refuse 3 (omega arith))

  pub small-expression : (levels : ℕ) → Small (expression vars in_rule levels)
  unfolding expression
  small-expression zero = small-child λ _. small-refuse 5 (omega arith)
  small-expression (suc l) = small-child (small-expression-body (small-expression l))

-- ---- statements

-- one-step statements at their offsets, before others
at-offset : (p : ℕ × Reader Simple) → Small p.1 → Small (placed p).1
unfolding placed
at-offset p h = small-then small-self λ a. small-then h λ x. small-pure (simple a x)

at-offsets : {t u : List (ℕ × Reader Simple)} {v w : List (ℕ × Reader Stmt)} → Rows (λ r _. Small r) t u → Rows (λ r _. Small r) v w
    → Rows (λ r _. Small r) (map placed t ++ v) (map placed u ++ w)
unfolding placed
at-offsets done k = k
at-offsets (◌&◌ {k = n} {x = x} h hs) k = at-offset (n, x) h & at-offsets hs k

module _ (vars : ℕ) where
  module _ {e : Reader Expr} (he : Small e) where
    pub small-set : Small (set_body vars e)
    unfolding set_body
    small-set = small-then (small-field 2) λ t. tested _ (small-then he λ x. small-pure _)

    simples-small : Rows (λ r _. Small r) (simples vars e) (simples vars e)
    unfolding simples
    simples-small =
        small-set
        & small-then he (λ x. small-then he λ y. small-pure (transfer x y))
        & small-then he (λ x. small-pure (require x))
        & small-then he (λ x. small-pure (return x))
        & done

    module _ {l : Reader Simple} {s : Reader Stmt} (hl : Small l) (hs : Small s) where
      pub small-statement-body : (kind : ℕ) → Small (statement_body vars e l s kind)
      unfolding statement_body
      small-statement-body kind =
          small-choose kind
          (at-offsets simples-small
          (small-then small-room (λ n. small-then (small-statements hs n) λ ss. small-pure (block ss))
          & small-then small-here (λ c. small-then he λ x. small-then hs λ y. small-pure (if_then c x y))
          & small-then small-here (λ c. small-then he λ x. small-then hs λ y. small-then hs λ z. small-pure (if_else c x y z))
          & small-then small-here (λ c. small-then he λ x. small-then hs λ y. small-pure (while c x y))
          & small-then small-here (λ a. small-then hl λ i. small-then small-here λ c. small-then he λ x.
          small-then small-here λ b. small-then hl λ k. small-then hs λ y. small-pure (for a i c x b k y))
          & done))
          (small-refuse 3 (omega arith))

  pub small-loop-set : (levels : ℕ) → Small (loop_set vars levels)
  unfolding loop_set
  small-loop-set zero = small-child λ _. small-refuse 5 (omega arith)
  small-loop-set (suc l) = small-child λ kind. small-only 16 kind (small-set (small-expression vars false l))

  pub small-statement : (levels : ℕ) → Small (statement vars levels)
  unfolding statement
  small-statement zero = small-child λ _. small-refuse 5 (omega arith)
  small-statement (suc l) = small-child (small-statement-body (small-expression vars false l) (small-loop-set l) (small-statement l))

  -- ---- the agreement's records

  pub small-transition : (S : ℕ) → Small (transition_body vars S)
  unfolding transition_body
  small-transition S =
      small-then small-self λ a. small-then (small-field 1) λ n. small-then (small-field 1) λ f. tested _
      (small-then (small-field 1) λ t. tested _
      (small-then small-zero λ _. small-then small-here λ g. small-then (small-expression vars false 14) λ x.
      small-then (small-statement 14) λ y. small-pure _))

  pub small-rule : (names : List ℕ) → Small (rule_body vars names)
  unfolding rule_body
  small-rule names =
      small-then (small-field 2) λ t. tested _ (small-then (small-field 1) λ p. tested _ (small-then (small-field 1) λ q. tested _
      (small-choose t (small-then (small-expression vars true 14) (λ x. small-pure _) & small-pure _ & done) (small-pure _))))

pub small-row : (A : ℕ) → Small (row_body A)
unfolding row_body
small-row A =
    small-then (small-field 1) λ n. small-then (small-field 1) λ s. tested _
    (small-then small-zero λ _. small-then small-zero λ _. small-then (small-field 4) λ c. small-then (small-fields 4 4) λ xs. small-pure _)

pub small-fields-body : Small fields_body
unfolding fields_body
small-fields-body =
    small-then (small-field 1) λ S. tested _ (small-then (small-field 1) λ v. tested _ (small-then (small-field 1) λ A. tested _
    (small-then (small-field 1) λ s. tested _ (small-then (small-field 1) λ d. tested _
    (small-then small-zero λ _. small-then (small-field 2) λ u. tested _ (small-then (small-field 4) λ b. tested _
    (small-then (small-fields A 4) λ xs. small-pure _)))))))

pub small-agreement : Small agreement_body
unfolding agreement_body
small-agreement =
    small-then small-fields-body λ f. small-then (small-statement f.variables 15) λ i. small-then (small-statement f.variables 15) λ e.
    small-then (small-group (small-transition f.variables f.states) 64 2) λ ts. small-then (small-group (small-row f.accounts) 16 3) λ cs.
    small-then (small-group (small-rule f.variables _) 8 4) λ rs. small-then small-no-more λ _. small-pure _

-- a file
pub few-tree : (file : List ℕ) → Few (read_tree file)
unfolding read_tree
few-tree file =
    if-all Few (leb 4 (length file) && leb (length file) 32768 && eqb (size_of file) (length file))
    ((small-child λ kind. small-only 1 kind small-agreement).each 0 0 file)
    (omega arith)

-- What is known of an expression record that the reading accepts: one law for each kind, from the tree to its parts.
-- n is the record's length, as its first field says; a child's length is what stands at the child's start.
use Rattle.std.specs.Prelude.{if◌then◌else◌}
use Prim.Native.Nat.{ℕ, ◌+◌, ◌≤◌, ◌<◌}
use mathlib.Core.Path.{◌≡◌, refl, ◌∙◌}
use mathlib.Core.Bool.{Bool, true, false, ◌&&◌}
use mathlib.Core.List.{List, []}
use native.Mathlib.Omega.{arith}
use lib.Dec.{ltb, leb}
use lib.ListN.{length, take, drop}
use borrow.Author.Tests.{ltb-true}
use Rattle.rules.specs.Basics.{choose, any, part, number}
use Rattle.rules.specs.Syntax.{Expr, constant, variable, local, argument, context, binary, not}
use Rattle.rules.specs.Reading.{read, Reader, ◌>>=◌, ◌>>◌, pure, refuse, in_range, field, size_of, kind_of, expression_body, expression}
use Rattle.records.specs.Acceptance.{Accepted, AcceptedBy}
use Rattle.laws.proofs.Basics.{both-true}
use Rattle.grammar.proofs.Bytes.{part_length, part-number}
use Rattle.grammar.proofs.Readings.{unread, then-read}
use Rattle.records.proofs.KindLaws.{Others, choose-none, expression_kinds}
use Rattle.records.proofs.Inversion.{Inside, inside, child-at, field-read, field_at}
use Rattle.records.proofs.ExpressionLaws.{ends-expression, expression-nested}

-- the 16-bit field that a body begins with
abbrev pub first : List ℕ → ℕ
first s = number (take 2 (drop 4 s))

abbrev body_of : (vars : ℕ) (in_rule : Bool) (levels kind : ℕ) → Reader Expr
body_of vars in_rule levels kind = expression_body vars in_rule (expression vars in_rule levels) kind

-- what was read is accepted
abbrev pub accepted :
    {vars : ℕ} (in_rule : Bool) (levels start at : ℕ) {bytes : List ℕ} {tree : Expr} {to : ℕ} {rest : List ℕ} → vars ≤ 16 →
    expression vars in_rule levels start at bytes ≡ read tree to rest → Accepted bytes
accepted {vars} in_rule levels start at {tree = tree} {to} {rest} few h =
    record { levels = levels; vars = vars; in_rule = in_rule; start = start; at = at; tree = tree; to = to; rest = rest; few = few; reads = h }

abbrev pub accepted_by :
    {A : Type 0} {reader : (vars levels : ℕ) → Reader A} {vars : ℕ} (levels start at : ℕ) {bytes : List ℕ} {tree : A} {to : ℕ} {rest : List ℕ} →
    vars ≤ 16 →
    reader vars levels start at bytes ≡ read tree to rest → AcceptedBy reader bytes
accepted_by {vars = vars} levels start at {tree = tree} {to} {rest} few h =
    record { levels = levels; vars = vars; start = start; at = at; tree = tree; to = to; rest = rest; few = few; reads = h }

pub record Binary (n q : ℕ) (s : List ℕ) (tree : Expr) : Type 0 where
  pub left : Accepted (part 6 n s)
  pub right : Accepted (part (6 + q) n s)
  pub ten : 10 ≤ n
  pub fits : 6 + q ≤ n
  pub small : first s < 11
  pub is : tree ≡ binary (first s) left.tree right.tree

pub record Negation (n : ℕ) (s : List ℕ) (tree : Expr) : Type 0 where
  pub child : Accepted (part 4 n s)
  pub eight : 8 ≤ n
  pub is : tree ≡ not child.tree

module _ {n : ℕ} {s : List ℕ} (long : n ≡ size_of s) (a : Accepted s) where
  step : {kind : ℕ} → kind_of s ≡ kind → Inside (body_of a.vars a.in_rule) n kind s a.at a.tree a.to
  step k = inside long k _ (expression-nested a.vars a.in_rule) a.levels a.reads

  pub sized : (4 ≤ n) × (n ≤ length s)
  sized = let t = step refl in (t.low, t.high)

  pub constant-tree : kind_of s ≡ 64 → (8 ≤ n) × (a.tree ≡ constant (number (take 4 (drop 4 s))))
  unfolding expression_body choose
  constant-tree k =
      let t = step k in
      let x = then-read (field 4) (λ i. pure (constant i)) a.at (a.at + 4) (part 4 n s) t.reads in
      let y = field-read 4 a.at (a.at + 4) (part 4 n s) x.here in
      let p = part_length 4 n s t.high in
      let eight : 8 ≤ n = omega (arith, y.0) in
      let v : x.value ≡ number (take 4 (drop 4 s)) = y.1 ∙ part-number 4 n 4 s eight in
      let z = x.next in
      (eight, cc)

  -- a field below a bound
  indexed :
      (test : ℕ → Bool) (tree : ℕ → Expr) → n ≤ length s →
      (field 2 >>= λ i. in_range (test i) >> pure (tree i)) a.at (a.at + 4) (part 4 n s) ≡ read a.tree a.to [] →
      (6 ≤ n) × (test (first s) ≡ true) × (a.tree ≡ tree (first s))
  indexed test tree high h =
      let f = field_at test (λ i. pure (tree i)) a.at a.at n s high h in
      let z = f.next in
      (f.six, f.passes, cc)

  pub variable-tree : kind_of s ≡ 65 → (6 ≤ n) × (first s < 16) × (a.tree ≡ variable (first s))
  unfolding expression_body choose
  variable-tree k =
      let t = step k in
      let x = indexed (λ i. ltb i a.vars) variable t.high t.reads in
      let b : first s < a.vars = ltb-true _ _ x.1 in
      (x.0, omega (arith, a.few), x.2)

  -- a rule's expression has no locals and arguments
  unruled :
      (r : Reader Expr) →
      (if a.in_rule then refuse 3 else r) a.at (a.at + 4) (part 4 n s) ≡ read a.tree a.to [] →
      r a.at (a.at + 4) (part 4 n s) ≡ read a.tree a.to []
  unfolding refuse
  unruled r h = go a.in_rule h
    where
      go : (b : Bool) → (if b then refuse 3 else r) a.at (a.at + 4) (part 4 n s) ≡ read a.tree a.to [] → r a.at (a.at + 4) (part 4 n s) ≡ read a.tree a.to []
      go true e = unread e
      go false e = e

  pub local-tree : kind_of s ≡ 66 → (6 ≤ n) × (first s < 8) × (a.tree ≡ local (first s))
  unfolding expression_body choose
  local-tree k =
      let t = step k in
      let x = indexed (λ i. ltb i 8) local t.high (unruled (field 2 >>= λ i. in_range (ltb i 8) >> pure (local i)) t.reads) in
      (x.0, ltb-true _ _ x.1, x.2)

  pub argument-tree : kind_of s ≡ 67 → (6 ≤ n) × (first s < 4) × (a.tree ≡ argument (first s))
  unfolding expression_body choose
  argument-tree k =
      let t = step k in
      let x = indexed (λ i. ltb i 4) argument t.high (unruled (field 2 >>= λ i. in_range (ltb i 4) >> pure (argument i)) t.reads) in
      (x.0, ltb-true _ _ x.1, x.2)

  pub context-tree : kind_of s ≡ 68 → (6 ≤ n) × (first s < 4) × (a.tree ≡ context (first s))
  unfolding expression_body choose
  context-tree k =
      let t = step k in
      let x = indexed (λ i. ltb i 4 && (if a.in_rule then leb 2 i else true)) context t.high t.reads in
      (x.0, ltb-true _ _ (both-true (ltb (first s) 4) (if a.in_rule then leb 2 (first s) else true) x.1).0, x.2)

  pub not-tree : kind_of s ≡ 81 → Negation n s a.tree
  unfolding expression_body choose
  not-tree k =
      let t = step k in
      let x = child-at a.at a.at n s t.high (ends-expression a.vars a.in_rule t.left) (λ x. pure (not x)) 4 (number (take 2 (drop 4 s))) refl t.reads in
      let z = x.next in
      record { child = accepted _ _ _ _ a.few x.here; eight = x.low; is = cc }

  pub binary-tree : kind_of s ≡ 80 → (q : ℕ) → q ≡ number (take 2 (drop 6 s)) → Binary n q s a.tree
  unfolding expression_body choose
  binary-tree k q hq =
      let t = step k in
      let e : Reader Expr = expression a.vars a.in_rule t.left in
      let h = ends-expression a.vars a.in_rule t.left in
      let o = first s in
      let f = field_at (λ o. ltb o 11) (λ o. e >>= λ x. e >>= λ y. pure (binary o x y)) a.at a.at n s t.high t.reads in
      let x = child-at a.at a.at n s t.high h (λ x. e >>= λ y. pure (binary o x y)) 6 q hq f.next in
      let y = child-at a.at a.at n s t.high h (λ y. pure (binary o x.value y)) (6 + q) (number (take 2 (drop (6 + q) s))) refl x.next in
      let z = y.next in
      record {
        left = accepted _ _ _ _ a.few x.here;
        right = accepted _ _ _ _ a.few y.here;
        ten = x.low;
        fits = x.fits;
        small = ltb-true _ _ f.passes;
        is = cc;
      }

  pub other-tree : Others (kind_of s) expression_kinds → ⊥
  unfolding expression_body refuse any
  other-tree h = unread (rw (choose-none _ _ h) at (step refl).reads)

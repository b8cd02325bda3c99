-- What is known of a statement record that the reading accepts: one law for each kind, from the tree to its parts.
-- n is the record's length, as its first field says; a child's length is what stands at the child's start.
use Rattle.std.specs.Prelude.{if◌then◌else◌}
use Prim.Native.Nat.{ℕ, ◌+◌, ◌≤◌}
use mathlib.Core.Path.{◌≡◌, refl, ap, ◌∙◌}
use mathlib.Core.Bool.{Bool, true, false}
use mathlib.Core.List.{List, [], ◌∷◌, ◌++◌, map}
use native.Mathlib.Omega.{arith}
use lib.Dec.{eqb}
use lib.ListN.{length, take, drop}
use borrow.Author.Tests.{eqb-true}
use Rattle.rules.specs.Basics.{choose, any, part, number}
use Rattle.rules.specs.Syntax.{Expr, Simple, Stmt, simple, block, if_then, if_else, while, for}
use Rattle.rules.specs.Reading.{read, Reader, ◌>>=◌, pure, here, refuse, only, size_of, kind_of}
use Rattle.rules.specs.Reading.{statements, expression, placed, simples, statement_body, set_body, loop_set, statement}
use Rattle.records.specs.Acceptance.{Accepted, simple_record, GoodSimple, GoodSet, Good, GoodAll}
use Rattle.grammar.proofs.Bytes.{Whole}
use Rattle.grammar.proofs.Readings.{unread, then-read, child-reads}
use Rattle.records.proofs.KindLaws.{Others, choose-none, part_kinds, statement_kinds}
use Rattle.records.proofs.Inversion.{Inside, inside, child-at}
use Rattle.records.proofs.ExpressionLaws.{ends-expression}
use Rattle.records.proofs.Accepts.{accepted, accepted_by}
use Rattle.records.proofs.StatementLaws.{loop-set-nested, statement-nested, ends-loop-set, ends-statement}

abbrev body_of : (vars levels kind : ℕ) → Reader Stmt
body_of vars levels kind = statement_body vars (expression vars false levels) (loop_set vars levels) (statement vars levels) kind

-- a statement of one step
pub record OneStep (s : List ℕ) (at : ℕ) (tree : Stmt) : Type 0 where
  pub step : GoodSimple s
  pub is : tree ≡ simple at step.tree

pub record Block (n : ℕ) (s : List ℕ) (at : ℕ) (tree : Stmt) : Type 0 where
  pub inner : GoodAll (part 4 n s)
  pub inner_at : inner.at ≡ at + 4
  pub is : tree ≡ block inner.tree

-- an if or a while
pub record Conditional (form : ℕ → Expr → Stmt → Stmt) (n q : ℕ) (s : List ℕ) (at : ℕ) (tree : Stmt) : Type 0 where
  pub test : Accepted (part 4 n s)
  pub body : Good (part (4 + q) n s)
  pub body_at : body.at ≡ at + (4 + q)
  pub eight : 8 ≤ n
  pub fits : 4 + q ≤ n
  pub is : tree ≡ form (at + 4) test.tree body.tree

pub record Alternative (n q p : ℕ) (s : List ℕ) (at : ℕ) (tree : Stmt) : Type 0 where
  pub test : Accepted (part 4 n s)
  pub yes : Good (part (4 + q) n s)
  pub no : Good (part (4 + q + p) n s)
  pub yes_at : yes.at ≡ at + (4 + q)
  pub no_at : no.at ≡ at + (4 + q + p)
  pub eight : 8 ≤ n
  pub mid : 4 + q + 4 ≤ n
  pub fits : 4 + q + p ≤ n
  pub is : tree ≡ if_else (at + 4) test.tree yes.tree no.tree

pub record Repetition (n q p r : ℕ) (s : List ℕ) (at : ℕ) (tree : Stmt) : Type 0 where
  pub initial : GoodSet (part 4 n s)
  pub test : Accepted (part (4 + q) n s)
  pub closing : GoodSet (part (4 + q + p) n s)
  pub body : Good (part (4 + q + p + r) n s)
  pub body_at : body.at ≡ at + (4 + q + p + r)
  pub eight : 8 ≤ n
  pub second : 4 + q + 4 ≤ n
  pub third : 4 + q + p + 4 ≤ n
  pub fits : 4 + q + p + r ≤ n
  pub is : tree ≡ for (at + 4) initial.tree (at + (4 + q)) test.tree (at + (4 + q + p)) closing.tree body.tree

-- by a kind that is none of those with parts a statement is of one step
placed-is :
    (k : ℕ) (t : List (ℕ × Reader Simple)) (u : List (ℕ × Reader Stmt)) → any (λ (row : ℕ × Reader Stmt). eqb k row.0) u ≡ false →
    choose k (map placed t ++ u) (refuse 3) ≡ (placed (k, choose k t (refuse 3))).1
unfolding choose placed refuse
placed-is k [] u h = choose-none k u h
placed-is k (row ∷ rows) u h = go (eqb k row.0) _ (placed-is k rows u h)
  where
    go :
        (b : Bool) (y : Reader Simple) {x : Reader Stmt} → x ≡ (placed (k, y)).1 →
        (if b then (placed row).1 else x) ≡ (placed (k, if b then row.1 else y)).1
    go true y e = refl
    go false y e = e

-- a loop's set is a set
pub record SetStep (s : List ℕ) (tree : Simple) : Type 0 where
  pub step : GoodSimple s
  pub kind : kind_of s ≡ 16
  pub is : tree ≡ step.tree

pub set-step : {s : List ℕ} (a : GoodSet s) → SetStep s a.tree
unfolding simple_record simples choose only refuse
set-step {s} a =
    let t = inside refl refl _ (loop-set-nested a.vars) a.levels a.reads in
    go t.left (eqb (kind_of s) 16) t.is refl t.reads
  where
    go :
        (l : ℕ) (b : Bool) → Whole s (size_of s) → eqb (kind_of s) 16 ≡ b →
        (if b then set_body a.vars (expression a.vars false l) else refuse 3) a.at (a.at + 4) (part 4 (size_of s) s) ≡ read a.tree a.to [] →
        SetStep s a.tree
    go l true w i e =
        let k = eqb-true _ _ i in
        let y : simple_record a.vars l a.start a.at s ≡ read a.tree a.to (drop (size_of s) s) = child-reads _ _ _ _ w.is (rw k e) in
        record { step = accepted_by l _ _ a.few y; kind = k; is = refl }
    go l false w i e = unread e

module _ {n : ℕ} {s : List ℕ} (long : n ≡ size_of s) (a : Good s) where
  step : {kind : ℕ} → kind_of s ≡ kind → Inside (body_of a.vars) n kind s a.at a.tree a.to
  step k = inside long k _ (statement-nested a.vars) a.levels a.reads

  pub sized : (4 ≤ n) × (n ≤ length s)
  sized = let t = step refl in (t.low, t.high)

  pub one-step : Others (kind_of s) part_kinds → OneStep s a.at a.tree
  unfolding statement_body simple_record placed any
  one-step h =
      let t = step refl in
      let table = simples a.vars (expression a.vars false t.left) in
      let body : Reader Simple = choose (kind_of s) table (refuse 3) in
      let x = then-read body (λ x. pure (simple a.at x)) a.at (a.at + 4) (part 4 n s) (rw (placed-is (kind_of s) table _ h) at t.reads) in
      let z = x.next in
      let l : x.left ≡ [] = cc in
      let y : body a.at (a.at + 4) (part 4 (size_of s) s) ≡ read x.value x.mid [] = rw (← long) (x.here ∙ ap (read x.value x.mid) l) in
      record { step = accepted_by t.left a.start a.at a.few (child-reads _ _ _ _ t.is.is y); is = cc }

  -- ---- a statement with children

  pub block-tree : kind_of s ≡ 32 → Block n s a.at a.tree
  unfolding statement_body simples placed choose
  block-tree k =
      let t = step k in
      let m = length (part 4 n s) in
      let x = then-read (statements m (statement a.vars t.left)) (λ ss. pure (block ss)) a.at (a.at + 4) (part 4 n s) t.reads in
      let z = x.next in
      record {
        inner = record {
          fuel = m;
          levels = t.left;
          vars = a.vars;
          start = a.at;
          at = a.at + 4;
          tree = x.value;
          to = x.mid;
          rest = x.left;
          few = a.few;
          enough = omega arith;
          reads = x.here;
        };
        inner_at = refl;
        is = cc;
      }

  conditional :
      (form : ℕ → Expr → Stmt → Stmt) (levels q : ℕ) → n ≤ length s → q ≡ number (take 2 (drop 4 s)) →
      (here >>= λ c. expression a.vars false levels >>= λ x. statement a.vars levels >>= λ y. pure (form c x y)) a.at (a.at + 4) (part 4 n s) ≡ read a.tree a.to [] →
      Conditional form n q s a.at a.tree
  conditional form levels q high hq h =
      let c = a.at + 4 in
      let st : Reader Stmt = statement a.vars levels in
      let x = child-at a.at a.at n s high (ends-expression a.vars false levels) (λ x. st >>= λ y. pure (form c x y)) 4 q hq h in
      let y = child-at a.at a.at n s high (ends-statement a.vars levels) (λ y. pure (form c x.value y)) (4 + q) (number (take 2 (drop (4 + q) s))) refl x.next in
      let z = y.next in
      record { test = accepted _ _ _ _ a.few x.here; body = accepted_by _ _ _ a.few y.here; body_at = refl; eight = x.low; fits = x.fits; is = cc }

  pub if-tree : kind_of s ≡ 33 → (q : ℕ) → q ≡ number (take 2 (drop 4 s)) → Conditional if_then n q s a.at a.tree
  unfolding statement_body simples placed choose
  if-tree k q hq = let t = step k in conditional if_then t.left q t.high hq t.reads

  pub while-tree : kind_of s ≡ 35 → (q : ℕ) → q ≡ number (take 2 (drop 4 s)) → Conditional while n q s a.at a.tree
  unfolding statement_body simples placed choose
  while-tree k q hq = let t = step k in conditional while t.left q t.high hq t.reads

  pub else-tree : kind_of s ≡ 34 → (q p : ℕ) → q ≡ number (take 2 (drop 4 s)) → p ≡ number (take 2 (drop (4 + q) s)) → Alternative n q p s a.at a.tree
  unfolding statement_body simples placed choose
  else-tree k q p hq hp =
      let t = step k in
      let c = a.at + 4 in
      let st : Reader Stmt = statement a.vars t.left in
      let hs = ends-statement a.vars t.left in
      let x = child-at a.at a.at n s t.high (ends-expression a.vars false t.left) (λ x. st >>= λ y. st >>= λ z. pure (if_else c x y z)) 4 q hq t.reads in
      let y = child-at a.at a.at n s t.high hs (λ y. st >>= λ z. pure (if_else c x.value y z)) (4 + q) p hp x.next in
      let z = child-at a.at a.at n s t.high hs (λ z. pure (if_else c x.value y.value z)) (4 + q + p) (number (take 2 (drop (4 + q + p) s))) refl y.next in
      let w = z.next in
      record {
        test = accepted _ _ _ _ a.few x.here;
        yes = accepted_by _ _ _ a.few y.here;
        no = accepted_by _ _ _ a.few z.here;
        yes_at = refl;
        no_at = refl;
        eight = x.low;
        mid = y.low;
        fits = y.fits;
        is = cc;
      }

  pub for-tree :
      kind_of s ≡ 36 →
      (q p r : ℕ) → q ≡ number (take 2 (drop 4 s)) → p ≡ number (take 2 (drop (4 + q) s)) → r ≡ number (take 2 (drop (4 + q + p) s)) →
      Repetition n q p r s a.at a.tree
  unfolding statement_body simples placed choose
  for-tree k q p r hq hp hr =
      let t = step k in
      let o = a.at + 4 in
      let u = a.at + (4 + q) in
      let v = a.at + (4 + q + p) in
      let e : Reader Expr = expression a.vars false t.left in
      let l : Reader Simple = loop_set a.vars t.left in
      let st : Reader Stmt = statement a.vars t.left in
      let hl = ends-loop-set a.vars t.left in
      let x = child-at a.at a.at n s t.high hl (λ i. here >>= λ c. e >>= λ x. here >>= λ b. l >>= λ k. st >>= λ y. pure (for o i c x b k y)) 4 q hq t.reads in
      let i = x.value in
      let y = child-at a.at a.at n s t.high (ends-expression a.vars false t.left) (λ x. here >>= λ b. l >>= λ k. st >>= λ y. pure (for o i u x b k y)) (4 + q) p hp x.next in
      let z = child-at a.at a.at n s t.high hl (λ k. st >>= λ w. pure (for o i u y.value v k w)) (4 + q + p) r hr y.next in
      let g = number (take 2 (drop (4 + q + p + r) s)) in
      let w = child-at a.at a.at n s t.high (ends-statement a.vars t.left) (λ w. pure (for o i u y.value v z.value w)) (4 + q + p + r) g refl z.next in
      let m = w.next in
      record {
        initial = accepted_by _ _ _ a.few x.here;
        test = accepted _ _ _ _ a.few y.here;
        closing = accepted_by _ _ _ a.few z.here;
        body = accepted_by _ _ _ a.few w.here;
        body_at = refl;
        eight = x.low;
        second = y.low;
        third = z.low;
        fits = z.fits;
        is = cc;
      }

  pub other-tree : Others (kind_of s) statement_kinds → ⊥
  unfolding statement_body simples placed refuse any
  other-tree h = unread (rw (choose-none _ _ h) at (step refl).reads)

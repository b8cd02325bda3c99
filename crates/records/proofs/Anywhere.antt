-- A record that is read in one place is read in any other: with more levels left, with another parent's offset, and whatever bytes follow it.
use Rattle.std.specs.Prelude.{if◌then◌else◌}
use Prim.Native.Nat.{ℕ, zero, suc, ◌+◌, ◌-◌, ◌≤◌}
use mathlib.Core.Path.{◌≡◌, refl, sym, ap, ◌∙◌}
use mathlib.Core.Bool.{Bool, true, false}
use mathlib.Core.List.{List, [], ◌∷◌}
use native.Mathlib.Omega.{arith}
use lib.Dec.{eqb, ltb}
use lib.ListN.{length, take, drop, length-take}
use lib.Seq.{take-take}
use Rattle.rules.specs.Basics.{choose, part, number}
use Rattle.rules.specs.Syntax.{Expr, binary, not, Simple, set, transfer, require, return}
use Rattle.rules.specs.Reading.{read, Reader, ◌>>=◌, ◌>>◌, pure, refuse, in_range, field, size_of, kind_of, whole, child}
use Rattle.rules.specs.Reading.{simples, set_body, expression_body, expression}
use Rattle.records.specs.Counting.{target}
use Rattle.records.specs.Acceptance.{simple_record}
use Rattle.grammar.proofs.Bytes.{drop-take, is_whole}
use Rattle.grammar.proofs.Readings.{then-read, child-read, child-reads}
use Rattle.records.proofs.Readers.{refused-never}
use Rattle.records.proofs.ExpressionLaws.{ends-expression}

-- ---- a reader that reads all that another reads

pub record Extends {A : Type 0} (r q : Reader A) : Type 0 where
  pub more : (start at : ℕ) (s : List ℕ) {a : A} {to : ℕ} {rest : List ℕ} → r start at s ≡ read a to rest → q start at s ≡ read a to rest

extends-same : {A : Type 0} (r : Reader A) → Extends r r
extends-same r = record { more = λ start at s e. e }

extends-then : {A B : Type 0} {r q : Reader A} {f g : A → Reader B} → Extends r q → ((a : A) → Extends (f a) (g a)) → Extends (r >>= f) (q >>= g)
extends-then {r = r} {q = q} {f = f} {g = g} h i =
    record {
      more = λ start at s e.
          let x = then-read r f start at s e in
          rw (h.more start at s x.here) ((i x.value).more start x.mid x.left x.next);
    }

extends-first :
    {A : Type 0} (n k : ℕ) {r q : Reader A} (rs qs : List (ℕ × Reader A)) (other : Reader A) →
    Extends r q → Extends (choose n rs other) (choose n qs other) → Extends (choose n ((k, r) ∷ rs) other) (choose n ((k, q) ∷ qs) other)
unfolding choose
extends-first n k {r} {q} rs qs other h i = go (eqb n k)
  where
    go : (b : Bool) → Extends (if b then r else choose n rs other) (if b then q else choose n qs other)
    go true = h
    go false = i

-- ---- bytes that begin with the same record

pub record Same (s t : List ℕ) (n : ℕ) : Type 0 where
  pub low : 4 ≤ n
  pub size : size_of s ≡ n
  pub high : n ≤ length s
  pub same : take n t ≡ take n s

module _ {s t : List ℕ} {n : ℕ} (h : Same s t n) where
  same-take : (k : ℕ) → k ≤ n → take k t ≡ take k s
  same-take k w = sym (take-take k n t w) ∙ ap (take k) h.same ∙ take-take k n s w

  same_size : size_of t ≡ n
  unfolding size_of
  same_size = ap number (same-take 2 (omega (arith, h.low))) ∙ h.size

  same_kind : kind_of t ≡ kind_of s
  unfolding kind_of
  same_kind = ap number (sym (drop-take 2 4 t) ∙ ap (drop 2) (same-take 4 h.low) ∙ drop-take 2 4 s)

  same-part : part 4 n t ≡ part 4 n s
  same-part = sym (drop-take 4 n t) ∙ ap (drop 4) h.same ∙ drop-take 4 n s

  same_whole : whole t ≡ true
  same_whole =
      let p = length-take n t in
      let q = length-take n s in
      is_whole t n same_size h.low (omega (arith, ap length h.same, h.high))

-- the record is read there too, and what follows it is left
pub child-anywhere :
    {A : Type 0} (body bodies : ℕ → Reader A) → ((kind : ℕ) → Extends (body kind) (bodies kind)) →
    (start other at : ℕ) (s t : List ℕ) {a : A} {to : ℕ} {rest : List ℕ} →
    take (size_of s) t ≡ take (size_of s) s →
    child body start at s ≡ read a to rest →
    child bodies other at t ≡ read a to (drop (size_of s) t)
child-anywhere body bodies h start other at s t {a} {to} e reads =
    let c = child-read body start at s reads in
    let n = size_of s in
    let x : Same s t n = record { low = c.long.low; size = refl; high = c.long.high; same = e } in
    let z : size_of t ≡ n = same_size x in
    let r : bodies (kind_of t) at (at + 4) (part 4 (size_of t) t) ≡ read a to [] = rw (same_kind x, z, same-part x) ((h (kind_of s)).more at (at + 4) (part 4 n s) c.reads) in
    child-reads bodies other at t (same_whole x) r ∙ rw z

-- what a part begins with, the whole has there too
pub part-begins : (b n k : ℕ) (s : List ℕ) → k ≤ n - b → take k (drop b s) ≡ take k (part b n s)
part-begins b n k s h = sym (take-take k (n - b) (drop b s) h)

-- ---- expressions and records of one step

module _ (vars : ℕ) where
  body-extends : (in_rule : Bool) {e d : Reader Expr} → Extends e d → (kind : ℕ) → Extends (expression_body vars in_rule e kind) (expression_body vars in_rule d kind)
  unfolding expression_body
  body-extends in_rule h kind =
      extends-first _ _ _ _ _ (extends-same _)
      (extends-first _ _ _ _ _ (extends-same _)
      (extends-first _ _ _ _ _ (extends-same _)
      (extends-first _ _ _ _ _ (extends-same _)
      (extends-first _ _ _ _ _ (extends-same _)
      (extends-first _ _ _ _ _ (extends-then (extends-same (field 2)) λ o. extends-then (extends-same (in_range (ltb o 11))) λ _.
      extends-then h λ x. extends-then h λ y. extends-same (pure (binary o x y)))
      (extends-first _ _ _ _ _ (extends-then h λ x. extends-same (pure (not x)))
      (extends-same _)))))))

  module _ (in_rule : Bool) where
    pub expression-anywhere :
        (l m : ℕ) → l ≤ m →
        (start other at : ℕ) (s t : List ℕ) {a : Expr} {to : ℕ} {rest : List ℕ} →
        take (size_of s) t ≡ take (size_of s) s →
        expression vars in_rule l start at s ≡ read a to rest →
        expression vars in_rule m other at t ≡ read a to (drop (size_of s) t)
    unfolding expression
    expression-anywhere zero m h start other at s t e reads = refused-never 5 start at s reads
    expression-anywhere (suc l) zero h start other at s t e reads = absurd (omega arith)
    expression-anywhere (suc l) (suc m) h start other at s t e reads =
        child-anywhere _ _ (body-extends in_rule record { more = λ start at s r. again start at s (expression-anywhere l m (omega arith) start start at s s refl r) r }) start other at s t e reads
      where
        again :
            (start at : ℕ) (s : List ℕ) {a : Expr} {to : ℕ} {rest : List ℕ} →
            expression vars in_rule m start at s ≡ read a to (drop (size_of s) s) →
            expression vars in_rule l start at s ≡ read a to rest →
            expression vars in_rule m start at s ≡ read a to rest
        again start at s {a} {to} q r = q ∙ ap (read a to) (sym ((ends-expression vars in_rule l).ends start at s r).leaves)

  extends-levels : (l m : ℕ) → l ≤ m → Extends (expression vars false l) (expression vars false m)
  extends-levels l m h =
      record {
        more = λ start at s {a} {to} r. expression-anywhere false l m h start start at s s refl r ∙ ap (read a to) (sym ((ends-expression vars false l).ends start at s r).leaves);
      }

  simples-extend : {e d : Reader Expr} → Extends e d → (kind : ℕ) → Extends (choose kind (simples vars e) (refuse 3)) (choose kind (simples vars d) (refuse 3))
  unfolding simples set_body
  simples-extend h kind =
      extends-first _ _ _ _ _ (extends-then (extends-same (field 2)) λ t. extends-then (extends-same (in_range (target vars t))) λ _. extends-then h λ x. extends-same (pure (set t x)))
      (extends-first _ _ _ _ _ (extends-then h λ x. extends-then h λ y. extends-same (pure (transfer x y)))
      (extends-first _ _ _ _ _ (extends-then h λ x. extends-same (pure (require x)))
      (extends-first _ _ _ _ _ (extends-then h λ x. extends-same (pure (return x)))
      (extends-same _))))

  pub simple-anywhere :
      (l m : ℕ) → l ≤ m →
      (start other at : ℕ) (s t : List ℕ) {a : Simple} {to : ℕ} {rest : List ℕ} →
      take (size_of s) t ≡ take (size_of s) s →
      simple_record vars l start at s ≡ read a to rest →
      simple_record vars m other at t ≡ read a to (drop (size_of s) t)
  unfolding simple_record
  simple-anywhere l m h start other at s t e reads = child-anywhere _ _ (simples-extend (extends-levels l m h)) start other at s t e reads

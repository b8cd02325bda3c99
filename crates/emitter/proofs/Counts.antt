-- Laws of the numbers that a record begins with, of joints and of nodes.
use Prim.Native.Nat.{ℕ, ◌+◌, ◌<◌}
use mathlib.Core.Path.{◌≡◌, refl, sym, ap, ◌∙◌}
use mathlib.Core.List.{List}
use native.Mathlib.Omega.{arith}
use lib.ListN.{take, drop}
use Rattle.rules.specs.Basics.{number}
use Rattle.rules.specs.Syntax.{Stmt, simple, block, if_then, if_else, while, for, Stmts, last, ◌then◌}
use Rattle.rules.specs.Reading.{size_of, kind_of}
use Rattle.rules.specs.Expanding.{joints, made, made_all}
use Rattle.records.specs.Counting.{step_count}
use Rattle.records.specs.Acceptance.{Good}
use Rattle.records.specs.Kinds.{number_of}
use Rattle.records.specs.declared.kind.Kind.{Kind}
use Rattle.records.proofs.KindLaws.{Others, statement_kinds}
use Rattle.records.proofs.Goods.{other-tree}
use Rattle.records.proofs.StepCounts.{count-simple, count-last, count-more, count-if, count-while, count-else, count-for}

-- what `u16_at` reads of a record's first fields
pub size_is : (s : List ℕ) {n : ℕ} → n ≡ number (take 2 (drop 0 s)) → n ≡ size_of s
unfolding size_of
size_is s h = h

pub kind-is : (s : List ℕ) {k : ℕ} → k ≡ number (take 2 (drop 2 s)) → k ≡ kind_of s
unfolding kind_of
kind-is s h = h

pub kind-of : (s : List ℕ) {k : ℕ} {x y : Kind} → k ≡ number (take 2 (drop 2 s)) → number_of x ≡ k → x ≡ y → kind_of s ≡ number_of y
kind-of s e n is = sym (kind-is s e) ∙ sym n ∙ ap number_of is

-- a statement has a statement's kind
pub no_other : {s : List ℕ} {k : ℕ} → Good s → k ≡ number (take 2 (drop 2 s)) → Others k statement_kinds → ⊥
no_other {s} a e h = other-tree refl a (rw (← kind-is s e) h)

pub joints-last : (s : Stmt) {ss : Stmts} → ss ≡ last s → joints ss ≡ 0
unfolding joints
joints-last s h = ap joints h

pub joints-more : (s : Stmt) (rest : Stmts) {ss : Stmts} → ss ≡ s then rest → joints ss ≡ joints rest + 1
unfolding joints
joints-more s rest h = ap joints h

mutual
  unfolding made made_all joints

  -- a statement makes fewer nodes than steps
  pub made-few : (s : Stmt) → made s < step_count s
  made-few (simple at x) = omega (arith, count-simple at x)
  made-few (block ss) = all-few ss
  made-few (if_then at c s) = omega (arith, count-if at c s, made-few s)
  made-few (if_else at c s t) = omega (arith, count-else at c s t, made-few s, made-few t)
  made-few (while at c s) = omega (arith, count-while at c s, made-few s)
  made-few (for a i at c b k s) = omega (arith, count-for a i at c b k s, made-few s)

  all-few : (ss : Stmts) → joints ss + made_all ss < step_count (block ss)
  all-few (last s) = omega (arith, count-last s, made-few s)
  all-few (s then ss) = omega (arith, count-more s ss, made-few s, all-few ss)

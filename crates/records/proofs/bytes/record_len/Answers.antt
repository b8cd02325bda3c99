-- `record_len` meets its contract.
use Prim.Native.Nat.{ℕ, ◌≤◌}
use mathlib.Core.Bool.{Bool, true, false, false≢true, ◌&&◌}
use mathlib.Core.Path.{◌≡◌, sym, ◌∙◌}
use mathlib.Core.List.{List}
use native.Mathlib.Omega.{arith}
use lib.Dec.{leb}
use lib.ListN.{length}
use borrow.Author.Tests.{leb-true, le-leb}
use Rattle.std.specs.Option.{IfSome}
use Rattle.std.specs.Bool.{then_some}
use borrow.Author.Rules.{rules}
use Rattle.rules.specs.Reading.{size_of}
use Rattle.records.specs.Checking.{length_of}
use Rattle.laws.proofs.Basics.{both-true}
use Rattle.grammar.proofs.Bytes.{whole-record}
use Rattle.records.proofs.Parts.{length_none, length_some}
use Rattle.records.proofs.bytes.record_len.Goals as goal

module _ (s : List ℕ) (n : ℕ) where
  -- a length that may be is answered, and no other
  answered : (b : Bool) → n ≡ size_of s → b ≡ (leb 4 n && leb n (length s)) → then_some b n ≡ length_of s
  answered true e h =
      let i = both-true (leb 4 n) (leb n (length s)) (sym h) in
      length_some s n e (leb-true _ _ i.0) (leb-true _ _ i.1)
  answered false e h =
      length_none s λ w.
      let low : 4 ≤ n = omega (arith, (whole-record s w).low, e) in
      let high : n ≤ length s = omega (arith, (whole-record s w).high, e) in
      false≢true (h ∙ rw (le-leb _ _ low) (le-leb _ _ high))

  inside : (b : Bool) → b ≡ (leb 4 n && leb n (length s)) → IfSome (then_some b n) (λ n. (4 ≤ n) × (n ≤ length s))
  inside true h =
      let i = both-true (leb 4 n) (leb n (length s)) (sym h) in
      (leb-true _ _ i.0, leb-true _ _ i.1)
  inside false h = tt

pub returns-then-s-lt4-clause-is : goal.returns-then-s-lt4-clause-is
returns-then-s-lt4-clause-is c =
    let s = c.args.s.now in
    length_none s λ w. omega (arith, (whole-record s w).low, (whole-record s w).high)

pub returns-clause-is : goal.returns-clause-is
unfolding size_of
returns-clause-is c =
    let s = c.args.s.now in
    let n = c.u16_at-n.result in
    let z : c.contains.result ≡ (leb 4 n && leb n (length s)) = search rules in
    c.then_some.ensures ∙ answered s n c.contains.result c.u16_at-n.ensures.0 z

pub returns-clause-within : goal.returns-clause-within
returns-clause-within c =
    let s = c.args.s.now in
    let n = c.u16_at-n.result in
    let z : c.contains.result ≡ (leb 4 n && leb n (length s)) = search rules in
    rw c.then_some.ensures (inside s n c.contains.result z)

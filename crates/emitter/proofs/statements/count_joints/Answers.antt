-- Each statement that is left has a joint before it.
use Prim.Native.Nat.{◌+◌, ◌≤◌}
use mathlib.Core.Path.{refl, sym, ap, ◌∙◌}
use native.Mathlib.Omega.{arith}
use lib.ListN.{length, take, drop}
use Rattle.rules.specs.Basics.{number}
use Rattle.records.specs.Acceptance.{GoodAll}
use Rattle.records.specs.Checking.{from}
use Rattle.grammar.proofs.Bytes.{part-all}
use Rattle.records.proofs.Parts.{from-length}
use Rattle.records.proofs.GoodBlocks.{moved, turn}
use Rattle.emitter.proofs.Blocks.{Counted, counted-more}
use Rattle.emitter.proofs.statements.count_joints.Goals.{After-u16_at-k-in-loop-k}
use Rattle.emitter.proofs.statements.count_joints.Goals as goal

pub u16_at-k-requires : goal.u16_at-k-requires
u16_at-k-requires c =
    let s = c.args.s.now in
    let t = turn 0 _ s refl (moved (sym (part-all 0 s)) c.requires.0) in
    omega (arith, t.low, t.fits)

pub loop-k-init : goal.loop-k-init
loop-k-init c =
    let s = c.args.s.now in
    let e = c.u16_at-k.ensures.0 ∙ ap (λ l. number (take 2 (drop 0 l))) (sym (part-all 0 s)) in
    let whole : GoodAll s → GoodAll (from 0 s) = moved (sym (part-all 0 s)) in
    let x = counted-more c.requires.0 0 _ 0 (omega arith) (whole c.requires.0) e (omega arith) in
    (x.0, omega (arith, x.1), λ a. (counted-more a 0 _ 0 (omega arith) (whole a) e (omega arith)).2)

pub u16_at-k-requires-in-loop-k : goal.u16_at-k-requires-in-loop-k
u16_at-k-requires-in-loop-k c =
    let s = c.args.s.now in
    let t = turn c.loop-k.k _ s refl ((c.loop-k.invariant.2 c.requires.0).more c.loop-k-test.true).0 in
    omega (arith, from-length c.loop-k.k s, t.low, t.fits)

-- the joints that are counted after the statement that was passed
one :
    (c : After-u16_at-k-in-loop-k) (a : GoodAll c.args.s.now) →
    let s = c.args.s.now in
    let n = c.loop-k.k + c.u16_at-k-in-loop-k.result in
    (n ≤ length s) × (c.loop-k.k + 4 ≤ n) × Counted a n (c.loop-k.count + 1)
one c a = let g = (c.loop-k.invariant.2 a).more c.loop-k-test.true in counted-more a c.loop-k.k _ (c.loop-k.count + 1) refl g.0 c.u16_at-k-in-loop-k.ensures.0 g.1

pub loop-k-smaller : goal.loop-k-smaller
loop-k-smaller c = omega (arith, one (goal.at.loop-k-smaller c).After-u16_at-k-in-loop-k c.requires.0)

pub loop-k-preserved : goal.loop-k-preserved
loop-k-preserved c =
    let x = one (goal.at.loop-k-preserved c).After-u16_at-k-in-loop-k in
    let z = x c.requires.0 in
    (z.0, omega (arith, z.1, c.loop-k.invariant.1), λ a. (x a).2)

pub returns : goal.returns
returns c = λ a. sym ((c.loop-k.invariant.2 a).done c.loop-k-test.false)

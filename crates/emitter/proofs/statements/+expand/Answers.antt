-- The functions that call one another meet their contracts.
use Prim.Native.Nat.{◌+◌, ◌≤◌}
use mathlib.Core.Path.{◌≡◌, refl, ◌∙◌}
use native.Mathlib.Omega.{arith}
use Rattle.rules.specs.Expanding.{joints}
use Rattle.grammar.proofs.Bytes.{part_length}
use Rattle.records.proofs.KindLaws.{done, ◌&◌, other-number, other-kind, statement_kinds}
use Rattle.records.proofs.Parts.{from-length}
use Rattle.records.proofs.GoodBlocks.{turn}
use Rattle.records.proofs.Goods.{sized, else-tree, for-tree, block-tree}
use Rattle.emitter.specs.Writing.{of_if, of_while}
use Rattle.emitter.proofs.Counts.{size_is, kind-of, no_other}
use Rattle.emitter.proofs.Bounds.{good_length, part_first, part_makes}
use Rattle.emitter.proofs.Blocks.{starts, last-ends, more-follow, first-fit, ends-block, goes_on, next-turn}
use Rattle.emitter.proofs.Fits.{guarded-tree, guarded-fit, yes-fit, no-fit, for-steps, body-fit, block_fit}
use Rattle.emitter.proofs.Forms.{guarded-expanded, else-expanded, for-expanded, set-expanded, transfer-expanded, require-expanded, return-expanded}
use Rattle.emitter.proofs.statements.+expand.Goals as goal

-- `expand_block`

pub expand_block-loop-j-init : goal.expand_block-loop-j-init
expand_block-loop-j-init t c = (omega arith, refl, (refl, refl), λ a f. starts a f.here (c.count_joints-count.ensures a) c.after-next.ensures.node (omega arith))

pub expand_block-expand_statement-next-requires : goal.expand_block-expand_statement-next-requires
expand_block-expand_statement-next-requires t c =
    let l = c.loop-j.invariant.3 c.requires.0 c.requires.1 in
    let x = turn c.loop-j.k _ c.args.s.now refl l.left in (
      omega (arith, from-length c.loop-j.k c.args.s.now, c.decreases),
      (x.first, first-fit c.requires.1 l x c.loop-j.invariant.1),
    )

pub expand_block-u16_at-k-requires : goal.expand_block-u16_at-k-requires
expand_block-u16_at-k-requires t c =
    let s = c.args.s.now in
    let x = turn c.loop-j.k _ s refl (c.loop-j.invariant.3 c.requires.0 c.requires.1).left in
    omega (arith, from-length c.loop-j.k s, x.low, x.fits)

pub expand_block-loop-j-preserved : goal.expand_block-loop-j-preserved
expand_block-loop-j-preserved t c =
    let l = c.loop-j.invariant.3 c.requires.0 c.requires.1 in (
      (next-turn c.loop-j.k c.args.s.now c.u16_at-k.ensures.0 l.left).fits,
      c.expand_statement-next.auto.words ∙ c.loop-j.invariant.1,
      c.loop-j.invariant.2,
      λ a f.
          let l = c.loop-j.invariant.3 a f in
          let x = next-turn c.loop-j.k c.args.s.now c.u16_at-k.ensures.0 l.left in
          let m : 1 ≤ joints l.left.tree = omega (arith, l.joint, c.count_joints-count.ensures a) in
          goes_on f l x c.loop-j.invariant.1 (more-follow f l x m) (rw c.loop-j.invariant.2.1 at c.between.ensures)
          (c.expand_statement-next.ensures x.first (first-fit f l x c.loop-j.invariant.1)),
    )

pub expand_block-expand_statement-requires : goal.expand_block-expand_statement-requires
expand_block-expand_statement-requires t c =
    let l = c.loop-j.invariant.3 c.requires.0 c.requires.1 in
    let x = turn c.loop-j.k _ c.args.s.now refl l.left in (
      omega (arith, from-length c.loop-j.k c.args.s.now, c.decreases),
      (x.first, first-fit c.requires.1 l x c.loop-j.invariant.1),
    )

pub expand_block-returns : goal.expand_block-returns
expand_block-returns t c =
    λ a f.
    let l = c.loop-j.invariant.3 a f in
    let x = turn c.loop-j.k _ c.args.s.now refl l.left in
    let m : joints l.left.tree ≡ 0 = omega (arith, l.joint, c.count_joints-count.ensures a) in
    ends-block f l x (last-ends f l x m) (rw (c.loop-j.invariant.2.0, c.loop-j.invariant.2.1) refl) (c.expand_statement.ensures x.first (first-fit f l x c.loop-j.invariant.1))

-- `expand_else`

pub expand_else-expand_statement-second-requires : goal.expand_else-expand_statement-second-requires
expand_else-expand_statement-second-requires t c =
    let n = size_is c.args.s.now c.u16_at-n.ensures.0 in
    let w = sized n c.requires.1.0 in
    let v = c.write_condition-first in
    let x = else-tree n c.requires.1.0 c.requires.0 _ _ c.u16_at-b.ensures.0 c.u16_at.ensures.0 in (
      omega (arith, part_length (4 + c.u16_at-b.result) c.u16_at-n.result c.args.s.now w.1, w.1, x.mid, c.decreases),
      (x.yes, yes-fit w.1 c.requires.1.1 x (omega (arith, v.ensures.node)) (omega (arith, v.ensures.step)) v.auto.words),
    )

pub expand_else-expand_statement-requires : goal.expand_else-expand_statement-requires
expand_else-expand_statement-requires t c =
    let n = size_is c.args.s.now c.u16_at-n.ensures.0 in
    let w = sized n c.requires.1.0 in
    let v = c.write_condition-first in
    let f = c.requires.1.1 in
    let x = else-tree n c.requires.1.0 c.requires.0 _ _ c.u16_at-b.ensures.0 c.u16_at.ensures.0 in
    let y = c.expand_statement-second.ensures x.yes (yes-fit w.1 f x (omega (arith, v.ensures.node)) (omega (arith, v.ensures.step)) v.auto.words) in
    let same = c.expand_statement-second.auto.words ∙ v.auto.words in (
      omega (arith, part_length (4 + c.u16_at-b.result + c.u16_at.result) c.u16_at-n.result c.args.s.now w.1, w.1, x.mid, x.fits, c.decreases),
      (x.no, no-fit w.1 f x (omega (arith, v.ensures.node, y.node)) (omega (arith, v.ensures.step, y.step)) same),
    )

pub expand_else-returns : goal.expand_else-returns
expand_else-returns t c =
    λ a f.
    let n = size_is c.args.s.now c.u16_at-n.ensures.0 in
    let w = sized n c.requires.1.0 in
    let v = c.write_condition-first in
    let x = else-tree n a c.requires.0 _ _ c.u16_at-b.ensures.0 c.u16_at.ensures.0 in
    let y = c.expand_statement-second.ensures x.yes (yes-fit w.1 f x (omega (arith, v.ensures.node)) (omega (arith, v.ensures.step)) v.auto.words) in
    let same = c.expand_statement-second.auto.words ∙ v.auto.words in
    else-expanded x f c.after.ensures.node (omega arith) c.between-yes.ensures c.between-no.ensures v.ensures y
    (c.expand_statement.ensures x.no (no-fit w.1 f x (omega (arith, v.ensures.node, y.node)) (omega (arith, v.ensures.step, y.step)) same))

-- `expand_for`

pub expand_for-expand_statement-third-requires : goal.expand_for-expand_statement-third-requires
expand_for-expand_statement-third-requires t c =
    let n = size_is c.args.s.now c.u16_at-n.ensures.0 in
    let w = sized n c.requires.1.0 in
    let v = c.write_condition-second in
    let z = c.write_one-first in
    let x = for-tree n c.requires.1.0 c.requires.0 _ _ _ c.u16_at-b.ensures.0 c.u16_at.ensures.0 c.u16_at-2.ensures.0 in
    let b = 4 + c.u16_at-b.result + c.u16_at.result + c.u16_at-2.result in (
      omega (arith, part_length b c.u16_at-n.result c.args.s.now w.1, w.1, x.eight, x.fits, c.decreases),
      (x.body, body-fit w.1 c.requires.1.1 x (omega (arith, z.ensures.node, v.ensures.node)) (omega (arith, z.ensures.step, v.ensures.step)) (v.auto.words ∙ z.auto.words)),
    )

pub expand_for-write_one-requires : goal.expand_for-write_one-requires
expand_for-write_one-requires t c =
    let n = size_is c.args.s.now c.u16_at-n.ensures.0 in
    let w = sized n c.requires.1.0 in
    let v = c.write_condition-second in
    let z = c.write_one-first in
    let f = c.requires.1.1 in
    let x = for-tree n c.requires.1.0 c.requires.0 _ _ _ c.u16_at-b.ensures.0 c.u16_at.ensures.0 c.u16_at-2.ensures.0 in
    let same = v.auto.words ∙ z.auto.words in
    let fit = body-fit w.1 f x (omega (arith, z.ensures.node, v.ensures.node)) (omega (arith, z.ensures.step, v.ensures.step)) same in
    let y = c.expand_statement-third.ensures x.body fit in (
      omega (arith, f.room, for-steps x, z.ensures.step, v.ensures.step, y.step, c.expand_statement-third.auto.words, same),
      omega (arith, f.offsets, x.third, w.1),
    )

pub expand_for-returns : goal.expand_for-returns
expand_for-returns t c =
    λ a f.
    let n = size_is c.args.s.now c.u16_at-n.ensures.0 in
    let w = sized n c.requires.1.0 in
    let v = c.write_condition-second in
    let z = c.write_one-first in
    let x = for-tree n a c.requires.0 _ _ _ c.u16_at-b.ensures.0 c.u16_at.ensures.0 c.u16_at-2.ensures.0 in
    let fit = body-fit w.1 f x (omega (arith, z.ensures.node, v.ensures.node)) (omega (arith, z.ensures.step, v.ensures.step)) (v.auto.words ∙ z.auto.words) in
    for-expanded x f c.after.ensures.node (omega arith) c.between-body.ensures z.ensures v.ensures (c.expand_statement-third.ensures x.body fit) c.write_one.ensures

-- `expand_part`

pub expand_part-u16_at-n-requires : goal.expand_part-u16_at-n-requires
expand_part-u16_at-n-requires t c = omega (arith, good_length c.requires.1.0)

pub expand_part-u16_at-b-requires : goal.expand_part-u16_at-b-requires
expand_part-u16_at-b-requires t c = let x = part_first c.requires.1.0 c.requires.0 in omega arith

pub expand_part-after-requires-clause-nodes_fit : goal.expand_part-after-requires-clause-nodes_fit
expand_part-after-requires-clause-nodes_fit t c = omega (arith, part_makes c.requires.1.0 c.requires.0, c.requires.1.1.nodes)

pub expand_part-write_condition-first-requires : goal.expand_part-write_condition-first-requires
expand_part-write_condition-first-requires t c =
    let f = c.requires.1.1 in
    let x = part_makes c.requires.1.0 c.requires.0 in
    let y = part_first c.requires.1.0 c.requires.0 in
    (omega (arith, f.room), omega (arith, f.offsets))

pub expand_part-slice_bounds-expand_statement-start : goal.expand_part-slice_bounds-expand_statement-start
expand_part-slice_bounds-expand_statement-start t c = let x = part_first c.requires.1.0 c.requires.0 in omega (arith, c.u16_at-b.ensures, c.u16_at-n.ensures)

pub expand_part-slice_bounds-expand_statement-end : goal.expand_part-slice_bounds-expand_statement-end
expand_part-slice_bounds-expand_statement-end t c = let x = part_first c.requires.1.0 c.requires.0 in omega (arith, c.u16_at-n.ensures)

pub expand_part-slice_bounds-expand_statement-count : goal.expand_part-slice_bounds-expand_statement-count
expand_part-slice_bounds-expand_statement-count t c = let x = part_first c.requires.1.0 c.requires.0 in omega (arith, c.u16_at-b.ensures, c.u16_at-n.ensures)

pub expand_part-expand_statement-requires : goal.expand_part-expand_statement-requires
expand_part-expand_statement-requires t c =
    let n = size_is c.args.s.now c.u16_at-n.ensures.0 in
    let w = sized n c.requires.1.0 in
    let v = c.write_condition-first in
    let x = guarded-tree n c.requires.1.0 c.requires.0 _ c.u16_at-b.ensures.0 in (
      omega (arith, part_length (4 + c.u16_at-b.result) c.u16_at-n.result c.args.s.now w.1, w.1, x.fits, x.eight, c.decreases),
      (x.body, guarded-fit w.1 c.requires.1.1 x (omega (arith, v.ensures.node)) (omega (arith, v.ensures.step)) v.auto.words),
    )

pub expand_part-returns : goal.expand_part-returns
expand_part-returns t c =
    λ a f.
    let n = size_is c.args.s.now c.u16_at-n.ensures.0 in
    let w = sized n c.requires.1.0 in
    let v = c.write_condition-first in
    let x = guarded-tree n a c.requires.0 _ c.u16_at-b.ensures.0 in
    let g = guarded-fit w.1 f x (omega (arith, v.ensures.node)) (omega (arith, v.ensures.step)) v.auto.words in
    guarded-expanded x f c.after.ensures.node (omega arith) c.between.ensures v.ensures (c.expand_statement.ensures x.body g)

-- `expand_statement`

pub expand_statement-returns-in-Set : goal.expand_statement-returns-in-Set
expand_statement-returns-in-Set t c =
    λ a f.
    let s = c.args.s.now in
    set-expanded (size_is s c.u16_at-n.ensures.0) a f.here (kind-of s c.u16_at.ensures.0 c.in-Ok.ensures c.in-Set.is) c.write_one.ensures

pub expand_statement-returns-in-Transfer : goal.expand_statement-returns-in-Transfer
expand_statement-returns-in-Transfer t c =
    λ a f.
    let s = c.args.s.now in
    transfer-expanded (size_is s c.u16_at-n.ensures.0) a f.here (kind-of s c.u16_at.ensures.0 c.in-Ok.ensures c.in-Transfer.is) c.write_one-in-Transfer.ensures

pub expand_statement-returns-in-Require : goal.expand_statement-returns-in-Require
expand_statement-returns-in-Require t c =
    λ a f.
    let s = c.args.s.now in
    require-expanded (size_is s c.u16_at-n.ensures.0) a f.here (kind-of s c.u16_at.ensures.0 c.in-Ok.ensures c.in-Require.is) c.write_one-in-Require.ensures

pub expand_statement-returns-in-Return : goal.expand_statement-returns-in-Return
expand_statement-returns-in-Return t c =
    λ a f.
    let s = c.args.s.now in
    return-expanded (size_is s c.u16_at-n.ensures.0) a f.here (kind-of s c.u16_at.ensures.0 c.in-Ok.ensures c.in-Return.is) c.write_one-in-Return.ensures

pub expand_statement-expand_block-requires : goal.expand_statement-expand_block-requires
expand_statement-expand_block-requires t c =
    let s = c.args.s.now in
    let n = size_is s c.u16_at-n.ensures.0 in
    let w = sized n c.requires.0 in
    let x = block-tree n c.requires.0 (kind-of s c.u16_at.ensures.0 c.in-Ok.ensures c.in-Block.is) in
    (omega (arith, part_length 4 c.u16_at-n.result s w.1, w.1, w.0, c.decreases), (x.inner, block_fit w.1 c.requires.1 w.0 x))

pub expand_statement-returns-in-Block : goal.expand_statement-returns-in-Block
expand_statement-returns-in-Block t c =
    λ a f.
    let s = c.args.s.now in
    let n = size_is s c.u16_at-n.ensures.0 in
    let w = sized n c.requires.0 in
    let x = block-tree n a (kind-of s c.u16_at.ensures.0 c.in-Ok.ensures c.in-Block.is) in
    rw x.is (c.expand_block.ensures x.inner (block_fit w.1 f w.0 x))

pub expand_statement-expand_part-requires : goal.expand_statement-expand_part-requires
expand_statement-expand_part-requires t c =
    let s = c.args.s.now in
    (omega arith, (of_if (kind-of s c.u16_at.ensures.0 c.in-Ok.ensures c.in-If.is) refl, c.requires))

pub expand_statement-expand_part-requires-in-While : goal.expand_statement-expand_part-requires-in-While
expand_statement-expand_part-requires-in-While t c =
    let s = c.args.s.now in
    (omega arith, (of_while (kind-of s c.u16_at.ensures.0 c.in-Ok.ensures c.in-While.is) refl, c.requires))

pub expand_statement-returns-in-If : goal.expand_statement-returns-in-If
expand_statement-returns-in-If t c = c.expand_part.ensures

pub expand_statement-returns-in-While : goal.expand_statement-returns-in-While
expand_statement-returns-in-While t c = c.expand_part-in-While.ensures

pub expand_statement-expand_else-requires : goal.expand_statement-expand_else-requires
expand_statement-expand_else-requires t c =
    let s = c.args.s.now in
    (omega arith, (kind-of s c.u16_at.ensures.0 c.in-Ok.ensures c.in-IfElse.is, c.requires))

pub expand_statement-expand_for-requires : goal.expand_statement-expand_for-requires
expand_statement-expand_for-requires t c =
    let s = c.args.s.now in
    (omega arith, (kind-of s c.u16_at.ensures.0 c.in-Ok.ensures c.in-For.is, c.requires))

pub expand_statement-returns-in_default : goal.expand_statement-returns-in_default
expand_statement-returns-in_default t c = absurd (no_other c.requires.0 c.u16_at.ensures.0 (other-number c.in_default.ensures statement_kinds))

pub expand_statement-returns-in_default-kind : goal.expand_statement-returns-in_default-kind
expand_statement-returns-in_default-kind t c =
    let d = c.in_default-kind in
    absurd (no_other c.requires.0 c.u16_at.ensures.0 (other-kind c.in-Ok.ensures
    (d.not-Set & d.not-Transfer & d.not-Require & d.not-Return & d.not-Block & d.not-If & d.not-IfElse & d.not-While & d.not-For & done)))

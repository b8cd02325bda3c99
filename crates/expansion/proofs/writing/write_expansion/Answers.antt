-- `write_expansion` meets its contract.
use Prim.Native.Nat.{◌+◌, ◌≤◌}
use mathlib.Core.Path.{refl}
use native.Mathlib.Omega.{arith}
use lib.ListN.{length, take, drop}
use Rattle.rules.specs.Basics.{number}
use Rattle.access.specs.Places.{past}
use Rattle.access.proofs.Groups.{further}
use Rattle.access.proofs.Finding.{all-passed}
use Rattle.access.proofs.Using.{tree_of}
use Rattle.expansion.proofs.Files.{laid-out, has_room}
use Rattle.expansion.proofs.Transitions.{reached-none, standing-fits, next-ready, next-reached, all-written}
use Rattle.expansion.proofs.writing.write_expansion.Goals.{In-loop}
use Rattle.expansion.proofs.writing.write_expansion.Goals as goal

-- the transition that is next is within the file
fits :
    (c : In-loop) → let file = c.args.parsed.now.file.now in
    (c.loop.at + 12 ≤ length file) × (c.loop.at + number (take 2 (drop c.loop.at file)) ≤ length file)
fits c = standing-fits (laid-out c.args.parsed.now c.requires).0 c.loop.counter c.loop.at (omega arith) c.loop.invariant.0

pub loop-init : goal.loop-init
unfolding past
loop-init c = (refl, λ a. reached-none a.tree.transitions _ _)

pub slice_bounds-expand_transition-count : goal.slice_bounds-expand_transition-count
slice_bounds-expand_transition-count c = omega (arith, fits c)

pub slice_bounds-expand_transition-start : goal.slice_bounds-expand_transition-start
slice_bounds-expand_transition-start c = omega (arith, fits c)

pub expand_transition-next-requires : goal.expand_transition-next-requires
expand_transition-next-requires c =
    let h = laid-out c.args.parsed.now c.requires in
    let a = h.1.accepted in
    let w = c.write_actions-next in
    next-ready h.0 h.1 a (w.ensures a) w.auto.words (omega arith) c.loop.invariant.0 (c.loop.invariant.1 a)

pub u16_at-at-requires : goal.u16_at-at-requires
u16_at-at-requires c = omega (arith, fits (goal.at.u16_at-at-requires c).In-loop)

pub overflow_add-at : goal.overflow_add-at
overflow_add-at c = omega (arith, fits (goal.at.overflow_add-at c).In-loop)

pub loop-preserved : goal.loop-preserved
loop-preserved c =
    let h = laid-out c.args.parsed.now c.requires in
    let w = c.write_actions-next in
    let l = c.loop in (
      further c.args.parsed.now.file.now _ l.counter l.at c.u16_at-at.result l.invariant.0 c.u16_at-at.ensures.0,
      λ a. next-reached h.0 h.1 a (w.ensures a) w.auto.words (omega arith) l.invariant.0 (l.invariant.1 a) c.expand_transition-next.ensures,
    )

pub returns : goal.returns
returns c =
    λ a.
    let h = laid-out c.args.parsed.now c.requires in
    all-written a.tree (has_room h.1 a) (c.write_actions-next.ensures a) (c.loop.invariant.1 a)
    (all-passed h.0 (tree_of a) c.loop.counter (omega arith))

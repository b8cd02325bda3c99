-- `write_nodes` meets its contract.
use Prim.Native.Nat.{ℕ, ◌+◌, ◌-◌}
use mathlib.Core.Path.{ap, ◌∙◌}
use native.Mathlib.Omega.{arith}
use lib.ListN.{length, length-replicate, length-set}
use Rattle.rules.specs.Expanding.{expansion}
use Rattle.walker.proofs.Bounds.{few, within}
use Rattle.walker.proofs.Indexes.{index-none, index-more, index-all}
use Rattle.walker.proofs.index.write_nodes.Goals as goal

pub loop-i-init : goal.loop-i-init
loop-i-init c = (ap length c.requires.1 ∙ length-replicate {A = ℕ} 1091 0, λ file a e. rw c.requires.1 (index-none 1091 c.args.steps (expansion a.tree) e))

pub step_at-origin-requires : goal.step_at-origin-requires
step_at-origin-requires c = omega (arith, (within c.requires.0 (c.loop-i.i - 1) (omega arith)).step.room)

pub overflow_cast-nodes : goal.overflow_cast-nodes
overflow_cast-nodes c = omega (arith, few c.requires.0)

pub overflow_add-nodes : goal.overflow_add-nodes
overflow_add-nodes c = omega (arith, few c.requires.0)

pub bounds-nodes-origin : goal.bounds-nodes-origin
bounds-nodes-origin c = omega (arith, (within c.requires.0 (c.loop-i.i - 1) (omega arith)).origin, c.step_at-origin.ensures.origin)

pub loop-i-preserved : goal.loop-i-preserved
loop-i-preserved c =
    let o = c.step_at-origin.ensures.origin in (
      length-set c.loop-i.nodes c.step_at-origin.result.origin (c.loop-i.i - 1 + 1) ∙ c.loop-i.invariant.0,
      λ file a e.
          let w = within (record { file = file; expanded = a; counts = e }) (c.loop-i.i - 1) (omega arith) in
          index-more c.loop-i.nodes w.step (omega arith) o (omega (arith, o, w.origin, c.loop-i.invariant.0)) (c.loop-i.invariant.1 file a e),
    )

pub returns : goal.returns
returns c = λ file a e. index-all (expansion a.tree) c.loop-i.nodes (omega arith) c.loop-i.invariant.0 (c.loop-i.invariant.1 file a e)

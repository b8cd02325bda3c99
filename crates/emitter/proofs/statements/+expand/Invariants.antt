use Prim.Native.Nat.{◌≤◌}
use mathlib.Core.Path.{◌≡◌}
use lib.ListN.{length}
use Rattle.rules.specs.Syntax.{block}
use Rattle.records.specs.Acceptance.{GoodAll}
use Rattle.emitter.specs.Writing.{Fit}
use Rattle.emitter.proofs.Blocks.{Left}
use Prim.Native.Nat.{◌+◌, ◌≤◌}
use mathlib.Core.Path.{◌≡◌}
use Prim.Native.Nat.{◌+◌, ◌*◌}
use Rattle.emitter.proofs.statements.+expand.Given as goal

abbrev pub invariant-expand_block-loop-j : goal.invariant-expand_block-loop-j
invariant-expand_block-loop-j l =
    (l.k ≤ length l.s) × (length l.words ≡ length l.initial.words) × ((l.left.d ≡ l.fn.ends.d) × (l.left.r ≡ l.fn.ends.r))
    × ((a : GoodAll l.s) → Fit (block a.tree) a.at l.at l.fn.next l.s l.initial.words → Left a.tree l.at l.fn.ends l.fn.next l.s l.initial.words l.k l.left.o l.j l.next l.words)

abbrev pub decreases-expand_block : goal.decreases-expand_block
decreases-expand_block l = 2 * length l.s.now + 2

abbrev pub decreases-expand_else : goal.decreases-expand_else
decreases-expand_else l = 2 * length l.s.now

abbrev pub decreases-expand_for : goal.decreases-expand_for
decreases-expand_for l = 2 * length l.s.now

abbrev pub decreases-expand_part : goal.decreases-expand_part
decreases-expand_part l = 2 * length l.s.now

abbrev pub decreases-expand_statement : goal.decreases-expand_statement
decreases-expand_statement l = 2 * length l.s.now + 1

-- None of the transitions that were passed has the name and origin.
use Prim.Native.Nat.{ℕ}
use mathlib.Core.Path.{◌≡◌, refl, sym, ap, ◌∙◌}
use native.Mathlib.Omega.{arith}
use lib.ListN.{take}
use Rattle.rules.specs.Basics.{any}
use Rattle.access.specs.Trees.{TreeRead}
use Rattle.access.specs.Places.{past}
use Rattle.access.specs.FoundAnswers.{same}
use Rattle.access.proofs.Kept.{laid-of}
use Rattle.access.proofs.Groups.{further}
use Rattle.access.proofs.Finding.{Here, here, among-here, among-no-name, among-no-origin}
use Rattle.access.proofs.parsed.Parsed.is_among.Goals.{In-loop, else-file-at-via-then-file-at+else-file-at-2, else-file-at-via-else-file-at}
use Rattle.access.proofs.parsed.Parsed.is_among.Goals as goal

-- the transition that is looked at
one :
    (c : In-loop) (a : TreeRead c.args.self.now.file.now) →
    Here c.args.self.now.file.now a.tree c.loop.at c.loop.counter
one c a = here (laid-of c.args.self.now.laid) c.loop.counter c.loop.at (omega arith) c.loop.invariant.0 a

pub loop-init : goal.loop-init
unfolding past any
loop-init c = (refl, λ a. refl)

pub returns-then-file-at-2 : goal.returns-then-file-at-2
returns-then-file-at-2 c =
    let v = (goal.at.returns-then-file-at-2 c).In-loop in
    let s = v.args in
    λ a. sym (among-here (one v a) s.n s.name s.from c.if-file-at.true c.if-file-at-2.true (omega arith))

pub loop-preserved : goal.loop-preserved
loop-preserved c =
    let v = (goal.at.loop-preserved c).In-loop in
    let s = v.args in (
      further s.self.now.file.now _ v.loop.counter v.loop.at c.u16_at-at.result v.loop.invariant.0 c.u16_at-at.ensures.0,
      λ a.
          elim c.else-file-at.branch [
            | else-file-at-via-then-file-at+else-file-at-2 w ↦
                among-no-origin (one v a) s.n s.name s.from w.if-file-at.true w.if-file-at-2.false (v.loop.invariant.1 a)
            | else-file-at-via-else-file-at w ↦ among-no-name (one v a) s.n s.name s.from w.if-file-at.false (v.loop.invariant.1 a)
          ],
    )

pub returns : goal.returns
returns c =
    let s = c.args in
    let z : s.n ≡ c.loop.counter = omega arith in
    λ a. sym (ap (λ (k : ℕ). any (same s.name s.from) (take k a.tree.transitions)) z ∙ c.loop.invariant.1 a)

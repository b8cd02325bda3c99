-- None of the transitions that were passed repeats an earlier one.
use mathlib.Core.Path.{refl, sym, ap, ◌∙◌}
use native.Mathlib.Omega.{arith}
use Rattle.access.specs.Trees.{TreeRead}
use Rattle.access.specs.Places.{past}
use Rattle.access.specs.FoundAnswers.{repeat_of}
use Rattle.access.proofs.Kept.{laid-of}
use Rattle.access.proofs.Groups.{further}
use Rattle.access.proofs.Finding.{Here, here, all-passed, passed_none, repeat-here, repeat-next, repeat-end}
use Rattle.access.proofs.parsed.Parsed.first_repeat.Goals.{In-loop-i}
use Rattle.access.proofs.parsed.Parsed.first_repeat.Goals as goal

-- the transition that is looked at
one :
    (c : In-loop-i) (a : TreeRead c.args.self.now.file.now) →
    Here c.args.self.now.file.now a.tree c.loop-i.at c.loop-i.i
one c a = here (laid-of c.args.self.now.laid) c.loop-i.i c.loop-i.at (omega arith) c.loop-i.invariant.0 a

pub loop-i-init : goal.loop-i-init
unfolding past
loop-i-init c = (refl, λ a. passed_none a.tree.transitions)

pub is_among-requires : goal.is_among-requires
is_among-requires c = omega arith

pub returns-then-is_among : goal.returns-then-is_among
returns-then-is_among c =
    let v = (goal.at.returns-then-is_among c).In-loop-i in
    λ a. sym (ap repeat_of (repeat-here (one v a) (v.loop-i.invariant.1 a) (sym c.if-is_among.true ∙ c.is_among.ensures a)))

pub loop-i-preserved : goal.loop-i-preserved
loop-i-preserved c =
    let v = (goal.at.loop-i-preserved c).In-loop-i in (
      further v.args.self.now.file.now _ v.loop-i.i v.loop-i.at c.u16_at-at.result v.loop-i.invariant.0 c.u16_at-at.ensures.0,
      λ a. repeat-next (one v a) (v.loop-i.invariant.1 a) (sym c.if-is_among.false ∙ c.is_among.ensures a),
    )

pub returns : goal.returns
returns c =
    λ a. sym (ap repeat_of (repeat-end (c.loop-i.invariant.1 a) (all-passed (laid-of c.args.self.now.laid) a c.loop-i.i (omega arith))))

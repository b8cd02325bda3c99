-- What is found is what is found among the transitions that are left, by whether one that was passed bears the name.
use Rattle.std.specs.Prelude.{is_err}
use Prim.Native.Nat.{◌+◌}
use mathlib.Core.Path.{refl, sym, ap, ◌∙◌}
use native.Mathlib.Omega.{arith}
use lib.ListN.{drop}
use Rattle.access.specs.Trees.{TreeRead}
use Rattle.access.specs.Places.{past}
use Rattle.access.specs.FoundAnswers.{Found}
use Rattle.access.proofs.Kept.{laid-of}
use Rattle.access.proofs.Groups.{further}
use Rattle.access.proofs.Finding.{Here, here, all-passed, Left, find-all, find-here, find-other, find_none, find-end}
use Rattle.access.proofs.parsed.Parsed.find_transition.Goals.{In-loop, then-file-at+else-from-state, else-file-at}
use Rattle.access.proofs.parsed.Parsed.find_transition.Goals as goal

-- the transition that is looked at
one :
    (c : In-loop) (a : TreeRead c.args.self.now.file.now) →
    Here c.args.self.now.file.now a.tree c.loop.at c.loop.counter
one c a = here (laid-of c.args.self.now.laid) c.loop.counter c.loop.at (omega arith) c.loop.invariant.0 a

pub loop-init : goal.loop-init
unfolding past
loop-init c = let a = c.args in (refl, refl, λ t. find-all t.tree a.name a.state)

pub returns-then-from-state : goal.returns-then-from-state
returns-then-from-state c =
    let v = (goal.at.returns-then-from-state c).In-loop in
    let s = v.args in
    let from = sym c.from.ensures ∙ c.if-from-state.true in
    λ a. sym (v.loop.invariant.2 a ∙ find-here (one v a) s.name s.state (is_err v.loop.answer) c.if-file-at.true from)

pub loop-preserved : goal.loop-preserved
loop-preserved c =
    let v = (goal.at.loop-preserved c).In-loop in
    let s = v.args in
    let e = is_err v.loop.answer in (
      further s.self.now.file.now _ v.loop.counter v.loop.at c.u16_at-at.result v.loop.invariant.0 c.u16_at-at.ensures.0,
      elim c.if-file-at.branch [
        | then-file-at+else-from-state w ↦ rw w.answer-is refl
        | else-file-at w ↦ rw w.answer-is v.loop.invariant.1
      ],
      λ a.
          let left : Found → Found = λ r. Left (is_err r) s.name s.state (drop (v.loop.counter + 1) a.tree.transitions) in
          v.loop.invariant.2 a
          ∙ elim c.if-file-at.branch [
            | then-file-at+else-from-state w ↦
                find-other (one v a) s.name s.state e w.if-file-at.true (λ z. w.if-from-state.false (w.from.ensures ∙ z)) ∙ ap left (sym w.answer-is)
            | else-file-at w ↦ find_none (one v a) s.name s.state e w.if-file-at.false ∙ ap left (sym w.answer-is)
          ],
    )

pub returns : goal.returns
returns c = λ a.
    let l = c.loop in
    let passed = all-passed (laid-of c.args.self.now.laid) a l.counter (omega arith) in
    sym (l.invariant.2 a ∙ find-end a.tree.transitions l.counter c.args.name c.args.state (is_err l.answer) passed ∙ l.invariant.1)

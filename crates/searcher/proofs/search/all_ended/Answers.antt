-- The bound was met before, or falls among the lists, or they are all tried.
use native.Mathlib.Omega.{arith}
use Rattle.rules.specs.Judging.{judged_of}
use Rattle.searcher.specs.Searching.{going}
use Rattle.searcher.proofs.Rulings.{at-once-held, at-once-spent}
use Rattle.searcher.proofs.search.all_ended.Goals as goal

pub returns-then-bound-tried : goal.returns-then-bound-tried
unfolding going judged_of
returns-then-bound-tried c = λ p ls l h.
    let a = c.args in
    rw (c.unshown.ensures, at-once-spent a.bound p l a.tried a.number ls h (omega (arith, c.requires)) a.tried (omega (arith, c.if-bound-tried.true)))

pub returns-then-bound-tried-2 : goal.returns-then-bound-tried-2
unfolding going judged_of
returns-then-bound-tried-2 c = λ p ls l h.
    let a = c.args in
    rw (c.unshown-then-bound-tried-2.ensures, at-once-spent a.bound p l a.tried a.number ls h (omega arith) a.bound (omega arith))

pub returns : goal.returns
unfolding going
returns c = λ p ls l h.
    let a = c.args in
    rw (at-once-held a.bound p l a.tried a.number ls h (omega arith))

-- The loop over the lengths: the ruling on all the lists is that on those that are left.
use Prim.Native.Nat.{suc, ◌+◌}
use mathlib.Core.Path.{◌∙◌}
use mathlib.Core.List.{[]}
use native.Mathlib.Omega.{arith}
use lib.ListN.{length}
use Rattle.rules.specs.Lists.{lists_of}
use Rattle.searcher.specs.Searching.{going}
use Rattle.searcher.specs.Plans.{breaks_in}
use Rattle.searcher.proofs.Rulings.{whole, goes, stops, done, failed}
use Rattle.searcher.proofs.plan.Search.by_length.Goals as goal

pub loop-length-init : goal.loop-length-init
loop-length-init c = (c.requires.3, λ g. whole _ _ _ _)

pub returns-in_err-n : goal.returns-in_err-n
returns-in_err-n c = λ g.
    let s = c.args.self.now in
    let l = c.loop-length in
    rw (l.invariant.1 g)
    (failed _ _ c.from_residual.ensures.1 ∙ stops s.bound (breaks_in g c.args.fresh.now) [] (lists_of (length s.rows.now)) l.length (suc c.args.depth) l.n _
    (omega arith) (c.in_err-n.ensures.value g))

pub loop-length-preserved : goal.loop-length-preserved
loop-length-preserved c =
    let s = c.args.self.now in
    let l = c.loop-length in (
      c.in_ok-n.ensures.sound,
      λ g. rw (l.invariant.1 g)
          (goes s.bound (breaks_in g c.args.fresh.now) [] (lists_of (length s.rows.now)) l.length (suc c.args.depth) l.n
          c.in_ok-n.n (omega arith) (c.in_ok-n.ensures.value g)),
    )

pub returns : goal.returns
unfolding going
returns c = λ g.
    let s = c.args.self.now in
    let l = c.loop-length in
    rw (l.invariant.1 g, done s.bound (breaks_in g c.args.fresh.now) [] (lists_of (length s.rows.now)) l.length (suc c.args.depth) l.n (omega arith))

pub returns-in_ok-n : goal.returns-in_ok-n
unfolding going
returns-in_ok-n c = λ g.
    let s = c.args.self.now in
    let l = c.loop-length in
    let p = breaks_in g c.args.fresh.now in
    rw (
      l.invariant.1 g,
      goes s.bound p [] (lists_of (length s.rows.now)) l.length (suc c.args.depth) l.n c.in_ok-n.n (omega arith) (c.in_ok-n.ensures.value g),
      done s.bound p [] (lists_of (length s.rows.now)) (l.length + 1) (suc c.args.depth) c.in_ok-n.n (omega arith),
    )

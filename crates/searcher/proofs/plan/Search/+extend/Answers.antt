-- Where the list has not ended and the cache does not know it, row by row; what held is kept.
use Prim.Native.Nat.{◌-◌}
use Rattle.std.proofs.Common.{rules}
use mathlib.Core.Path.{ap, ◌∙◌}
use native.Mathlib.Omega.{arith}
use lib.ListN.{length, replicate}
use Rattle.rules.specs.Lists.{lists_of}
use Rattle.rules.specs.Judging.{ruled_on}
use Rattle.searcher.specs.Searching.{going}
use Rattle.searcher.specs.Plans.{breaks_in}
use Rattle.searcher.proofs.Rulings.{behind, lists_of-none, lists_of-each, held-alone, behind-row, goes, stops, done, failed}
use Rattle.searcher.proofs.Lists.{row-behind}
use Rattle.searcher.proofs.Positions.{breaks-none}
use Rattle.searcher.proofs.Caching.{stored-sound}
use Rattle.searcher.proofs.plan.Search.+extend.Goals as goal

-- `extend`

pub extend-returns-then-key-eq0-clause-value : goal.extend-returns-then-key-eq0-clause-value
extend-returns-then-key-eq0-clause-value t c = λ g.
    let k = c.args.key.now in
    rw (lists_of-none (length c.args.self.now.rows.now) k.left c.if-key-eq0.true)
    (c.ended.ensures (breaks_in g k.position) (breaks-none g.accepted.tree g.judged k.position))

pub extend-extend_each-requires : goal.extend-extend_each-requires
extend-extend_each-requires t c = let h = c.requires in (grind arith, (h.0, h.1, omega (arith, c.if-key-eq0.false), h.2, h.3))

pub extend-extend_each-requires-2 : goal.extend-extend_each-requires-2
extend-extend_each-requires-2 t c = let h = c.requires in (grind arith, (h.0, h.1, omega (arith, c.if-key-eq0.false), h.2, h.3))

pub extend-overflow_sub-entry : goal.extend-overflow_sub-entry
extend-overflow_sub-entry t c =
    let a = c.args in
    let s = a.self.now in
    let k = a.key.now in
    let g = c.requires.0 in
    (held-alone s.bound (breaks_in g k.position) (replicate a.at 0) a.tried c.in_ok-n.n (lists_of (length s.rows.now) k.left)
    (c.in_ok-n.ensures.value g)).0

pub extend-returns-clause-sound : goal.extend-returns-clause-sound
extend-returns-clause-sound t c =
    let a = c.args in
    let s = a.self.now in
    let k = a.key.now in
    stored-sound s c.store.ensures
    (λ g. (held-alone s.bound (breaks_in g k.position) (replicate a.at 0) a.tried c.in_ok-n.n (lists_of (length s.rows.now) k.left)
    (c.in_ok-n.ensures.value g)).1)
    c.in_ok-n.ensures.sound

-- `extend_by`

pub extend_by-extend-requires : goal.extend_by-extend-requires
extend_by-extend-requires t c = let h = c.requires in (grind arith, (h.0, c.call.ensures.fits, omega (arith, h.3, h.4), h.5))

pub extend_by-returns-clause-value : goal.extend_by-returns-clause-value
extend_by-returns-clause-value t c = λ g.
    let a = c.args in
    let s = a.self.now in
    let k = a.key.now in
    let q = breaks_in g c.call.new.position in
    let lists = lists_of (length s.rows.now) (k.left - 1) in
    row-behind a.at a.row a.tried (ruled_on (s.bound - a.tried) q lists) (λ f g p. search rules) c.map_err.ensures.cases (c.extend.ensures.value g)
    ∙ ap going (behind-row s.bound (breaks_in g k.position) (replicate a.at 0) a.tried a.row q lists (c.call.ensures.l_after g))

-- `extend_each`

pub extend_each-loop-row-init : goal.extend_each-loop-row-init
extend_each-loop-row-init t c =
    let h = c.requires in
    (h.4, λ g. rw (lists_of-each (length c.args.self.now.rows.now) c.args.key.now.left (λ z. omega (arith, h.2))))

pub extend_each-extend_by-requires : goal.extend_each-extend_by-requires
extend_each-extend_by-requires t c =
    let h = c.requires in
    (grind arith, (h.0, h.1, c.loop-row-test.true, h.2, h.3, c.loop-row.invariant.0))

pub extend_each-returns-in_err-n-clause-value : goal.extend_each-returns-in_err-n-clause-value
extend_each-returns-in_err-n-clause-value t c = λ g.
    let a = c.args in
    let s = a.self.now in
    let k = a.key.now in
    let l = c.loop-row in
    let count = length s.rows.now in
    rw (l.invariant.1 g)
    (failed _ _ c.from_residual.ensures.1 ∙ stops s.bound (breaks_in g k.position) (replicate a.at 0) (behind count (k.left - 1))
    l.row count l.n _ c.loop-row-test.true (c.in_err-n.ensures.value g))

pub extend_each-loop-row-preserved : goal.extend_each-loop-row-preserved
extend_each-loop-row-preserved t c =
    let a = c.args in
    let s = a.self.now in
    let k = a.key.now in
    let l = c.loop-row in
    let count = length s.rows.now in (
      c.in_ok-n.ensures.sound,
      λ g. rw (l.invariant.1 g)
          (goes s.bound (breaks_in g k.position) (replicate a.at 0) (behind count (k.left - 1))
          l.row count l.n c.in_ok-n.n c.loop-row-test.true (c.in_ok-n.ensures.value g)),
    )

pub extend_each-returns-clause-value : goal.extend_each-returns-clause-value
unfolding going
extend_each-returns-clause-value t c = λ g.
    let a = c.args in
    let s = a.self.now in
    let k = a.key.now in
    let l = c.loop-row in
    let count = length s.rows.now in
    rw (l.invariant.1 g, done s.bound (breaks_in g k.position) (replicate a.at 0) (behind count (k.left - 1)) l.row count l.n (omega arith))

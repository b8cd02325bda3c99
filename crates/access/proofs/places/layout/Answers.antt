-- Each part begins where the one before it ends.
use Prim.Native.Nat.{◌+◌, ◌*◌, ◌≤◌}
use mathlib.Core.Path.{◌≡◌, sym, subst}
use native.Mathlib.Omega.{arith}
use lib.ListN.{length}
use Rattle.access.specs.Trees.{TreeRead}
use Rattle.access.specs.Places.{LaidOut}
use Rattle.access.proofs.Groups.{children-at}
use Rattle.access.proofs.Trees.{found, tree-parts}
use Rattle.access.proofs.Layouts.{initial-is, fallback-is, transitions-at, group-is, group-end}
use Rattle.access.proofs.places.layout.Goals.{After-u16_at-2}
use Rattle.access.proofs.places.layout.Goals as goal

-- where the transitions begin
third :
    (c : After-u16_at-2) (t : TreeRead c.args.file.now) →
    let at = 16 + 4 * c.from.result + c.u16_at.result + c.u16_at-2.result in
    (at ≡ (found t).transitions.at) × (at ≤ length c.args.file.now)
third c t = transitions-at t c.from.ensures c.u16_at.ensures.0 c.u16_at-2.ensures.0

pub overflow_mul-initial : goal.overflow_mul-initial
overflow_mul-initial c = omega (arith, initial-is c.requires c.from.ensures)

pub overflow_add-initial : goal.overflow_add-initial
overflow_add-initial c = omega (arith, initial-is c.requires c.from.ensures)

pub u16_at-requires : goal.u16_at-requires
u16_at-requires c = omega (arith, initial-is c.requires c.from.ensures)

pub overflow_add-fallback : goal.overflow_add-fallback
overflow_add-fallback c = omega (arith, fallback-is c.requires c.from.ensures c.u16_at.ensures.0)

pub u16_at-requires-2 : goal.u16_at-requires-2
u16_at-requires-2 c = omega (arith, fallback-is c.requires c.from.ensures c.u16_at.ensures.0)

pub overflow_add-fallback-2 : goal.overflow_add-fallback-2
overflow_add-fallback-2 c = omega (arith, third c c.requires)

pub children-transitions-requires : goal.children-transitions-requires
children-transitions-requires c =
    let t = c.requires in
    children-at (tree-parts t).transitions _ (third (goal.at.children-transitions-requires c).After-u16_at-2 t).0

pub children-rows-requires : goal.children-rows-requires
children-rows-requires c =
    let p = tree-parts c.requires in
    let o = third (goal.at.children-rows-requires c).After-u16_at-2 c.requires in
    children-at p.rows _ (group-end p.transitions o.0 c.children-transitions.ensures)

pub children-rules-requires : goal.children-rules-requires
children-rules-requires c =
    let p = tree-parts c.requires in
    let o = third (goal.at.children-rules-requires c).After-u16_at-2 c.requires in
    children-at p.rules _ (group-end p.rows (group-end p.transitions o.0 c.children-transitions.ensures) c.children-rows.ensures)

pub returns : goal.returns
returns c =
    λ t.
    let p = tree-parts t in
    let f = c.args.file.now in
    let i = (initial-is t c.from.ensures).0 in
    let e = (fallback-is t c.from.ensures c.u16_at.ensures.0).0 in
    let o = (third (goal.at.returns c).After-u16_at-2 t).0 in
    let ts = group-is p.transitions o c.children-transitions.ensures in
    let k = group-end p.transitions o c.children-transitions.ensures in
    let ks = group-is p.rows k c.children-rows.ensures in
    let rs = group-is p.rules (group-end p.rows k c.children-rows.ensures) c.children-rules.ensures in
    subst (LaidOut f t.tree) (sym (λ j. record { initial = i j; fallback = e j; transitions = ts j; rows = ks j; rules = rs j })) p.out

-- `count` records from the start on have been passed; while the kind comes, there is one more.
use Prim.Native.Nat.{ℕ, ◌+◌, ◌≤◌}
use mathlib.Core.Path.{◌≡◌, refl, sym, ap, ◌∙◌}
use native.Mathlib.Omega.{arith}
use lib.ListN.{length, take, drop}
use Rattle.rules.specs.Basics.{number}
use Rattle.access.specs.Places.{past}
use Rattle.access.proofs.Groups.{room, further, goes_on, stops, group-same}
use Rattle.access.proofs.places.children.Goals.{In-loop-kind}
use Rattle.access.proofs.places.children.Goals as goal

-- one more record, of n bytes
one :
    (c : In-loop-kind) (n : ℕ) →
    let file = c.args.file.now in
    n ≡ number (take 2 (drop c.loop-kind.end file)) → (4 ≤ n) × (c.loop-kind.end + n ≤ length file)
one c n e =
    let g = c.requires in
    let v = c.loop-kind.invariant in
    let h = goes_on g c.loop-kind.count c.loop-kind.end v.0 (v.3 g) (sym c.loop-kind-test.true ∙ c.comes.ensures) in
    room _ c.loop-kind.count c.loop-kind.end n v.0 e (g.row c.loop-kind.count h)

pub loop-kind-init : goal.loop-kind-init
unfolding past
loop-kind-init c = (refl, c.requires.within, omega arith, λ g. omega arith)

pub u16_at-end-requires : goal.u16_at-end-requires
u16_at-end-requires c = omega (arith, one c _ refl)

pub loop-kind-smaller : goal.loop-kind-smaller
loop-kind-smaller c = omega (arith, one (goal.at.loop-kind-smaller c).In-loop-kind _ c.u16_at-end.ensures.0)

pub loop-kind-preserved : goal.loop-kind-preserved
loop-kind-preserved c =
    let a = c.args in
    let v = c.loop-kind.invariant in
    let o = one (goal.at.loop-kind-preserved c).In-loop-kind _ c.u16_at-end.ensures.0 in (
      further a.file.now a.at c.loop-kind.count c.loop-kind.end c.u16_at-end.result v.0 c.u16_at-end.ensures.0,
      o.1,
      omega (arith, o.0, v.2),
      λ g. omega (arith, goes_on g c.loop-kind.count c.loop-kind.end v.0 (v.3 g) (sym c.loop-kind-test.true ∙ c.comes.ensures)),
    )

pub returns : goal.returns
returns c =
    let a = c.args in
    let v = c.loop-kind.invariant in
    λ g.
    let z = stops g c.loop-kind.count c.loop-kind.end v.0 (v.3 g) (sym c.loop-kind-test.false ∙ c.comes.ensures) in
    group-same a.at z (v.0 ∙ ap (past a.file.now a.at) z)

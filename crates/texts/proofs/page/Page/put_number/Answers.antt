-- What is left of the number has so many digits or fewer: when none is left, those that are stored are the number's.
use native.Mathlib.Omega.{arith}
use mathlib.Core.Path.{◌≡◌, refl, ap, ap₂, ◌∙◌}
use mathlib.Core.List.{List, ◌++◌}
use Prim.Native.Nat.{ℕ, ◌%◌, ◌+◌, ◌-◌}
use lib.ListN.{length, take, drop, set, length-append}
use Rattle.rules.specs.Reporting.{decimal}
use Rattle.texts.proofs.Texts.{left-all, left-more, left_one, left-none, decimal-short}
use Rattle.texts.proofs.page.Page.put_number.Goals as goal
use Rattle.texts.proofs.page.Page.put_number.Goals.{Then-m-eq0}

pub loop-i-init : goal.loop-i-init
loop-i-init c = (refl, λ z. refl, left-all c.args.n (omega arith))

pub loop-i-preserved : goal.loop-i-preserved
loop-i-preserved c =
    let l = c.loop-i in (
      l.invariant.0,
      λ z. absurd (c.if-m-eq0.false z),
      left-more c.args.n l.i l.m (48 + l.m % 10) c.loop-i-test.true l.auto.i (omega (arith, c.if-m-eq0.false)) refl l.invariant.2,
    )

shown : (c : Then-m-eq0)
    → take (10 - (c.loop-i.i - 1)) (drop (c.loop-i.i - 1) (set c.loop-i.digits (c.loop-i.i - 1) (48 + c.loop-i.m % 10))) ≡ decimal c.args.n
shown c =
    let l = c.loop-i in
    left_one c.args.n l.i l.m (48 + l.m % 10) c.loop-i-test.true l.auto.i (omega (arith, c.if-m-eq0.true)) refl l.invariant.2

pub put-requires : goal.put-requires
put-requires c =
    let d = shown (goal.at.put-requires c).Then-m-eq0 in
    omega (arith, c.requires, ap length c.loop-i.invariant.0, ap length d, decimal-short c.args.n)

pub returns-then-m-eq0-clause-after : goal.returns-then-m-eq0-clause-after
returns-then-m-eq0-clause-after c =
    let d = shown (goal.at.returns-then-m-eq0-clause-after c).Then-m-eq0 in
    c.put.ensures ∙ ap₂ (λ (x y : List ℕ). x ++ y) c.loop-i.invariant.0 d

pub returns-then-m-eq0-clause-short : goal.returns-then-m-eq0-clause-short
returns-then-m-eq0-clause-short c =
    let d = shown (goal.at.returns-then-m-eq0-clause-short c).Then-m-eq0 in
    let e = c.put.ensures ∙ ap₂ (λ (x y : List ℕ). x ++ y) c.loop-i.invariant.0 d in
    omega (arith, ap length e, length-append c.args.self.now (decimal c.args.n), decimal-short c.args.n)

-- the loop ends before none of the ten is left
pub returns-clause-after : goal.returns-clause-after
returns-clause-after c =
    let l = c.loop-i in
    let ten : l.i ≡ 10 = l.invariant.1 (left-none c.args.n l.i l.m c.loop-i-test.false l.invariant.2) in
    absurd (omega (arith, ten, c.loop-i-test.false))

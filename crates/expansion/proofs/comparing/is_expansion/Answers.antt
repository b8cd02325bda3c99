-- What was written begins with the expansion.
use Prim.Native.Nat.{ℕ, ◌*◌, ◌≤◌}
use mathlib.Core.Path.{sym, ap, ◌∙◌}
use native.Mathlib.Omega.{arith}
use lib.ListN.{length, take, length-replicate}
use lib.Seq.{length-take-le}
use Rattle.rules.specs.Stepping.{begins_with}
use Rattle.access.proofs.Kept.{accepted-of, steps-are, few_of}
use Rattle.expansion.proofs.Beginning.{begins-is, written-begins}
use Rattle.expansion.proofs.Files.{writable}
use Rattle.expansion.proofs.comparing.is_expansion.Goals.{After-write_expansion}
use Rattle.expansion.proofs.comparing.is_expansion.Goals as goal

pub write_expansion-requires : goal.write_expansion-requires
write_expansion-requires c =
    writable (accepted-of c.args.accepted.now.accepted) (omega (arith, few_of c.args.accepted.now.accepted, length-replicate {A = ℕ} 5120 0))

-- there is room in the own words
fits : (c : After-write_expansion) → 5 * c.args.accepted.now.steps ≤ length c.write_expansion.new.words
fits c = omega (arith, few_of c.args.accepted.now.accepted, c.write_expansion.auto.words, length-replicate {A = ℕ} 5120 0)

pub overflow_mul-own : goal.overflow_mul-own
overflow_mul-own c = omega (arith, few_of c.args.accepted.now.accepted)

pub slice_bounds-own-end : goal.slice_bounds-own-end
slice_bounds-own-end c = omega (arith, fits (goal.at.slice_bounds-own-end c).After-write_expansion)

pub slice_bounds-starts_with-end : goal.slice_bounds-starts_with-end
slice_bounds-starts_with-end c = sym (length-take-le _ _ (omega (arith, fits (goal.at.slice_bounds-starts_with-end c).After-write_expansion)))

pub returns : goal.returns
returns c =
    λ a.
    let n = c.args.accepted.now.steps in
    let e = ap (take (5 * n)) (c.write_expansion.ensures a) ∙ written-begins a.tree n _ (steps-are (accepted-of c.args.accepted.now.accepted) a) in
    c.starts_with.ensures.value ∙ begins-is c.args.words.now _ ∙ ap (begins_with c.args.words.now) e

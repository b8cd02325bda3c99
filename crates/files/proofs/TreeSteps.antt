-- The number of steps of a whole agreement.
use Prim.Native.Nat.{ℕ, ◌+◌}
use mathlib.Core.Path.{◌≡◌, refl}
use mathlib.Core.List.{List, [], ◌∷◌, ◌++◌, map}
use native.Mathlib.Omega.{arith}
use lib.ListN.{length, length-append}
use Rattle.rules.specs.Basics.{sum}
use Rattle.rules.specs.Syntax.{Transition, Agreement}
use Rattle.rules.specs.Expanding.{made, expand, expand_transitions, expansion, initial_entry, fallback_entry, fallback_end, first_new}
use Rattle.records.specs.Counting.{step_count}
use Rattle.records.proofs.StepCounts.{expand-length}
use Rattle.files.specs.Members.{transition_steps}
use Rattle.files.specs.Trees.{tree_steps}

transitions-steps : (ts : List Transition) (n : ℕ) → length (expand_transitions ts n) ≡ sum (map transition_steps ts)
unfolding expand_transitions sum
transitions-steps [] n = refl
transitions-steps (t ∷ ts) n =
    let first = expand t.action n t.to t.to (n + 1) in
    let rest = expand_transitions ts (n + 1 + made t.action) in
    omega (arith, length-append first rest, expand-length t.action n t.to t.to (n + 1), transitions-steps ts (n + 1 + made t.action))

-- those of its initial action, of its fallback, and of each transition its guard and those of its action
pub tree-steps : (a : Agreement) → tree_steps a ≡ step_count a.initial + step_count a.fallback + sum (map transition_steps a.transitions)
unfolding expansion
tree-steps a =
    let f = a.fields in
    let n = first_new f.states in
    let i = expand a.initial (initial_entry f.states) f.start f.start n in
    let e = expand a.fallback (fallback_entry f.states) (fallback_end f.states) (fallback_end f.states) (n + made a.initial) in
    let ts = expand_transitions a.transitions (n + made a.initial + made a.fallback) in
    let z : tree_steps a ≡ length ((i ++ e) ++ ts) = refl in
    omega (
      arith,
      length-append (i ++ e) ts,
      length-append i e,
      expand-length a.initial (initial_entry f.states) f.start f.start n,
      expand-length a.fallback (fallback_entry f.states) (fallback_end f.states) (fallback_end f.states) (n + made a.initial),
      transitions-steps a.transitions (n + made a.initial + made a.fallback),
    )

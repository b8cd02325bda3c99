-- The readers of a file's members refuse with numbers of at most 8.
use Prim.Native.Nat.{ℕ}
use mathlib.Core.List.{List}
use Rattle.laws.proofs.Choosing.{done, ◌&◌}
use Rattle.grammar.proofs.Small.{Small, small-pure, small-then, small-choose, small-field, small-range, small-zero, small-group, small-no-more}
use Rattle.grammar.proofs.Small.{small-transition, small-row, small-rule}
use Rattle.files.specs.Members.{transition_head, rule_head, member}
use Rattle.files.specs.Trees.{groups}

pub small-transition-head : (states : ℕ) → Small (transition_head states)
unfolding transition_head
small-transition-head states =
    small-then (small-field 1) λ n. small-then (small-field 1) λ f. small-then (small-range _) λ _.
    small-then (small-field 1) λ t. small-then (small-range _) λ _. small-then small-zero λ _. small-pure _

pub small-rule-head : (names : List ℕ) → Small (rule_head names)
unfolding rule_head
small-rule-head names =
    small-then (small-field 2) λ t. small-then (small-range _) λ _. small-then (small-field 1) λ p. small-then (small-range _) λ _.
    small-then (small-field 1) λ q. small-then (small-range _) λ _. small-pure _

pub small-member : (states vars accounts : ℕ) (names : List ℕ) (kind : ℕ) → Small (member states vars accounts names kind)
unfolding member
small-member states vars accounts names kind =
    small-choose kind
    (small-then (small-transition vars states) (λ t. small-pure _)
    & small-then (small-row accounts) (λ k. small-pure _)
    & done)
    (small-then (small-rule vars names) λ r. small-pure _)

pub small-groups : (states vars accounts : ℕ) → Small (groups states vars accounts)
unfolding groups
small-groups states vars accounts =
    small-then (small-group (small-transition vars states) 64 2) λ ts. small-then (small-group (small-row accounts) 16 3) λ cs.
    small-then (small-group (small-rule vars _) 8 4) λ rs. small-then small-no-more λ _. small-pure _

-- The rule that the code holds.
use Prim.Native.Nat.{ℕ, ◌+◌, ◌<◌}
use mathlib.Core.Path.{◌≡◌, refl, sym}
use mathlib.Core.List.{List, map}
use mathlib.Core.Option.{some}
use native.Mathlib.Omega.{arith}
use lib.ListN.{get_elem?}
use Rattle.rules.specs.Syntax.{Expr, Rule, always, not_after, only_after}
use Rattle.access.specs.declared.Layout.{Layout}
use Rattle.access.specs.declared.RuleAt.{RuleAt}
use Rattle.access.specs.Trees.{TreeRead, AcceptedFile}
use Rattle.access.specs.Places.{past, Laid}
use Rattle.access.specs.FoundAnswers.{rule_from}
use Rattle.access.proofs.Items.{elem-here, elem-map, rule-at}
use Rattle.access.proofs.Using.{condition-at, tree_of}
use Rattle.searcher.specs.Standing.{ExpressionAt, HeldAs}

pub expression-at :
    {file : List ℕ} {l : Layout} (h : Laid file l) (a : TreeRead file) (i at : ℕ) → i < l.rules.count → at ≡ past file l.rules.at i →
    (e : Expr) → get_elem? a.tree.rules i ≡ some (always e) → ExpressionAt file (at + 8) e
expression-at h a i at less is e k =
    let c = condition-at h a i at less is e k in
    record { within = omega (arith, c.fits); accepted = c.accepted }

pub held_by :
    {file : List ℕ} {l : Layout} → Laid file l → (a : TreeRead file) (i : ℕ) → i < l.rules.count → (x : Rule) (r : RuleAt) →
    get_elem? a.tree.rules i ≡ some x → get_elem? (map (rule_from (past file l.rules.at i)) a.tree.rules) i ≡ some r →
    HeldAs file x r
held_by {file} {l} h a i less x r k m = go x k same
  where
    same : rule_from (past file l.rules.at i) x ≡ r
    same = let n = elem-map (rule_from (past file l.rules.at i)) a.tree.rules i x k in cc

    go : (x : Rule) → get_elem? a.tree.rules i ≡ some x → rule_from (past file l.rules.at i) x ≡ r → HeldAs file x r
    go (always e) k s = (past file l.rules.at i + 8, sym s, expression-at h a i _ less refl e k)
    go (not_after p q) k s = sym s
    go (only_after p q) k s = sym s

-- the rule that is judged
pub rule-here : {file : List ℕ} {l : Layout} → Laid file l → (a : AcceptedFile file) (i : ℕ) → i < l.rules.count → (x : Rule) × (get_elem? a.tree.rules i ≡ some x)
rule-here h a i less = let x = rule-at h i less (tree_of a) _ refl in (x.value, elem-here a.tree.rules i x.value _ x.here)

-- The i-th row and the i-th rule of a file.
use Prim.Native.Nat.{ℕ, zero, suc, ◌+◌, ◌<◌}
use mathlib.Core.Path.{◌≡◌, sym, ap, subst, ◌∙◌}
use mathlib.Core.List.{List, [], ◌∷◌, map}
use mathlib.Core.Option.{some}
use native.Mathlib.Omega.{arith}
use Rattle.std.specs.Prelude.{if◌then◌else◌}
use lib.Dec.{eqb}
use lib.ListN.{get_or, get_elem?, take, drop}
use lib.Seq.{get_or-drop}
use Rattle.rules.specs.Basics.{number}
use Rattle.rules.specs.Syntax.{Transition, Rule}
use Rattle.rules.specs.Reading.{rule_body}
use Rattle.rules.specs.Calling.{no_call}
use Rattle.grammar.proofs.Agreements.{RowAt, RuleBy, one, two, three, RuleIn}
use Rattle.access.specs.declared.RuleAt.{RuleAt}
use Rattle.access.specs.declared.RuleAt.TheVariants.{Always, NotAfter, OnlyAfter}
use Rattle.access.specs.declared.Layout.{Layout}
use Rattle.access.specs.Trees.{TreeRead}
use Rattle.access.specs.Places.{past, Laid}
use Rattle.access.specs.FoundAnswers.{rule_from}
use Rattle.access.proofs.Groups.{Item, item-at}
use Rattle.access.proofs.Trees.{parts}

-- ---- places in a list

get_d-here : {A : Type 0} (xs : List A) (i : ℕ) (x d : A) (ys : List A) → drop i xs ≡ x ∷ ys → get_or xs i d ≡ x
get_d-here xs i x d ys h =
    let z : i ≡ i + 0 = omega arith in
    ap (λ k. get_or xs k d) z ∙ sym (get_or-drop i xs 0 d) ∙ ap (λ l. get_or l 0 d) h

pub elem-here : {A : Type 0} (xs : List A) (i : ℕ) (x : A) (ys : List A) → drop i xs ≡ x ∷ ys → get_elem? xs i ≡ some x
elem-here [] zero x ys h = absurd cc
elem-here [] (suc i) x ys h = absurd cc
elem-here (y ∷ xs) zero x ys h = let z : y ≡ x = cc in ap some z
elem-here (y ∷ xs) (suc i) x ys h = elem-here xs i x ys h

pub elem-map : {A B : Type 0} (f : A → B) (xs : List A) (i : ℕ) (x : A) → get_elem? xs i ≡ some x → get_elem? (map f xs) i ≡ some (f x)
elem-map f [] i x h = absurd cc
elem-map f (y ∷ xs) zero x h = let z : y ≡ x = cc in ap (λ w. some (f w)) z
elem-map f (y ∷ xs) (suc i) x h = elem-map f xs i x h

-- ---- the i-th row

module _ {file : List ℕ} {l : Layout} (h : Laid file l) (i : ℕ) (less : i < l.rows.count) where
  pub row_at : (a : TreeRead file) (at : ℕ) → at ≡ past file l.rows.at i
      → RowAt file a.tree.fields.accounts (λ k. at + k) (get_or a.tree.rows i no_call)
  row_at a at e =
      let x = item-at (parts h a).rows i at less e in
      subst (RowAt file a.tree.fields.accounts (λ k. at + k)) (sym (get_d-here a.tree.rows i x.value no_call _ x.here)) x.is

-- ---- the i-th rule

-- a rule by the number of its type
abbrev pub rule_by : (at type p q : ℕ) → RuleAt
rule_by at type p q = if eqb type 1 then Always (at + 8) else if eqb type 2 then NotAfter p q else OnlyAfter p q

rule-from-by : (at : ℕ) {file : List ℕ} {vars type p q : ℕ} {o : ℕ → ℕ} {r : Rule} → RuleBy file vars o type p q r
    → rule_from at r ≡ rule_by at type p q
rule-from-by at (one t p q e) = rw t
rule-from-by at (two t) = rw t
rule-from-by at (three t) = rw t

module _ {file : List ℕ} {l : Layout} (h : Laid file l) (i : ℕ) (less : i < l.rules.count) where
  pub rule-at : (a : TreeRead file) (at : ℕ) → at ≡ past file l.rules.at i → let vars = a.tree.fields.variables in
      Item (RuleIn file vars) 4 (rule_body vars (map (λ (t : Transition). t.name) a.tree.transitions)) file at a.tree.rules i
  rule-at a at e = item-at (parts h a).rules i at less e

  -- by the number of its type
  pub rule-is :
      (a : TreeRead file) (at type : ℕ) → at ≡ past file l.rules.at i → type ≡ number (take 2 (drop (at + 4) file)) →
      get_elem? (map (rule_from (past file l.rules.at i)) a.tree.rules) i ≡ some (rule_by at type (get_or file (at + 6) 0) (get_or file (at + 7) 0))
  rule-is a at type e n =
      let r = rule-at a at e in
      rw (← e, n) (elem-map (rule_from at) a.tree.rules i r.value (elem-here a.tree.rules i r.value _ r.here) ∙ ap some (rule-from-by at r.is.by))

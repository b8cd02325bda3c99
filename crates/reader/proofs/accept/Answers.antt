-- `accept` meets its contract: the refusals come in their order.
use Rattle.std.specs.Prelude.{◌^◌, Option, Some, None, Result, Ok, Err, MatchResult, IsErrAnd}
use Prim.Native.Nat.{ℕ, ◌≤◌, ◌<◌}
use mathlib.Core.Path.{◌≡◌, refl, sym, ap, subst, ◌∙◌}
use mathlib.Core.List.{List, []}
use mathlib.Core.Option.{none, some}
use native.Mathlib.Omega.{arith}
use Rattle.std.proofs.Common.{rules}
use Rattle.std.proofs.iter.Serving.{serving}
use Rattle.std.proofs.lemmas.Result.{err_from_is_err_and}
use Rattle.records.specs.declared.answers.Checked.{Checked}
use Rattle.records.specs.declared.fault.Fault.{Fault}
use Rattle.rules.specs.declared.Refusal.{Refusal}
use Rattle.rules.specs.declared.Fields.{Fields}
use Rattle.rules.specs.Basics.{sum}
use Rattle.rules.specs.Accepting.{refusal_at, first_repeat}
use Rattle.rules.specs.Reading.{read_tree}
use Rattle.records.specs.Checking.{outcome}
use Rattle.records.proofs.Readers.{came, gone}
use Rattle.files.specs.Trees.{tree_steps}
use Rattle.grammar.proofs.Accepted.{place-small, number-small}
use Rattle.access.specs.Trees.{TreeRead, HasSteps}
use Rattle.access.proofs.Kept.{read-moved}
use Rattle.reader.proofs.Repeats.{repeat-small, repeat-same}
use Rattle.reader.proofs.Reading.{tree-refused, repeat-refused, sum-refused, steps-refused, all-good, counted}
use Rattle.reader.proofs.accept.Goals.{After-new-parsed, In-Some, After-sum}
use Rattle.reader.proofs.accept.Goals as goal

-- what the check found, from what is made of it
found :
    (s : Result Checked Fault) {r : Result Checked Refusal} (Q : Fault → Refusal → Type 0) {k : Checked} →
    MatchResult s (λ x. r ≡ Ok x) (λ e. IsErrAnd r (Q e)) → r ≡ Ok k → s ≡ Ok k
found (Ok x) Q {k} h e = let y : x ≡ k = cc in ap Ok y
found (Err f) {r} Q h e = let i = (err_from_is_err_and {Q = Q f} r h).1 in absurd cc

fault :
    (s : Result Checked Fault) {r : Result Checked Refusal} (Q : Fault → Refusal → Type 0) {d : Refusal} →
    ((e : Fault) (d : Refusal) → Q e d → d ≡ refusal_at e.number e.place) →
    MatchResult s (λ x. r ≡ Ok x) (λ e. IsErrAnd r (Q e)) → r ≡ Err d → (e : Fault) × (s ≡ Err e) × (d ≡ refusal_at e.number e.place)
fault (Ok x) Q sees h e = absurd cc
fault (Err f) {r} Q {d} sees h e =
    let w = err_from_is_err_and {Q = Q f} r h in
    let p = w.1 in
    let z : w.0 ≡ d = cc in
    (f, refl, sym z ∙ sees f w.0 w.2)

-- the tree that was read
read_so :
    {file : List ℕ} (s : Result Checked Fault) {r : Result Checked Refusal} (Q : Fault → Refusal → Type 0) {k : Checked} →
    s ≡ outcome tree_steps (read_tree file) → MatchResult s (λ x. r ≡ Ok x) (λ e. IsErrAnd r (Q e)) → r ≡ Ok k →
    (t : TreeRead file) × (tree_steps t.tree ≡ k.steps)
read_so {file} s Q o h e =
    let x = came tree_steps (read_tree file) (sym o ∙ found s Q h e) in
    (record { tree = x.0; to = _; left = x.1; is = x.2 }, x.3)

none_of : (o : Option ℕ) → ((x : ℕ) → o ≡ Some x → ⊥) → None ≡ o
none_of None h = refl
none_of (Some x) h = absurd (h x refl)

pub map_err-requires : goal.map_err-requires
map_err-requires c = λ e h.
    let i = gone tree_steps (read_tree c.args.file.now) (sym c.check_file.ensures ∙ h) in
    let n : e.number < 256 = omega (arith, number-small _ i) in
    let z : e.place < 2 ^ 32 = omega (arith, place-small _ i) in
    grind serving

pub returns-in_err-steps : goal.returns-in_err-steps
returns-in_err-steps c =
    let p = err_from_is_err_and c.from_residual.result c.from_residual.ensures.1 in
    let x = fault c.check_file.result _ (λ e d k. search rules) c.map_err.ensures.cases c.in_err-steps.was in
    let e = gone tree_steps (read_tree c.args.file.now) (sym c.check_file.ensures ∙ x.1) in
    rw (p.1, p.2, x.2) (tree-refused c.args.file.now _ _ e)

pub new-parsed-requires : goal.new-parsed-requires
new-parsed-requires c = (read_so c.check_file.result _ c.check_file.ensures c.map_err.ensures.cases c.in_ok-steps.was).0

first : (c : After-new-parsed) → TreeRead c.args.file.now
first c = (read_so c.check_file.result _ c.check_file.ensures c.map_err.ensures.cases c.in_ok-steps.was).0

-- the first repeat in it
repeat : (c : In-Some) → let t = first (goal.at.refused-requires c).After-new-parsed in first_repeat [] t.tree.transitions ≡ some c.in-Some.place
repeat c =
    let v = (goal.at.refused-requires c).After-new-parsed in
    repeat-same _ (some c.in-Some.place) (sym c.in-Some.is ∙ c.first_repeat.ensures (read-moved v.new-parsed.ensures (first v)))

pub refused-requires : goal.refused-requires
refused-requires c = (omega arith, omega (arith, repeat-small (first (goal.at.refused-requires c).After-new-parsed) _ (repeat c)))

pub returns-in-Some : goal.returns-in-Some
returns-in-Some c =
    let v = goal.at.returns-in-Some c in
    rw c.refused.ensures (repeat-refused (first v.After-new-parsed) (repeat v.In-Some))

-- no transition repeats an earlier one, and this is the sum of the balances
tree : (c : After-sum) → (t : TreeRead c.args.file.now) × (tree_steps t.tree ≡ c.in_ok-steps.field-0.steps)
tree c = read_so c.check_file.result _ c.check_file.ensures c.map_err.ensures.cases c.in_ok-steps.was

once : (c : After-sum) → first_repeat [] (tree c).0.tree.transitions ≡ none
once c =
    repeat-same _ none (none_of c.first_repeat.result c.in_default.not-Some ∙ c.first_repeat.ensures (read-moved c.new-parsed.ensures (tree c).0))

sum_is : (c : After-sum) → c.sum.result ≡ sum (tree c).0.tree.fields.opening
sum_is c = c.sum.ensures.0 ∙ ap (λ (f : Fields). sum f.opening) (c.fields.ensures (read-moved c.new-parsed.ensures (tree c).0))

pub returns-then-from-sum : goal.returns-then-from-sum
returns-then-from-sum c =
    let v = (goal.at.returns-then-from-sum c).After-sum in
    rw c.placeless.ensures (sum-refused (tree v).0 (once v) (omega (arith, sum_is v)))

pub returns-then-steps-gt1024 : goal.returns-then-steps-gt1024
returns-then-steps-gt1024 c =
    let v = (goal.at.returns-then-steps-gt1024 c).After-sum in
    rw c.placeless-then-steps-gt1024.ensures (steps-refused (tree v).0 (once v) (omega (arith, sum_is v)) (omega (arith, (tree v).1)))

-- the file is accepted as that tree
whole : (c : After-sum) → c.sum.result ≤ 4294967295 → c.in_ok-steps.field-0.steps ≤ 1024 → HasSteps c.args.file.now c.in_ok-steps.field-0.steps
whole c small few =
    let t = tree c in
    (record { tree = t.0.tree; is = all-good t.0 (once c) (omega (arith, sum_is c)) (omega (arith, t.1)) }, sym t.1)

pub invariant_of-result : goal.invariant_of-result
invariant_of-result c =
    let h = whole (goal.at.invariant_of-result c).After-sum (omega (arith, c.if-from-sum.false, c.from.ensures)) c.if-steps-gt1024.false in
    record { accepted = ∣ subst (λ (f : List ℕ). HasSteps f c.in_ok-steps.field-0.steps) (sym c.new-parsed.ensures) h ∣₁ }

pub returns : goal.returns
returns c =
    let h = whole (goal.at.returns c).After-sum (omega (arith, c.if-from-sum.false, c.from.ensures)) c.if-steps-gt1024.false in
    (c.new-parsed.ensures, ap Ok h.1 ∙ counted h.0)

-- How far the readers of an agreement's parts go.
use Prim.Native.Nat.{ℕ, ◌+◌, ◌-◌, ◌≤◌}
use mathlib.Core.Path.{refl}
use mathlib.Core.List.{List, map}
use native.Mathlib.Omega.{arith}
use Rattle.rules.specs.Basics.{sum}
use Rattle.rules.specs.Syntax.{Transition}
use Rattle.rules.specs.Reading.{group, fields_body}
use Rattle.laws.proofs.Choosing.{done, ◌&◌}
use Rattle.grammar.proofs.Keeping.{keeps-pure, keeps-test, keeps-choose, keeps-then, keeps-as, keeps-on, keeps-field, keeps-zero}
use Rattle.grammar.proofs.Agreements.{in-body, from-body, fields-keep, transition-keeps, row-keeps, rule-keeps, TransitionAt, RowIn, RuleIn, TransitionIn}
use Rattle.grammar.proofs.Agreements.{group-keeps, row-pays, transition-member, row-member, rule-member, no-more-keeps}
use Rattle.records.specs.Checking.{no_steps}
use Rattle.records.proofs.Readers.{Steady, steady-none}
use Rattle.records.proofs.StatementLaws.{statement-pays}
use Rattle.files.specs.Members.{transition_head, rule_head, transition_steps, member, itself}
use Rattle.files.specs.Trees.{groups, groups_steps}

pub steady-fields-body : Steady 0 no_steps fields_body
steady-fields-body = steady-none λ file start at end. from-body (fields-keep file (λ k. at + (k - 4)) (in-body at) start end)

-- ---- members

-- a transition's fields pay for its guard's step
pub steady-transition-head : (states c : ℕ) → c ≤ 1 → Steady 0 (λ _. c) (transition_head states)
unfolding transition_head
steady-transition-head states c few =
    record {
      keeps = λ file start at end.
          keeps-field 1 (at + 1) _ refl
          (keeps-field 1 (at + 2) _ (omega arith) (keeps-test _ λ _.
          keeps-field 1 (at + 3) _ (omega arith) (keeps-test _ λ _.
          keeps-zero (at + 4) (omega arith) (keeps-pure _ (omega arith)))));
    }

pub steady-rule-head : (names : List ℕ) → Steady 0 no_steps (rule_head names)
unfolding rule_head
steady-rule-head names =
    record {
      keeps = λ file start at end.
          keeps-field 2 (at + 2) _ refl (keeps-test _ λ _.
          keeps-field 1 (at + 3) _ (omega arith) (keeps-test _ λ _.
          keeps-field 1 (at + 4) _ (omega arith) (keeps-test _ λ _. keeps-pure _ (omega arith))));
    }

-- a transition pays for its steps
transition-pays : {file : List ℕ} {vars states start : ℕ} {o : ℕ → ℕ} {t : Transition} {to : ℕ} → TransitionAt file vars states start o t to → o 8 + transition_steps t ≤ to
transition-pays h = omega (arith, h.guard_at, h.guard.four, statement-pays h.sound)

pub steady-member : (states vars accounts : ℕ) (names : List ℕ) (kind : ℕ) → Steady 4 itself (member states vars accounts names kind)
unfolding member
steady-member states vars accounts names kind =
    record {
      keeps = λ file start at end.
          let o : ℕ → ℕ = λ k. at + (k - 4) in
          keeps-choose kind
          (keeps-then (from-body (transition-keeps file vars states o (in-body at) start end)) (λ t to h. keeps-pure _ (omega (arith, transition-pays h)))
          & keeps-then (keeps-on (from-body (row-keeps file accounts o (in-body at) start end))) (λ k to l. keeps-pure _ (omega arith))
          & done)
          (keeps-then (keeps-on (from-body (rule-keeps file vars names o (in-body at) start end))) λ r to l. keeps-pure _ (omega arith));
    }

-- ---- groups

pub steady-members : (states vars accounts : ℕ) (names : List ℕ) (kind n : ℕ) → Steady 0 sum (group n kind (member states vars accounts names kind))
unfolding sum
steady-members states vars accounts names kind n =
    record {
      keeps = λ file start at end.
          keeps-as
          (group-keeps file end kind (λ at x to. at + 4 + x ≤ to + 4) (λ at to. (steady-member states vars accounts names kind).keeps file at (at + 4) to) n start at)
          λ xs to r. omega (arith, row-pays file itself sum refl (λ x xs. refl) (λ at x to h. omega arith) r);
    }

module _ (states vars accounts : ℕ) where
  pub steady-groups : Steady 0 groups_steps (groups states vars accounts)
  unfolding groups sum
  steady-groups =
      record {
        keeps = λ file start at end.
            keeps-then (group-keeps file end 2 (TransitionIn file vars states) (transition-member file vars states) 64 start at) λ ts b r.
            keeps-then (keeps-on (group-keeps file end 3 (RowIn file accounts) (row-member file accounts) 16 start b)) λ cs c l.
            keeps-then (keeps-on (group-keeps file end 4 (RuleIn file vars) (rule-member file vars (map (λ (t : Transition). t.name) ts)) 8 start c)) λ rs d m.
            keeps-then (keeps-on (no-more-keeps file start d end)) λ _ to n.
            let pays = row-pays file transition_steps (λ ts. sum (map transition_steps ts)) refl (λ t ts. refl) (λ at t to h. omega (arith, transition-pays h)) r in
            keeps-pure (ts, cs, rs) (omega (arith, pays));
      }

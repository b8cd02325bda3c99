-- Laws of the reading of statements: how far it goes, and what the check makes of a record by its length, level and kind.
use Prim.Native.Nat.{ℕ, ◌+◌, ◌-◌, ◌≤◌}
use mathlib.Core.Path.{◌≡◌, refl, ◌∙◌}
use mathlib.Core.Bool.{true, false}
use mathlib.Core.List.{List}
use native.Mathlib.Omega.{arith}
use borrow.Author.Tests.{ne_eqb}
use Rattle.std.specs.Prelude.{Err}
use Rattle.rules.specs.Syntax.{Stmt, Stmts}
use Rattle.rules.specs.Reading.{refused, whole, refuse, only, expression, set_body, statement_body, loop_set, statement}
use Rattle.grammar.proofs.Keeping.{keeps-as}
use Rattle.grammar.proofs.Statements.{Statement, step, row, branch, branches, loop, counted, Statements, final, next}
use Rattle.grammar.proofs.Statements.{loop-set-keeps, statement-keeps, loop-set-inner, statement-inner}
use Rattle.records.specs.declared.fault.Fault.{Fault}
use Rattle.records.specs.declared.part.Part.{Part}
use Rattle.records.specs.declared.part.Record.{Record}
use Rattle.records.specs.Checking.{Opens, Unopened, of_part, outcome, refused_at, no_steps, ended}
use Rattle.records.specs.Counting.{step_count, block_count}
use Rattle.records.proofs.Readers.{Steady, Nested, bytes-short, bytes-deep, nested-unopened, nested-ended}
use Rattle.records.proofs.Inversion.{Ends, ends-stored}
use Rattle.records.proofs.StepCounts.{count-simple, count-last, count-more, count-if, count-else, count-while, count-for}

-- ---- how far reading goes

mutual
  -- a statement's records pay for its steps
  pub statement-pays : {file : List ℕ} {vars l at to : ℕ} {s : Stmt} → Statement file vars l at s to → at + step_count s ≤ to
  statement-pays (step {at = at} {x = x} r a) = omega (arith, count-simple at x, r.four)
  statement-pays (row ss) = omega (arith, statements-pay ss)
  statement-pays (branch {c = c} {e = e} {s = s} i h b) = omega (arith, i, count-if c e s, h.four, statement-pays b)
  statement-pays (branches {c = c} {e = e} {s = s} {t = t} i h b d) = omega (arith, i, count-else c e s t, h.four, statement-pays b, statement-pays d)
  statement-pays (loop {c = c} {e = e} {s = s} i h b) = omega (arith, i, count-while c e s, h.four, statement-pays b)
  statement-pays (counted {a = a} {b = b} {c = c} {i = i} {k = k} {e = e} {s = s} p q r x h y t) =
      omega (arith, p, q, r, count-for a i c e b k s, x.0.four, h.four, y.0.four, statement-pays t)

  statements-pay : {file : List ℕ} {vars l at to : ℕ} {ss : Stmts} → Statements file vars l at ss to → at + block_count ss ≤ to
  statements-pay (final {s = s} h) = omega (arith, count-last s, statement-pays h)
  statements-pay (next {s = s} {ss = ss} h hs) = omega (arith, count-more s ss, statement-pays h, statements-pay hs)

module _ (vars : ℕ) where
  pub loop-set-pays : (levels c : ℕ) → c ≤ 4 → Steady 0 (λ _. c) (loop_set vars levels)
  loop-set-pays levels c few = record { keeps = λ file start at end. keeps-as (loop-set-keeps file vars levels start at end) λ x to h. omega (arith, h.0.four) }

  pub steady-loop-set : (levels : ℕ) → Steady 0 no_steps (loop_set vars levels)
  steady-loop-set levels = loop-set-pays levels 0 (omega arith)

  pub steady-statement : (levels : ℕ) → Steady 0 step_count (statement vars levels)
  steady-statement levels = record { keeps = λ file start at end. keeps-as (statement-keeps file vars levels start at end) λ s to h. omega (arith, statement-pays h.1) }

  pub ends-loop-set : (levels : ℕ) → Ends (loop_set vars levels)
  ends-loop-set levels = ends-stored λ file start at end. keeps-as (loop-set-keeps file vars levels start at end) λ _ _ h. h.0

  pub ends-statement : (levels : ℕ) → Ends (statement vars levels)
  ends-statement levels = ends-stored λ file start at end. keeps-as (statement-keeps file vars levels start at end) λ _ _ h. h.0

  -- ---- the record itself

  pub loop-set-nested : Nested 5 (loop_set vars) (λ l. only 16 (set_body vars (expression vars false l)))
  unfolding loop_set
  loop-set-nested = record { none = refl; some = λ l. refl }

  pub statement-nested : Nested 5 (statement vars) (λ l. statement_body vars (expression vars false l) (loop_set vars l) (statement vars l))
  unfolding statement
  statement-nested = record { none = refl; some = λ l. refl }

  -- of any bytes: where no whole record comes, and where no level is left for it
  module _ (start at : ℕ) (bs : List ℕ) where
    pub loop-set-short : (levels : ℕ) → whole bs ≡ false → loop_set vars levels start at bs ≡ refused 2 at
    loop-set-short = bytes-short loop-set-nested start at bs

    pub loop-set-deep : (levels : ℕ) → levels ≡ 0 → whole bs ≡ true → loop_set vars levels start at bs ≡ refused 5 at
    loop-set-deep = bytes-deep loop-set-nested start at bs

    pub statement-short : (levels : ℕ) → whole bs ≡ false → statement vars levels start at bs ≡ refused 2 at
    statement-short = bytes-short statement-nested start at bs

    pub statement-deep : (levels : ℕ) → levels ≡ 0 → whole bs ≡ true → statement vars levels start at bs ≡ refused 5 at
    statement-deep = bytes-deep statement-nested start at bs

  -- where it is not opened
  pub loop-set-unopened : (levels : ℕ) (p : Part) {e : Fault} → Unopened p levels e → Err e ≡ outcome no_steps (of_part (loop_set vars levels) p)
  loop-set-unopened levels p = nested-unopened no_steps loop-set-nested p levels

  pub statement-unopened : (levels : ℕ) (p : Part) {e : Fault} → Unopened p levels e → Err e ≡ outcome step_count (of_part (statement vars levels) p)
  statement-unopened levels p = nested-unopened step_count statement-nested p levels

  module _ (p : Part) (r : Record) (o : Opens p r) (levels : ℕ) (e : levels ≡ 0 → ⊥) where
    set-ended : outcome no_steps (of_part (loop_set vars levels) p) ≡ ended r.end (outcome no_steps (of_part (only 16 (set_body vars (expression vars false (levels - 1))) r.kind) r.body))
    set-ended = nested-ended no_steps loop-set-nested p levels e (λ l. loop-set-inner vars l p.at) r o

    pub loop-set-kind : (r.kind ≡ 16 → ⊥) → outcome no_steps (of_part (loop_set vars levels) p) ≡ refused_at 3 p.at
    unfolding only refuse
    loop-set-kind k = set-ended ∙ rw (ne_eqb _ _ k, o.start)

    pub loop-set-ended :
        r.kind ≡ 16 →
        outcome no_steps (of_part (loop_set vars levels) p) ≡ ended r.end (outcome no_steps (of_part (set_body vars (expression vars false (levels - 1))) r.body))
    unfolding only
    loop-set-ended k = set-ended ∙ rw k

    pub statement-ended :
        outcome step_count (of_part (statement vars levels) p)
        ≡ ended r.end
        (outcome step_count
        (of_part (statement_body vars (expression vars false (levels - 1)) (loop_set vars (levels - 1)) (statement vars (levels - 1)) r.kind) r.body))
    statement-ended = nested-ended step_count statement-nested p levels e (λ l. statement-inner vars l p.at) r o

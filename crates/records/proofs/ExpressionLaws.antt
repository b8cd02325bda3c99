-- Laws of the reading of expressions: how far it goes, and what the check makes of a record by its length, level and kind.
use Prim.Native.Nat.{ℕ, ◌-◌, ◌≤◌}
use mathlib.Core.Path.{◌≡◌, refl}
use mathlib.Core.Bool.{Bool, true, false}
use mathlib.Core.List.{List}
use native.Mathlib.Omega.{arith}
use Rattle.std.specs.Prelude.{Err}
use Rattle.rules.specs.Reading.{refused, whole, expression_body, expression}
use Rattle.grammar.proofs.Keeping.{keeps-as}
use Rattle.grammar.proofs.Statements.{expression-keeps, expression-inner}
use Rattle.records.specs.declared.fault.Fault.{Fault}
use Rattle.records.specs.declared.part.Part.{Part}
use Rattle.records.specs.declared.part.Record.{Record}
use Rattle.records.specs.Checking.{Opens, Unopened, of_part, outcome, no_steps, ended}
use Rattle.records.proofs.Readers.{Steady, Nested, bytes-short, bytes-deep, nested-unopened, nested-ended}
use Rattle.records.proofs.Inversion.{Ends, ends-stored}

module _ (vars : ℕ) (in_rule : Bool) where
  -- an expression ends at its record's length, which is at least 4: so it pays for up to 4 steps
  pub expression-pays : (levels c : ℕ) → c ≤ 4 → Steady 0 (λ _. c) (expression vars in_rule levels)
  expression-pays levels c few = record { keeps = λ file start at end. keeps-as (expression-keeps file vars in_rule levels start at end) λ x to h. omega (arith, h.four) }

  pub steady-expression : (levels : ℕ) → Steady 0 no_steps (expression vars in_rule levels)
  steady-expression levels = expression-pays levels 0 (omega arith)

  pub ends-expression : (levels : ℕ) → Ends (expression vars in_rule levels)
  ends-expression levels = ends-stored λ file. expression-keeps file vars in_rule levels

  pub expression-nested : Nested 5 (expression vars in_rule) (λ l. expression_body vars in_rule (expression vars in_rule l))
  unfolding expression
  expression-nested = record { none = refl; some = λ l. refl }

  -- of any bytes: where no whole record comes, and where no level is left for it
  module _ (start at : ℕ) (s : List ℕ) where
    pub expression-short : (levels : ℕ) → whole s ≡ false → expression vars in_rule levels start at s ≡ refused 2 at
    expression-short = bytes-short expression-nested start at s

    pub expression-deep : (levels : ℕ) → levels ≡ 0 → whole s ≡ true → expression vars in_rule levels start at s ≡ refused 5 at
    expression-deep = bytes-deep expression-nested start at s

  -- where its record is not opened
  pub expression-unopened : (levels : ℕ) (p : Part) {e : Fault} → Unopened p levels e → Err e ≡ outcome no_steps (of_part (expression vars in_rule levels) p)
  expression-unopened levels p = nested-unopened no_steps expression-nested p levels

  pub expression-ended :
      (levels : ℕ) → (levels ≡ 0 → ⊥) → (p : Part) (r : Record) → Opens p r →
      outcome no_steps (of_part (expression vars in_rule levels) p)
      ≡ ended r.end (outcome no_steps (of_part (expression_body vars in_rule (expression vars in_rule (levels - 1)) r.kind) r.body))
  expression-ended levels e p r o = nested-ended no_steps expression-nested p levels e (λ l. expression-inner vars in_rule l p.at) r o

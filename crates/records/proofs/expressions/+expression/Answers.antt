use mathlib.Core.Path.{sym, ◌∙◌}
use native.Mathlib.Omega.{arith}
use Rattle.rules.specs.Reading.{field}
use Rattle.records.specs.Checking.{no_steps}
use Rattle.records.proofs.KindLaws.{done, ◌&◌, kind-is, other-number, other-kind, expression_kinds}
use Rattle.records.proofs.Readers.{handed, none-on, fits, fits-on, no-steps, added_none, steady-ranged}
use Rattle.records.proofs.ExpressionLaws.{steady-expression, expression-unopened, expression-ended}
use Rattle.records.proofs.ExpressionKinds.{constant-is, variable-is, local-refused, local-is, argument-refused, argument_is}
use Rattle.records.proofs.ExpressionKinds.{context-in-rule, context-is, binary-is, not_is, other-is}
use Rattle.records.proofs.expressions.+expression.Goals.{check_body-in_default-kind-via-in-Local+else-not-scope, check_body-in_default-kind-via-in-Argument+else-not-scope-2}
use Rattle.records.proofs.expressions.+expression.Goals.{check_body-in_default-kind-via-in_default-kind}
use Rattle.records.proofs.expressions.+expression.Goals as goal

-- `check_body`

pub check_body-returns-in-Constant : goal.check_body-returns-in-Constant
check_body-returns-in-Constant t c =
    let b = c.args.b in
    c.field.ensures ∙ sym (none-on no_steps (field 4) b.start b.at b.bytes.now) ∙ sym (constant-is _ _ _ _ _ _ (kind-is c.in-Ok.ensures c.in-Constant.is))

pub check_body-returns-in-Variable : goal.check_body-returns-in-Variable
check_body-returns-in-Variable t c = c.check_index.ensures ∙ sym (variable-is _ _ _ _ _ _ (kind-is c.in-Ok.ensures c.in-Variable.is))

pub check_body-returns-in-Local : goal.check_body-returns-in-Local
check_body-returns-in-Local t c = c.check_index-in-Local.ensures ∙ sym (local-is _ _ _ _ _ _ (kind-is c.in-Ok.ensures c.in-Local.is) c.if-not-scope.true)

pub check_body-returns-in-Argument : goal.check_body-returns-in-Argument
check_body-returns-in-Argument t c = c.check_index-in-Argument.ensures ∙ sym (argument_is _ _ _ _ _ _ (kind-is c.in-Ok.ensures c.in-Argument.is) c.if-not-scope-2.true)

pub check_body-returns-in-Context : goal.check_body-returns-in-Context
check_body-returns-in-Context t c = c.check_index-in-Context.ensures ∙ sym (context-in-rule _ _ _ _ _ _ (kind-is c.in-Ok.ensures c.in-Context.is) c.if-scope.true)

pub check_body-returns-in-Context-2 : goal.check_body-returns-in-Context-2
check_body-returns-in-Context-2 t c = c.check_index-in-Context-2.ensures ∙ sym (context-is _ _ _ _ _ _ (kind-is c.in-Ok.ensures c.in-Context.is) c.if-scope.false)

pub check_body-returns-in_err-operator-in-Binary : goal.check_body-returns-in_err-operator-in-Binary
check_body-returns-in_err-operator-in-Binary t c =
    rw (handed _ _ c.from_residual.ensures, binary-is _ _ _ _ _ _ (kind-is c.in-Ok.ensures c.in-Binary.is), ← c.in_err-operator-in-Binary.ensures)

pub check_body-after-requires : goal.check_body-after-requires
check_body-after-requires t c = fits (steady-ranged _) c.args.b c.in_ok-operator-in-Binary.ensures

pub check_body-returns-in_err-left-in-Binary : goal.check_body-returns-in_err-left-in-Binary
check_body-returns-in_err-left-in-Binary t c =
    let a = c.after.ensures in
    rw (handed _ _ c.from_residual-in_err-left-in-Binary.ensures, binary-is _ _ _ _ _ _ (kind-is c.in-Ok.ensures c.in-Binary.is))
    (rw (← c.in_ok-operator-in-Binary.ensures, ← a.bytes, ← a.at, ← a.start, ← c.in_err-left-in-Binary.ensures))

pub check_body-after-requires-in-Binary : goal.check_body-after-requires-in-Binary
check_body-after-requires-in-Binary t c =
    let s = c.args.scope in
    let a = c.after in
    fits-on (steady-expression s.variables s.in_rule c.args.levels) c.args.b a.result a.ensures.goes a.ensures.ends c.in_ok-left-in-Binary.ensures

pub check_body-returns-in_ok-left-in-Binary : goal.check_body-returns-in_ok-left-in-Binary
check_body-returns-in_ok-left-in-Binary t c =
    let a = c.after.ensures in
    let d = c.after-in-Binary.ensures in
    rw (binary-is _ _ _ _ _ _ (kind-is c.in-Ok.ensures c.in-Binary.is), ← c.in_ok-operator-in-Binary.ensures)
    (rw (← a.bytes, ← a.at, ← a.start, ← c.in_ok-left-in-Binary.ensures, a.start, ← d.bytes, ← d.at, ← d.start, ← c.check_expression-in-Binary.ensures)
    (added_none _ _ (omega (arith, no-steps _ c.in_ok-operator-in-Binary.ensures, no-steps _ c.in_ok-left-in-Binary.ensures))))

pub check_body-returns-in-Not : goal.check_body-returns-in-Not
check_body-returns-in-Not t c = c.check_expression-in-Not.ensures ∙ sym (not_is _ _ _ _ _ _ (kind-is c.in-Ok.ensures c.in-Not.is))

pub check_body-returns-in_default : goal.check_body-returns-in_default
check_body-returns-in_default t c = rw (c.refused.ensures, other-is _ _ _ _ _ _ _ (other-number c.in_default.ensures expression_kinds))

pub check_body-returns-in_default-kind : goal.check_body-returns-in_default-kind
check_body-returns-in_default-kind t c =
    rw c.refused-in_default-kind.ensures (elim c.in_default-kind.branch [
      | check_body-in_default-kind-via-in-Local+else-not-scope w ↦ rw (local-refused _ _ _ _ _ _ (kind-is c.in-Ok.ensures w.in-Local.is) w.if-not-scope.false)
      | check_body-in_default-kind-via-in-Argument+else-not-scope-2 w ↦ rw (argument-refused _ _ _ _ _ _ (kind-is c.in-Ok.ensures w.in-Argument.is) w.if-not-scope-2.false)
      | check_body-in_default-kind-via-in_default-kind w ↦
          let d = w.in_default-kind in
          rw (other-is _ _ _ _ _ _ _ (other-kind c.in-Ok.ensures
          (d.not-Constant & d.not-Variable & d.not-Local & d.not-Argument & d.not-Context & d.not-Binary & d.not-Not & done)))
    ])

-- `check_expression`

pub check_expression-returns-in_err-record : goal.check_expression-returns-in_err-record
check_expression-returns-in_err-record t c =
    let a = c.args in
    rw (handed _ _ c.from_residual.ensures) (expression-unopened a.scope.variables a.scope.in_rule a.levels a.p c.in_err-record.ensures)

pub check_expression-returns-in_err-check_body : goal.check_expression-returns-in_err-check_body
check_expression-returns-in_err-check_body t c =
    rw (handed _ _ c.from_residual-in_err-check_body.ensures, expression-ended _ _ _ c.in_ok-record.ensures.1 _ _ c.in_ok-record.ensures.0)
    (rw (← c.in_err-check_body.ensures))

pub check_expression-returns : goal.check_expression-returns
check_expression-returns t c =
    rw (c.closed.ensures, expression-ended _ _ _ c.in_ok-record.ensures.1 _ _ c.in_ok-record.ensures.0, ← c.in_ok-check_body.ensures)

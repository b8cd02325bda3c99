-- `check_rule` meets its contract.
use mathlib.Core.Path.{sym, ◌∙◌}
use Rattle.records.proofs.Readers.{handed, fits, no-steps, added_none}
use Rattle.files.specs.Members.{names_in}
use Rattle.files.proofs.Steadies.{steady-rule-head}
use Rattle.files.proofs.MemberLaws.{rule-one, rule-other, rule-refused}
use Rattle.files.proofs.members.check_rule.Goals as goal

pub returns-in_err-head : goal.returns-in_err-head
returns-in_err-head c = rw (handed _ _ c.from_residual.ensures) (rule-refused _ _ _ _ _ c.in_err-head.ensures)

pub after-requires : goal.after-requires
after-requires c = fits (steady-rule-head (names_in 64 c.args.ts.now)) c.args.b c.in_ok-head.ensures

pub returns-then-half-eq1 : goal.returns-then-half-eq1
returns-then-half-eq1 c =
    let a = c.after.ensures in
    let b = c.args.b in
    let e = rule-one b.start b.at b.bytes.now (names_in 64 c.args.ts.now) c.args.variables (sym c.half.ensures ∙ c.if-half-eq1.true) in
    rw (← e, ← c.in_ok-head.ensures, ← a.bytes, ← a.at, ← a.start, ← c.check_expression.ensures)
    (added_none _ _ (no-steps _ c.in_ok-head.ensures))

pub returns-else-half-eq1 : goal.returns-else-half-eq1
returns-else-half-eq1 c = c.in_ok-head.ensures ∙ rule-other _ _ _ _ _ (λ e. c.if-half-eq1.false (c.half.ensures ∙ e))

-- `check_rule_head` meets its contract.
use mathlib.Core.Path.{◌≡◌, ap₂}
use Rattle.std.specs.Prelude.{leb, ◌&&◌}
use borrow.Author.Rules.{rules}
use Rattle.records.proofs.Readers.{handed}
use Rattle.records.specs.Checking.{found}
use Rattle.files.specs.Members.{names_in}
use Rattle.files.proofs.MemberLaws.{rule_answers, rule-head-answer}
use Rattle.files.proofs.members.check_rule_head.Goals as goal

pub returns-in_err-and : goal.returns-in_err-and
returns-in_err-and c =
    let b = c.args.b in
    let k = c.half-kind.result in
    let z : c.contains.result ≡ (leb 1 k && leb k 3) = search rules in
    let h : rule_answers b.start b.at b.bytes.now (names_in 64 c.args.ts.now) ≡ c.and-2.result =
    rw (c.and-2.ensures, c.and.ensures, c.field.ensures, c.field-2.ensures, c.field-3.ensures, z, c.is_named.ensures, c.is_named-2.ensures)
    (rw (c.half-kind.ensures, c.byte.ensures.0, c.byte-2.ensures.0)) in
    rw (handed _ _ c.from_residual.ensures, rule-head-answer _ _ _ _, h, c.in_err-and.was)

pub returns : goal.returns
returns c =
    let b = c.args.b in
    let k = c.half-kind.result in
    let z : c.contains.result ≡ (leb 1 k && leb k 3) = search rules in
    let h : rule_answers b.start b.at b.bytes.now (names_in 64 c.args.ts.now) ≡ c.and-2.result =
    rw (c.and-2.ensures, c.and.ensures, c.field.ensures, c.field-2.ensures, c.field-3.ensures, z, c.is_named.ensures, c.is_named-2.ensures)
    (rw (c.half-kind.ensures, c.byte.ensures.0, c.byte-2.ensures.0)) in
    rw (rule-head-answer _ _ _ _, h, c.in_ok-and.was) (ap₂ found c.at.ensures.0 c.at.ensures.1)

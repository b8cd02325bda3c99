-- `check_fields` meets its contract.
use mathlib.Core.Path.{◌≡◌, ◌∙◌}
use native.Mathlib.Omega.{arith}
use Rattle.records.proofs.Readers.{handed}
use Rattle.files.proofs.FieldLaws.{within, found-there, fields_answers, fields-answer}
use Rattle.files.proofs.fields.check_fields.Goals as goal

pub returns-in_err-and : goal.returns-in_err-and
returns-in_err-and c =
    let b = c.args.b in
    let s = c.contains.ensures.value ∙ within _ c.new.ensures.start c.new.ensures.end c.new.ensures.exhausted in
    let a = c.contains-2.ensures.value ∙ within _ c.new-2.ensures.start c.new-2.ensures.end c.new-2.ensures.exhausted in
    let u = c.contains-3.ensures.value ∙ within _ c.new-3.ensures.start c.new-3.ensures.end c.new-3.ensures.exhausted in
    let w = c.contains-4.ensures.value ∙ within _ c.new-4.ensures.start c.new-4.ensures.end c.new-4.ensures.exhausted in
    let h : fields_answers b.start b.at b.bytes.now ≡ c.and-7.result =
    rw (c.and-7.ensures, c.and-6.ensures, c.and-5.ensures, c.and-4.ensures, c.and-3.ensures, c.and-2.ensures, c.and.ensures)
    (rw (c.field.ensures, c.field-2.ensures, c.field-3.ensures, c.field-4.ensures, c.field-5.ensures, c.field-6.ensures, c.field-7.ensures, c.field-8.ensures)
    (rw (s, a, u, w, c.byte-states.ensures.0) (rw (c.byte-accounts.ensures.0, c.half.ensures, c.word.ensures)
    (rw (c.byte.ensures.0, c.byte-2.ensures.0, c.byte-3.ensures.0, c.byte-4.ensures.0))))) in
    rw (handed _ _ c.from_residual.ensures, fields-answer _ _ _, h, c.in_err-and.was)

pub words-requires : goal.words-requires
words-requires c =
    let b = c.args.b in
    (found-there 4 8 b.start b.at b.bytes.now _ (omega arith) _ c.field-8.ensures c.in_ok-and.ensures, omega (arith, c.byte-accounts.ensures.1))

pub returns : goal.returns
returns c =
    let b = c.args.b in
    let s = c.contains.ensures.value ∙ within _ c.new.ensures.start c.new.ensures.end c.new.ensures.exhausted in
    let a = c.contains-2.ensures.value ∙ within _ c.new-2.ensures.start c.new-2.ensures.end c.new-2.ensures.exhausted in
    let u = c.contains-3.ensures.value ∙ within _ c.new-3.ensures.start c.new-3.ensures.end c.new-3.ensures.exhausted in
    let w = c.contains-4.ensures.value ∙ within _ c.new-4.ensures.start c.new-4.ensures.end c.new-4.ensures.exhausted in
    let h : fields_answers b.start b.at b.bytes.now ≡ c.and-7.result =
    rw (c.and-7.ensures, c.and-6.ensures, c.and-5.ensures, c.and-4.ensures, c.and-3.ensures, c.and-2.ensures, c.and.ensures)
    (rw (c.field.ensures, c.field-2.ensures, c.field-3.ensures, c.field-4.ensures, c.field-5.ensures, c.field-6.ensures, c.field-7.ensures, c.field-8.ensures)
    (rw (s, a, u, w, c.byte-states.ensures.0) (rw (c.byte-accounts.ensures.0, c.half.ensures, c.word.ensures)
    (rw (c.byte.ensures.0, c.byte-2.ensures.0, c.byte-3.ensures.0, c.byte-4.ensures.0))))) in
    rw (fields-answer _ _ _, h, c.in_ok-and.was, ← c.byte-accounts.ensures.0) c.words.ensures

-- `check_file` meets its contract.
use mathlib.Core.Bool.{◌&&◌}
use mathlib.Core.Path.{◌≡◌, sym, ap, ◌∙◌}
use native.Mathlib.Omega.{arith}
use lib.Dec.{leb}
use lib.ListN.{length}
use Rattle.rules.specs.Reading.{size_of, kind_of}
use Rattle.records.specs.Checking.{ended}
use Rattle.records.proofs.Readers.{handed}
use Rattle.files.proofs.TreeLaws.{file-inside, file-outside, file-length, file-kind, file-ended}
use borrow.Author.Rules.{rules}
use Rattle.files.proofs.check_file.Goals.{then-not-contains-via-then-not-contains, then-not-contains-via-else-not-contains+then-u16_at-n}
use Rattle.files.proofs.check_file.Goals as goal

pub returns-then-not-contains : goal.returns-then-not-contains
unfolding size_of
returns-then-not-contains c =
    let s = c.args.file.now in
    let z : c.contains.result ≡ (leb 4 (length s) && leb (length s) 32768) = search rules in
    rw c.refused.ensures (elim c.then-not-contains.branch [
      | then-not-contains-via-then-not-contains w ↦ file-outside s (sym z ∙ w.if-not-contains.true)
      | then-not-contains-via-else-not-contains+then-u16_at-n w ↦
          let b = file-inside s (sym z ∙ w.if-not-contains.false) in
          file-length s b.0 b.1 (λ e. omega (arith, w.u16_at.ensures.0, w.if-u16_at-n))
    ])

pub returns-then-u16_at-number : goal.returns-then-u16_at-number
unfolding kind_of size_of
returns-then-u16_at-number c =
    let s = c.args.file.now in
    let z : c.contains.result ≡ (leb 4 (length s) && leb (length s) 32768) = search rules in
    let i = file-inside s (sym z ∙ c.if-not-contains.false) in
    let entire : size_of s ≡ length s = omega (arith, c.u16_at.ensures.0) in
    rw c.refused-then-u16_at-number.ensures (file-kind s i.0 i.1 entire (λ e. omega (arith, c.u16_at-2.ensures.0, c.number.ensures)))

pub returns-in_err-check_agreement : goal.returns-in_err-check_agreement
unfolding kind_of size_of
returns-in_err-check_agreement c =
    let s = c.args.file.now in
    let z : c.contains.result ≡ (leb 4 (length s) && leb (length s) 32768) = search rules in
    let i = file-inside s (sym z ∙ c.if-not-contains.false) in
    let b = c.body.ensures in
    let entire : size_of s ≡ length s = omega (arith, c.u16_at.ensures.0) in
    let e = rw (b.start, b.at, b.bytes) at c.in_err-check_agreement.ensures in
    rw (handed _ _ c.from_residual.ensures) (ap (ended (length s)) e ∙ file-ended s i.0 i.1 entire (omega (arith, c.u16_at-2.ensures.0, c.number.ensures)))

pub returns : goal.returns
unfolding kind_of size_of
returns c =
    let s = c.args.file.now in
    let z : c.contains.result ≡ (leb 4 (length s) && leb (length s) 32768) = search rules in
    let i = file-inside s (sym z ∙ c.if-not-contains.false) in
    let b = c.body.ensures in
    let entire : size_of s ≡ length s = omega (arith, c.u16_at.ensures.0) in
    let e = rw (b.start, b.at, b.bytes) at c.in_ok-check_agreement.ensures in
    c.closed.ensures ∙ ap (ended (length s)) e ∙ file-ended s i.0 i.1 entire (omega (arith, c.u16_at-2.ensures.0, c.number.ensures))

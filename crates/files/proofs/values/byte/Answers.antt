-- `byte` meets its contract.
use Rattle.std.specs.Prelude.{◌≡◌, slice_get, unwrap_or}
use mathlib.Core.Path.{ap, ◌∙◌}
use borrow.Author.Rules.{rules}
use native.Mathlib.Omega.{arith}
use Rattle.std.proofs.lemmas.Option.{gets, unwrap_or-slice_get}
use Rattle.files.proofs.FieldLaws.{byte-is}
use Rattle.files.proofs.values.byte.Goals as goal

pub returns : goal.returns
returns c =
    let a = c.args in
    let found : c.copied.result ≡ slice_get a.b.now a.i = search (rules, gets) in
    let e = c.from.ensures ∙ c.unwrap_or.ensures ∙ ap (λ o. unwrap_or o 0) found ∙ unwrap_or-slice_get a.b.now a.i 0 in
    (e ∙ byte-is a.i a.b.now, omega (arith, e, c.type_inv.b a.i))

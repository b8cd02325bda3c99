-- Each of the eight is a balance of the file, or 0.
use Rattle.std.proofs.Common.{rules}
use borrow.Author.Tests.{tests}
use Rattle.access.proofs.Calls.{made-by}
use Rattle.access.proofs.Heads.{Balance, balances-are}
use Rattle.access.proofs.fields.opening.Goals as goal

pub returns : goal.returns
returns c =
    let a = c.args in
    let r = c.from_fn.ensures.items in
    balances-are a.n a.file.now c.from_fn.result c.requires.0 r.long
    (made-by 0 _ _ (Balance a.n a.file.now) (λ i y q k. ((λ less. search (rules, tests), λ more. search (rules, tests)), search rules)) r)

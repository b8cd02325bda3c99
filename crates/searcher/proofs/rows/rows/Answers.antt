-- As many rows are read as there are, which are 16 at most.
use Rattle.std.proofs.Common.{rules}
use Prim.Native.Nat.{ℕ, ◌<◌}
use mathlib.Core.Path.{◌≡◌, ◌∙◌}
use native.Mathlib.Omega.{arith}
use lib.ListN.{take, get_or, length-take}
use lib.Seq.{get_or-take, ext_get_or}
use borrow.Author.Tests.{tests}
use Rattle.rules.specs.declared.Call.{Call}
use Rattle.rules.specs.Calling.{no_call}
use Rattle.access.proofs.Kept.{laid-of}
use Rattle.access.proofs.Using.{counts}
use Rattle.searcher.proofs.Lists.{few_rows}
use Rattle.access.proofs.Calls.{made-by}
use Rattle.searcher.proofs.rows.rows.Goals as goal

pub returns : goal.returns
returns c = λ a.
    let r = c.from_fn.ensures.items in
    let n = c.args.parsed.now.layout.rows.count in
    let few = few_rows (laid-of c.args.parsed.now.laid) in
    let all = (counts (laid-of c.args.parsed.now.laid) a).1 in
    let l = length-take n c.from_fn.result in
    let each = made-by no_call _ _ (λ (i : ℕ) (y : Call). i < n → y ≡ get_or a.tree.rows i no_call)
    (λ i y q k. (λ less. search (rules, tests), search rules)) r in
    ext_get_or no_call (take n c.from_fn.result) a.tree.rows (omega (arith, l, few, all, r.long))
    (λ i less. get_or-take n c.from_fn.result i no_call (omega (arith, less, l)) ∙ each i (omega (arith, less, l, few)) (omega (arith, less, l)))

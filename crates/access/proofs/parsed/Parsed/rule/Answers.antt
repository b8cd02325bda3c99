-- By the number of its type, which stands in its record.
use Prim.Native.Nat.{◌+◌}
use mathlib.Core.Path.{◌≡◌, ◌∙◌}
use mathlib.Core.List.{map}
use mathlib.Core.Option.{some}
use native.Mathlib.Omega.{arith}
use lib.ListN.{get_or, get_elem?}
use borrow.Author.Tests.{ne_eqb}
use Rattle.access.specs.Trees.{TreeRead}
use Rattle.access.specs.Places.{past}
use Rattle.access.specs.FoundAnswers.{rule_from}
use Rattle.access.proofs.Groups.{in-row}
use Rattle.access.proofs.Kept.{laid-of, parts-of}
use Rattle.access.proofs.Items.{rule_by, rule-is}
use Rattle.access.proofs.parsed.Parsed.rule.Goals.{After-u16_at}
use Rattle.access.proofs.parsed.Parsed.rule.Goals as goal

pub nth-at-requires : goal.nth-at-requires
nth-at-requires c = in-row (parts-of c.args.self.now.laid).rules c.args.i (omega arith)

here :
    (c : After-u16_at) (a : TreeRead c.args.self.now.file.now) →
    let f = c.args.self.now.file.now in
    let at = c.nth-at.result in
    get_elem? (map (rule_from (past f c.args.self.now.layout.rules.at c.args.i)) a.tree.rules) c.args.i
    ≡ some (rule_by at c.u16_at.result (get_or f (at + 6) 0) (get_or f (at + 7) 0))
here c a = rule-is (laid-of c.args.self.now.laid) c.args.i c.requires a c.nth-at.result c.u16_at.result c.nth-at.ensures c.u16_at.ensures.0

pub returns-in-1 : goal.returns-in-1
returns-in-1 c = λ a. here (goal.at.returns-in-1 c).After-u16_at a ∙ rw c.in-1.is

pub returns-in-2 : goal.returns-in-2
returns-in-2 c = λ a. here (goal.at.returns-in-2 c).After-u16_at a ∙ rw c.in-2.is

pub returns-in_default : goal.returns-in_default
returns-in_default c = λ a.
    here (goal.at.returns-in_default c).After-u16_at a ∙ rw (ne_eqb c.u16_at.result 1 (λ k. omega arith), ne_eqb c.u16_at.result 2 (λ k. omega arith))

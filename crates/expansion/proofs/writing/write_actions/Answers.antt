-- `write_actions` meets its contract.
use Prim.Native.Nat.{ℕ, ◌≤◌}
use mathlib.Core.Path.{◌≡◌, ap, ◌∙◌}
use mathlib.Core.List.{List}
use native.Mathlib.Omega.{arith}
use lib.ListN.{length}
use Rattle.rules.specs.declared.Fields.{Fields}
use Rattle.access.specs.declared.Layout.{Layout}
use Rattle.access.specs.Places.{Laid}
use Rattle.access.specs.Trees.{AcceptedFile}
use Rattle.access.proofs.Using.{initial-at, fallback-at, tree_of}
use Rattle.expansion.specs.Writing.{Writable}
use Rattle.expansion.proofs.Files.{laid-out}
use Rattle.expansion.proofs.Actions.{initial-ready, fallback-ready, both-wrote}
use Rattle.expansion.proofs.writing.write_actions.Goals.{After-from-start}
use Rattle.expansion.proofs.writing.write_actions.Goals as goal

-- the numbers of the states and of the start state, for a file that is accepted
states : (c : After-from-start) (a : AcceptedFile c.args.parsed.now.file.now) → c.from-states.result ≡ a.tree.fields.states
states c a = c.from-states.ensures ∙ ap (λ (f : Fields). f.states) (c.fields-f.ensures (tree_of a))

start : (c : After-from-start) (a : AcceptedFile c.args.parsed.now.file.now) → c.from-start.result ≡ a.tree.fields.start
start c a = c.from-start.ensures ∙ ap (λ (f : Fields). f.start) (c.fields-f.ensures (tree_of a))

initial-within : {file words : List ℕ} {l : Layout} → Laid file l × Writable file words → l.initial ≤ length file
initial-within p = omega (arith, (initial-at p.0 (tree_of p.1.accepted)).fits)

fallback-within : {file words : List ℕ} {l : Layout} → Laid file l × Writable file words → l.fallback ≤ length file
fallback-within p = omega (arith, (fallback-at p.0 (tree_of p.1.accepted)).fits)

pub slice_bounds-expand_statement-count : goal.slice_bounds-expand_statement-count
slice_bounds-expand_statement-count c = initial-within (laid-out c.args.parsed.now c.requires)

pub slice_bounds-expand_statement-start : goal.slice_bounds-expand_statement-start
slice_bounds-expand_statement-start c = initial-within (laid-out c.args.parsed.now c.requires)

pub expand_statement-next-requires : goal.expand_statement-next-requires
expand_statement-next-requires c =
    let p = laid-out c.args.parsed.now c.requires in
    let w = (goal.at.expand_statement-next-requires c).After-from-start in
    let a = p.1.accepted in
    initial-ready p.0 p.1 a (states w a) (start w a)

pub slice_bounds-expand_statement-count-2 : goal.slice_bounds-expand_statement-count-2
slice_bounds-expand_statement-count-2 c = fallback-within (laid-out c.args.parsed.now c.requires)

pub slice_bounds-expand_statement-start-2 : goal.slice_bounds-expand_statement-start-2
slice_bounds-expand_statement-start-2 c = fallback-within (laid-out c.args.parsed.now c.requires)

pub expand_statement-requires : goal.expand_statement-requires
expand_statement-requires c =
    let p = laid-out c.args.parsed.now c.requires in
    let w = (goal.at.expand_statement-requires c).After-from-start in
    let a = p.1.accepted in
    fallback-ready p.0 p.1 a (states w a) (start w a) c.expand_statement-next.ensures c.expand_statement-next.auto.words

pub returns : goal.returns
returns c =
    λ a.
    let p = laid-out c.args.parsed.now c.requires in
    let w = (goal.at.returns c).After-from-start in
    both-wrote p.0 p.1 a (states w a) (start w a) c.expand_statement-next.ensures c.expand_statement-next.auto.words c.expand_statement.ensures

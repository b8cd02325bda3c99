-- `expand_transition` meets its contract.
use Prim.Native.Nat.{ℕ}
use mathlib.Core.Path.{◌≡◌}
use mathlib.Core.List.{List}
use lib.ListN.{take, drop}
use Rattle.rules.specs.Basics.{number}
use Rattle.emitter.specs.Transitions.{GoodTransition}
use Rattle.emitter.proofs.Counts.{size_is}
use Rattle.emitter.proofs.TransitionLaws.{Parts, transition-parts, action-fit, transition-expanded}
use Rattle.emitter.proofs.transitions.expand_transition.Goals as goal

-- the parts of the record, where its length and its guard's were read
parts :
    {n q : ℕ} (s : List ℕ) → n ≡ number (take 2 (drop 0 s)) → q ≡ number (take 2 (drop 8 s)) → (a : GoodTransition s) →
    Parts n q s a.at a.tree
parts s e g a = transition-parts (size_is s e) a _ g

pub expand_statement-requires : goal.expand_statement-requires
expand_statement-requires c =
    let x = parts c.args.s.now c.u16_at-n.ensures.0 c.u16_at-b.ensures.0 c.requires.0 in
    (x.action, action-fit x c.requires.1 c.after.ensures.node c.after.ensures.step c.write_step.auto.words)

pub returns : goal.returns
returns c =
    λ a f.
    let x = parts c.args.s.now c.u16_at-n.ensures.0 c.u16_at-b.ensures.0 a in
    let y = c.after.ensures in
    transition-expanded x f y.node y.step c.from-2.ensures c.from.ensures c.from-to.ensures
    c.write_step.ensures (c.expand_statement.ensures x.action (action-fit x f y.node y.step c.write_step.auto.words))

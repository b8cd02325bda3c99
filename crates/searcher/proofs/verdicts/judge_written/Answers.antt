-- The tables are made once, and the file is prepared.
use mathlib.Core.Path.{refl, sym, subst}
use Rattle.rules.specs.declared.Fields.{Fields}
use Rattle.access.proofs.Kept.{accepted-of, steps-are}
use Rattle.access.proofs.Using.{tree_of}
use Rattle.runner.proofs.Lent.{file-of, tabled}
use Rattle.machine.specs.Calls.{Fits}
use Rattle.searcher.proofs.verdicts.judge_written.Goals as goal

pub write_nodes-requires : goal.write_nodes-requires
write_nodes-requires c = (tabled c.requires.0 (steps-are (accepted-of c.args.accepted.now.accepted) (file-of c.requires.0)), refl)

pub write_entries-requires : goal.write_entries-requires
write_entries-requires c = (tabled c.requires.0 (steps-are (accepted-of c.args.accepted.now.accepted) (file-of c.requires.0)), c.new-entries.ensures)

pub invariant_of-steps : goal.invariant_of-steps
invariant_of-steps c =
    let e = c.requires.0 in
    record {
      walkable = ∣ record {
        expanded = e;
        indexed = c.write_nodes.ensures _ e (steps-are (accepted-of c.args.accepted.now.accepted) (file-of e));
      } ∣₁;
    }

pub invariant_of-prepared : goal.invariant_of-prepared
invariant_of-prepared c =
    record {
      are_fields = λ a. c.fields-fields.ensures (tree_of (file-of a));
      entered = λ a. c.write_entries.ensures _ a (steps-are (accepted-of c.args.accepted.now.accepted) (file-of a));
    }

pub judge_accepted-requires : goal.judge_accepted-requires
judge_accepted-requires c =
    let a = file-of c.requires.0 in
    (refl, c.requires.1, subst (λ (f : Fields). Fits f c.args.fresh) (sym (c.fields-fields.ensures (tree_of a))) (c.requires.2 a))

-- `check_set` meets its contract.
use Rattle.records.specs.Counting.{target}
use Rattle.records.proofs.Readers.{handed, fits, no-steps, added_none, steady-ranged}
use Rattle.records.proofs.StatementKinds.{set-onward}
use Rattle.records.proofs.sets.check_set.Goals as goal

pub returns-in_err-target : goal.returns-in_err-target
returns-in_err-target c = rw (handed _ _ c.from_residual.ensures, set-onward _ _ _ _ _, ← c.in_err-target.ensures)

pub after-requires : goal.after-requires
after-requires c = fits (steady-ranged (target c.args.variables)) c.args.b c.in_ok-target.ensures

pub returns : goal.returns
returns c =
    let a = c.after.ensures in
    rw (set-onward _ _ _ _ _, ← c.in_ok-target.ensures, ← a.bytes, ← a.at, ← a.start, ← c.check_value.ensures)
    (added_none _ _ (no-steps _ c.in_ok-target.ensures))

use Rattle.walker.proofs.Zeros.{none-yet}
use Rattle.walker.proofs.entries.Entries.new.Goals as goal

pub invariant_of-result : goal.invariant_of-result
invariant_of-result c = none-yet

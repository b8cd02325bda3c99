-- The layout that was found is the file's.
use Rattle.access.proofs.parsed.Parsed.new.Goals as goal

pub invariant_of-result : goal.invariant_of-result
invariant_of-result c = record { laid = ∣ record { read = c.requires; out = c.layout.ensures c.requires } ∣₁ }

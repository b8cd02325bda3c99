-- As many records have been passed as the loop has counted.
use mathlib.Core.Path.{refl}
use Rattle.access.specs.Places.{past}
use Rattle.access.proofs.places.nth.Goals as goal

pub loop-init : goal.loop-init
unfolding past
loop-init c = refl

-- A run of a start and two calls, as the rules list it.
use Rattle.std.specs.Prelude.{List, [], ◌∷◌}
use Rattle.rules.specs.declared.Outcome.{Outcome}
use Rattle.counter.specs.declared.Ran.{Ran}

abbrev pub outcomes : Ran → List Outcome
outcomes r = r.started ∷ r.first ∷ r.second ∷ []

-- The contract of what runs a statement.
use Rattle.std.specs.Prelude.{◌≡◌, ℕ, List, Result}
use Rattle.rules.specs.declared.Machine.{Machine}
use Rattle.rules.specs.declared.Setting.{Setting}
use Rattle.rules.specs.Running.{statement}
use Rattle.records.specs.Acceptance.{Good}
use Rattle.machine.specs.declared.Stop.{Stop}
use Rattle.machine.specs.Runs.{ran}

-- With this result, and from m to w, the statement was run whose record is s.
abbrev pub Runs : Setting → (s : List ℕ) (m : Machine) → Result (Unit {0}) Stop → (w : Machine) → Type 0
Runs c s m result w = (a : Good s) → ran result w ≡ statement c a.tree m

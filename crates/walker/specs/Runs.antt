-- Runs on the steps of an accepted file, as the code has them.
use Rattle.std.specs.Prelude.{ℕ, suc, ◌≡◌, List}
use Rattle.std.specs.Prelude as Std
use Rattle.std.proofs.Math.Option.{Option}
use Rattle.rules.specs.declared.Machine.{Machine}
use Rattle.rules.specs.Syntax.{Agreement}
use Rattle.rules.specs.Expanding.{Step, expansion}
use Rattle.rules.specs.declared.Setting.{Setting}
use Rattle.rules.specs.Running.{Run, going, stopped}
use Rattle.rules.specs.Calling.{End, ended, halted}
use Rattle.rules.specs.Stepping.{records_in, decided, advance, admitted, walk_from, walk_by}
use Rattle.walker.specs.Tables.{Expanded, place_from, GuardAt}

-- a run on steps as a run whose result is the node it has reached
abbrev pub run_of : End → Run ℕ
run_of (ended n m) = going n m
run_of (halted k m) = stopped k m

-- the rules' runs on a file's records and the steps of its expansion
module _ (file : List ℕ) (a : Agreement) (c : Setting) where
  abbrev pub decided_in : Step → Machine → End
  decided_in = decided (records_in file a.fields.variables) (expansion a) c

  abbrev pub advance_in : Step → Machine → End
  advance_in = advance (records_in file a.fields.variables) (expansion a) c

  abbrev pub admitted_in : Step → Machine → End
  admitted_in = admitted (records_in file a.fields.variables) (expansion a) c

  abbrev pub walk_in : (node : ℕ) → Machine → End
  walk_in = walk_from (records_in file a.fields.variables) (expansion a) c

  abbrev pub walk_by_in : Option Step → Machine → End
  walk_by_in = walk_by (records_in file a.fields.variables) (expansion a) c

-- what an index has of a node, from the place of the first step that leaves it
abbrev pub indexed_as : Std.Option ℕ → ℕ
indexed_as Std.None = 0
indexed_as (Std.Some i) = suc i

-- the i-th step of the expansion is the first that leaves its node
pub record Ready (file words : List ℕ) (i : ℕ) : Type 0 where
  pub expanded : Expanded file words
  pub node : ℕ
  pub first : place_from 0 (expansion expanded.tree) node ≡ suc i

-- a kind 1 step of the expansion stands at this place
abbrev pub Enterable : (file words : List ℕ) (place : ℕ) → Type 0
Enterable file words place = (a : Expanded file words) → (s : Step) × GuardAt (expansion a.tree) place s

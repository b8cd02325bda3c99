-- A file that was read.
use Rattle.std.specs.Prelude.{ℕ, List, ◌≡◌, length}
use Rattle.rules.specs.Syntax.{Agreement}
use Rattle.rules.specs.Reading.{read, read_tree}
use Rattle.rules.specs.Expanding.{expansion}
use Rattle.rules.specs.Accepting.{good, file_of}

-- the tree of a file that no refusal from 1 to 5 meets
pub record TreeRead (file : List ℕ) : Type 0 where
  pub tree : Agreement
  pub to : ℕ
  pub left : List ℕ
  pub is : read_tree file ≡ read tree to left

-- an accepted file
pub record AcceptedFile (file : List ℕ) : Type 0 where
  pub tree : Agreement
  pub is : file_of file ≡ good tree

-- the file is accepted, and has so many steps
abbrev pub HasSteps : (file : List ℕ) (n : ℕ) → Type 0
HasSteps file n = (a : AcceptedFile file) × (n ≡ length (expansion a.tree))

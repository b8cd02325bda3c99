-- What is known of the steps that a run goes by.
use Rattle.std.specs.Prelude.{ℕ, List, ◌≡◌}
use Rattle.rules.specs.declared.Fields.{Fields}
use Rattle.rules.specs.Expanding.{expansion}
use Rattle.walker.specs.Tables.{Expanded, Indexed}

-- the words begin with the file's expansion, and the index is that of its nodes
pub record Traversable (file words nodes : List ℕ) : Type 0 where
  pub expanded : Expanded file words
  pub indexed : Indexed (expansion expanded.tree) nodes

-- the words begin with the file's expansion, the index is that of its nodes, and these are its fields
pub record Walkable (file words nodes : List ℕ) (fields : Fields) : Type 0 where
  pub expanded : Expanded file words
  pub indexed : Indexed (expansion expanded.tree) nodes
  pub counts : fields ≡ expanded.tree.fields

-- A step as the code has it.
use Rattle.std.specs.Prelude.{ℕ, ◌≡◌, List}
use Rattle.walker.specs.Tables.{word_at}
use Rattle.emitter.specs.declared.steps.Step.{Step}

-- it is the i-th step of the words
pub record Holds (words : List ℕ) (i : ℕ) (s : Step) : Type 0 where
  pub origin : s.origin ≡ word_at words i 0
  pub target : s.target ≡ word_at words i 1
  pub kind : s.kind ≡ word_at words i 2
  pub name : s.name ≡ word_at words i 3
  pub at : s.at ≡ word_at words i 4

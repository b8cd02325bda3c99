-- A text in a buffer.
use Rattle.std.specs.Prelude.{ℕ, ◌≤◌, List, ◌≡◌, length, take}
use Rattle.rules.specs.Basics.{padded}
use Rattle.texts.specs.declared.page.Page.TheInside.{Inside}

-- the buffer's first n bytes are the text, and behind it stand zeros
pub record Filled (n : ℕ) (bytes : List ℕ) : Type 0 where
  pub fits : n ≤ 1024
  pub whole : length (take n bytes) ≡ n
  pub zeros : bytes ≡ padded 1024 (take n bytes)

-- a text with zeros behind it
abbrev pub page : List ℕ → Inside
page text = record { bytes = padded 1024 text; length = length text }

-- What stands in the cache of a search, which is pairs of entries, and what is written into it.
use Rattle.std.specs.Prelude.{ℕ, ◌≡◌, ◌<◌, length, List, [], set, get_or, ◌⊎◌, Contains}
use Rattle.searcher.specs.declared.cache.Entry.{Entry}

-- an entry stands in one of the pairs
abbrev pub Cached : (cache : List (List Entry)) (entry : Entry) → Type 0
Cached cache entry = (pair : List Entry) × Contains cache pair × Contains pair entry

-- one entry of one pair was written, and nothing else; or nothing was
pub record Stored (before after : List (List Entry)) (entry : Entry) : Type 0 where
  pub pair : ℕ
  pub place : ℕ
  pub within : pair < length before
  pub is : after ≡ set before pair (set (get_or before pair []) place entry)

abbrev pub StoredOrNot : (before after : List (List Entry)) (entry : Entry) → Type 0
StoredOrNot before after entry = (after ≡ before) ⊎ Stored before after entry

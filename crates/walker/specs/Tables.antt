-- Lent words that begin with the expansion of an accepted file, and what is looked up in its steps.
use Rattle.std.specs.Prelude.{ℕ, suc, ◌+◌, ◌*◌, ◌≡◌, true, false, List, [], ◌∷◌, eqb, length, get_or, if◌then◌else◌, Some, None, Ok, Err}
use Rattle.std.proofs.Math.Option.{none, some}
use Rattle.std.proofs.Math.ListN.{get_elem?}
use Rattle.rules.specs.Syntax.{Agreement}
use Rattle.rules.specs.Expanding.{Step, step, expansion, table}
use Rattle.rules.specs.Accepting.{good, file_of}
use Rattle.rules.specs.Stepping.{begins_with, entry_of, entry_known}
use Rattle.access.specs.FoundAnswers.{Found}

-- the file is accepted and the words begin with its expansion
pub record Expanded (file words : List ℕ) : Type 0 where
  pub tree : Agreement
  pub is : file_of file ≡ good tree
  pub begins : begins_with words (table (expansion tree)) ≡ true

-- the words begin with an expansion of so many steps
pub record Tabled (words : List ℕ) (count : ℕ) : Type 0 where
  pub file : List ℕ
  pub expanded : Expanded file words
  pub counts : count ≡ length (expansion expanded.tree)

-- the k-th word of the i-th step, and the i-th step
abbrev pub word_at : (words : List ℕ) (i k : ℕ) → ℕ
word_at words i k = get_or words (5 * i + k) 0

abbrev pub step_at : (words : List ℕ) (i : ℕ) → Step
step_at ws i = step (word_at ws i 0) (word_at ws i 1) (word_at ws i 2) (word_at ws i 3) (word_at ws i 4)

-- ---- nodes

-- 1 + the place of the first step that leaves a node, where the first of the steps has the place i; 0 where none leaves it
unfoldable pub place_from : (i : ℕ) → List Step → (node : ℕ) → ℕ
place_from i [] n = 0
place_from i (s ∷ l) n = if eqb s.origin n then suc i else place_from (suc i) l n

-- an index has that of each node; past its end no node is left by a step
pub record Indexed (steps : List Step) (nodes : List ℕ) : Type 0 where
  pub full : length nodes ≡ 1091
  pub has : (n : ℕ) → get_or nodes n 0 ≡ place_from 0 steps n

-- ---- entries

-- the places of the kind 1 steps, where the first of the steps has the place i
unfoldable pub guard_places : (i : ℕ) → List Step → List ℕ
guard_places i [] = []
guard_places i (s ∷ l) = if eqb s.kind 1 then i ∷ guard_places (suc i) l else guard_places (suc i) l

-- these are the places of the kind 1 steps of the file's expansion, with which the words begin
abbrev pub EntriesIn : (file words entries : List ℕ) → Type 0
EntriesIn file words entries = (a : Expanded file words) → entries ≡ guard_places 0 (expansion a.tree)

-- the words begin with an expansion, and these are the places of its kind 1 steps
pub record Listed (words entries : List ℕ) : Type 0 where
  pub file : List ℕ
  pub expanded : Expanded file words
  pub entered : entries ≡ guard_places 0 (expansion expanded.tree)

-- a kind 1 step at its place
pub record GuardAt (steps : List Step) (place : ℕ) (s : Step) : Type 0 where
  pub here : get_elem? steps place ≡ some s
  pub guard : s.kind ≡ 1

-- what is found of a call's name and state
abbrev pub EntryFound : List Step → (name state : ℕ) → Found → Type 0
EntryFound steps name n (Ok (Some i)) = (s : Step) × GuardAt steps i s × (entry_of steps name n ≡ some s)
EntryFound steps name n (Ok None) = (entry_known steps name ≡ false) × (entry_of steps name n ≡ none)
EntryFound steps name n (Err _) = (entry_known steps name ≡ true) × (entry_of steps name n ≡ none)

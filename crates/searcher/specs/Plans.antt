-- What a search goes by: a prepared file, one of its rules, and its call rows. What it answers, and when its cache is sound.
use Rattle.std.specs.Prelude.{ℕ, ◌-◌, ◌<◌, ◌≡◌, Bool, List, length, All, get_or, ◌≤◌}
use Rattle.rules.specs.declared.Call.{Call}
use Rattle.rules.specs.declared.Fields.{Fields}
use Rattle.rules.specs.Syntax.{Rule}
use Rattle.rules.specs.Calling.{no_call}
use Rattle.rules.specs.Lists.{lists_of}
use Rattle.rules.specs.Judging.{Ruling, held, ruled_on}
use Rattle.access.specs.declared.RuleAt.{RuleAt}
use Rattle.access.specs.Trees.{AcceptedFile}
use Rattle.walker.specs.Tables.{Expanded}
use Rattle.searcher.specs.declared.Position.{Position}
use Rattle.searcher.specs.declared.cache.Entry.{Entry}
use Rattle.searcher.specs.declared.cache.Key.{Key}
use Rattle.searcher.specs.declared.plan.Search.{Search}
use Rattle.searcher.specs.Standing.{HeldAs}
use Rattle.searcher.specs.Searching.{continued, breaks_from}

pub record Planned (file words : List ℕ) (fields : Fields) (rule : RuleAt) (rows : List Call) : Type 0 where
  pub accepted : AcceptedFile file
  pub expanded : Expanded file words
  pub are_fields : fields ≡ accepted.tree.fields
  pub judged : Rule
  pub holds : HeldAs file judged rule
  pub few : length rows ≤ 16
  pub are_rows : (i : ℕ) → i < length rows → get_or rows i no_call ≡ get_or accepted.tree.rows i no_call

abbrev pub PlannedBy : Search → Type 0
PlannedBy s = Planned s.prepared.now.steps.file.now s.prepared.now.steps.words.now s.prepared.now.fields s.rule s.rows.now

module _ {file words : List ℕ} {fields : Fields} {rule : RuleAt} {rows : List Call} (g : Planned file words fields rule rows) where
  -- whether the rule is broken by the end of the rows at these positions
  abbrev pub breaks_in : Position → List ℕ → Bool
  breaks_in = breaks_from g.accepted.tree g.judged

  -- the ruling on lists behind some rows that led to a position, after so many others
  abbrev pub ruling_after : (bound : ℕ) → Position → (tried : ℕ) (rows : List ℕ) (lists : List (List ℕ)) → Ruling
  ruling_after bound p tried rows lists = continued tried rows (ruled_on (bound - tried) (breaks_in p) lists)

-- the lists of so many rows from a position on are n, and none of them breaks the rule
abbrev pub NoneBreaksFrom : Search → (n : ℕ) → Key → Type 0
NoneBreaksFrom s n k = (g : PlannedBy s) → ruled_on n (breaks_in g k.position) (lists_of (length s.rows.now) k.left) ≡ held n

-- every entry that is not empty stands for such lists
abbrev pub Sound : Search → (cache : List (List Entry)) → Type 0
Sound s cache = All (All (λ (e : Entry). (e.number ≡ 0 → ⊥) → NoneBreaksFrom s e.number e.key)) cache

-- Where the parts of a file stand.
use Rattle.std.specs.Prelude.{ℕ, zero, suc, ◌+◌, ◌*◌, ◌≤◌, ◌<◌, Bool, true, false, ◌&&◌, List, map, ◌≡◌, eqb, length, drop}
use Rattle.rules.specs.Basics.{has}
use Rattle.rules.specs.Syntax.{Transition, Agreement}
use Rattle.rules.specs.Reading.{read, Reader, size_of, kind_of, group, statement, transition_body, rule_body, row_body}
use Rattle.access.specs.declared.Group.{Group}
use Rattle.access.specs.declared.Layout.{Layout}
use Rattle.access.specs.Trees.{TreeRead}

-- ---- records in a row

-- the offset after i records in a row from an offset on
unfoldable pub past : (file : List ℕ) (at i : ℕ) → ℕ
past file at zero = at
past file at (suc i) = past file (at + size_of (drop at file)) i

-- a record stands at an offset, within the file
pub record Stands (file : List ℕ) (at : ℕ) : Type 0 where
  pub low : 4 ≤ size_of (drop at file)
  pub high : at + size_of (drop at file) ≤ length file

-- n records in a row from an offset on
abbrev pub InRow : (file : List ℕ) (at n : ℕ) → Type 0
InRow file at n = (i : ℕ) → i < n → Stands file (past file at i)

-- four bytes and this kind at an offset
unfoldable pub comes_at : (kind : ℕ) (file : List ℕ) (at : ℕ) → Bool
comes_at kind file at = has 4 (drop at file) && eqb (kind_of (drop at file)) kind

-- the records of one kind from an offset on, and no more after them
pub record Children (kind : ℕ) (file : List ℕ) (at : ℕ) : Type 0 where
  pub count : ℕ
  pub within : at ≤ length file
  pub row : InRow file at count
  pub comes : (i : ℕ) → i < count → comes_at kind file (past file at i) ≡ true
  pub ends : comes_at kind file (past file at count) ≡ false

-- where a transition's action begins: its guard stands 8 bytes after its offset, and the action after the guard
unfoldable pub action_at : (file : List ℕ) (at : ℕ) → ℕ
action_at file at = at + (8 + size_of (drop (at + 8) file))

-- ---- the parts of a file

-- a group's children, read from its offset up to its end
pub record GroupHolds {A : Type 0} (most kind : ℕ) (body : Reader A) (file : List ℕ) (g : Group) (xs : List A) : Type 0 where
  pub reads : group most kind body 0 g.at (drop g.at file) ≡ read xs g.end (drop g.end file)
  pub counts : g.count ≡ length xs

-- each part of the tree is what is read from its offset on, up to where the next begins; the first stands after the fixed fields
pub record LaidOut (file : List ℕ) (a : Agreement) (l : Layout) : Type 0 where
  pub first : l.initial ≡ 16 + 4 * a.fields.accounts
  pub initial : statement a.fields.variables 15 0 l.initial (drop l.initial file) ≡ read a.initial l.fallback (drop l.fallback file)
  pub fallback :
      statement a.fields.variables 15 0 l.fallback (drop l.fallback file)
      ≡ read a.fallback l.transitions.at (drop l.transitions.at file)
  pub transitions : GroupHolds 64 2 (transition_body a.fields.variables a.fields.states) file l.transitions a.transitions
  pub rows : GroupHolds 16 3 (row_body a.fields.accounts) file l.rows a.rows
  pub rules : GroupHolds 8 4 (rule_body a.fields.variables (map (λ (t : Transition). t.name) a.transitions)) file l.rules a.rules
  pub rows_next : l.rows.at ≡ l.transitions.end
  pub rules_next : l.rules.at ≡ l.rows.end
  pub rules_last : l.rules.end ≡ length file

-- a file whose tree was read, with its layout
pub record Laid (file : List ℕ) (l : Layout) : Type 0 where
  pub read : TreeRead file
  pub out : LaidOut file read.tree l

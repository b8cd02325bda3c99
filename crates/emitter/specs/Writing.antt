-- Steps in lent words.
use Rattle.std.specs.Prelude.{ℕ, ◌+◌, ◌*◌, ◌^◌, ◌≤◌, ◌<◌, List, ◌++◌, ◌≡◌, length, take, drop}
use Rattle.rules.specs.Syntax.{Stmt, block}
use Rattle.rules.specs.Reading.{kind_of}
use Rattle.rules.specs.Expanding.{Step, made, expand, table}
use Rattle.records.specs.Counting.{step_count}
use Rattle.records.specs.Acceptance.{Good, GoodAll}
use Rattle.emitter.specs.declared.Ends.{Ends}
use Rattle.emitter.specs.declared.Next.{Next}

-- words with others in their place from the i-th step on
unfoldable pub over : (i : ℕ) (front words : List ℕ) → List ℕ
over i front ws = take (5 * i) ws ++ front ++ drop (5 * i + length front) ws

-- these steps were written from x on, so many nodes were made, and expanding goes on at r
pub record Wrote (steps : List Step) (nodes : ℕ) (x : Next) (before after : List ℕ) (r : Next) : Type 0 where
  pub words : after ≡ over x.step (table steps) before
  pub node : r.node ≡ x.node + nodes
  pub step : r.step ≡ x.step + length steps

-- the same of a statement's steps
pub record Emitted (t : Stmt) (e : Ends) (x : Next) (before after : List ℕ) (r : Next) : Type 0 where
  pub words : after ≡ over x.step (table (expand t e.o e.d e.r x.node)) before
  pub node : r.node ≡ x.node + made t
  pub step : r.step ≡ x.step + step_count t

-- a statement that was read in these bytes can be expanded: it was read at this offset, its numbers fit 32 bits, and the words have
-- room for its steps
pub record Fit (t : Stmt) (found at : ℕ) (x : Next) (bytes words : List ℕ) : Type 0 where
  pub here : found ≡ at
  pub offsets : at + length bytes < 2 ^ 32
  pub nodes : x.node + made t < 2 ^ 32
  pub room : 5 * (x.step + step_count t) ≤ length words

-- the bytes begin with such a statement; and what expanding it does, whatever it was read as
abbrev pub Expandable : (at : ℕ) (x : Next) (bytes words : List ℕ) → Type 0
Expandable at x bytes words = (a : Good bytes) × Fit a.tree a.at at x bytes words

abbrev pub Expands : (at : ℕ) (e : Ends) (x : Next) (bytes before after : List ℕ) (r : Next) → Type 0
Expands at e x bytes before after r = (a : Good bytes) → Fit a.tree a.at at x bytes before → Emitted a.tree e x before after r

-- the same of a block's statements
abbrev pub BlockExpandable : (at : ℕ) (x : Next) (bytes words : List ℕ) → Type 0
BlockExpandable at x bytes words = (a : GoodAll bytes) × Fit (block a.tree) a.at at x bytes words

abbrev pub BlockExpands : (at : ℕ) (e : Ends) (x : Next) (bytes before after : List ℕ) (r : Next) → Type 0
BlockExpands at e x bytes before after r =
    (a : GoodAll bytes) → Fit (block a.tree) a.at at x bytes before → Emitted (block a.tree) e x before after r

-- where the part goes on that a condition guards: "if: .. body y to d", "while: .. body y to o"
pub data GoesBack (back : ℕ) (e : Ends) (bytes : List ℕ) : Type 0 where
  of_if : kind_of bytes ≡ 33 → back ≡ e.d → GoesBack back e bytes
  of_while : kind_of bytes ≡ 35 → back ≡ e.o → GoesBack back e bytes

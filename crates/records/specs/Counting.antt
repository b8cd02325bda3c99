-- The number of steps, and the parts of statements that the check has functions for.
use Rattle.std.specs.Prelude.{ℕ, Bool, false, ◌&&◌, ◌||◌, ltb, leb, length}
use Rattle.rules.specs.Syntax.{Expr, Simple, Stmt, Stmts, block}
use Rattle.rules.specs.Reading.{Reader, expression, loop_set}
use Rattle.rules.specs.Expanding.{expand}
use Rattle.records.specs.Checking.{pair}

-- how many steps a statement expands to
unfoldable pub step_count : Stmt → ℕ
step_count s = length (expand s 0 0 0 0)

abbrev pub block_count : Stmts → ℕ
block_count ss = step_count (block ss)

-- "targets 0 to V−1 are variables, 256 to 263 the eight locals"
abbrev pub target : (vars t : ℕ) → Bool
target vars t = ltb t vars || leb 256 t && ltb t 264

-- "for (initial set, condition, closing set, body)", up to the body
abbrev pub for_head : (vars levels : ℕ) → Reader ((Simple × Expr) × Simple)
for_head vars levels = pair (pair (loop_set vars levels) (expression vars false levels)) (loop_set vars levels)

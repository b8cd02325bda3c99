-- Bytes that the reading accepts, with all that it was given and what it found: what the functions that go by accepted bytes ask for.
use Rattle.std.specs.Prelude.{ℕ, ◌≤◌, Bool, false, List, ◌≡◌, length}
use Rattle.rules.specs.Basics.{choose}
use Rattle.rules.specs.Syntax.{Expr, Simple, Stmts}
use Rattle.rules.specs.Reading.{read, Reader, refuse, child, simples, expression, loop_set, statements, statement}

-- the bytes begin with an expression record
pub record Accepted (bytes : List ℕ) : Type 0 where
  pub levels : ℕ
  pub vars : ℕ
  pub in_rule : Bool
  pub start : ℕ
  pub at : ℕ
  pub tree : Expr
  pub to : ℕ
  pub rest : List ℕ
  pub few : vars ≤ 16
  pub reads : expression vars in_rule levels start at bytes ≡ read tree to rest

-- the bytes begin with what this reader accepts, for some number of variables, 16 at most, and of levels left
pub record AcceptedBy {A : Type 0} (reader : (vars levels : ℕ) → Reader A) (bytes : List ℕ) : Type 0 where
  pub levels : ℕ
  pub vars : ℕ
  pub start : ℕ
  pub at : ℕ
  pub tree : A
  pub to : ℕ
  pub rest : List ℕ
  pub few : vars ≤ 16
  pub reads : reader vars levels start at bytes ≡ read tree to rest

-- a record that is one step: a set, transfer, require or return
unfoldable pub simple_record : (vars levels : ℕ) → Reader Simple
simple_record vars levels = child (λ kind. choose kind (simples vars (expression vars false levels)) (refuse 3))

-- the bytes begin with such a record, with a loop's set, with a statement record
abbrev pub GoodSimple : List ℕ → Type 0
GoodSimple = AcceptedBy simple_record

abbrev pub GoodSet : List ℕ → Type 0
GoodSet = AcceptedBy loop_set

abbrev pub Good : List ℕ → Type 0
Good = AcceptedBy statement

-- the bytes are a block's statements in a row
pub record GoodAll (bytes : List ℕ) : Type 0 where
  pub fuel : ℕ
  pub levels : ℕ
  pub vars : ℕ
  pub start : ℕ
  pub at : ℕ
  pub tree : Stmts
  pub to : ℕ
  pub rest : List ℕ
  pub few : vars ≤ 16
  pub enough : length bytes ≤ fuel
  pub reads : statements fuel (statement vars levels) start at bytes ≡ read tree to rest

-- What is known of an accepted agreement: its start, from and to are states, and each record that its steps name reads back.
use mathlib.Core.Path.{◌≡◌}
use Prim.Native.Nat.{ℕ, ◌≤◌, ◌<◌}
use native.Mathlib.Omega.{arith}
use mathlib.Core.Option.{some}
use mathlib.Core.List.{List}
use Rattle.rules.specs.Syntax.{Stmt, Stmts, Transition, Agreement}
use Rattle.rules.specs.Reading.{expr_at, simple_at}
use Rattle.rules.specs.Accepting.{good, file_of}
use Rattle.rules.specs.Demands.{All}
use Rattle.laws.proofs.Every.{Every, Everys}
use Rattle.grammar.proofs.Levels.{expression-again, simple-again, loop-set-again}
use Rattle.grammar.proofs.Statements.{Statement, every-read}
use Rattle.grammar.proofs.Agreements.{row-all}
use Rattle.grammar.proofs.Accepted.{accepted-tree}

module _ (file : List ℕ) where
  module _ (vars : ℕ) where
    -- every record that the statement's steps name is there
    abbrev pub Reads : Stmt → Type 0
    Reads = Every (λ at x. simple_at file vars at ≡ some x) (λ at e. expr_at file vars at ≡ some e)

    abbrev pub ReadsAll : Stmts → Type 0
    ReadsAll = Everys (λ at x. simple_at file vars at ≡ some x) (λ at e. expr_at file vars at ≡ some e)

    reads : {l at to : ℕ} {s : Stmt} → Statement file vars l at s to → l ≤ 17 → Reads s
    reads =
        every-read (λ l _ _ _ few. expression-again vars l few)
        (λ l _ _ _ few h _. simple-again vars l few h) (λ l _ _ _ few h. loop-set-again vars l few h.0)

  -- a transition that was read
  pub record Sound (vars S : ℕ) (t : Transition) : Type 0 where
    pub from-state : t.from < S
    pub to-state : t.to < S
    pub guard-reads : expr_at file vars t.guard_at ≡ some t.guard
    pub action-reads : Reads vars t.action

  -- an agreement that was read
  pub record Good (a : Agreement) : Type 0 where
    pub start-state : a.fields.start < a.fields.states
    pub initial-reads : Reads a.fields.variables a.initial
    pub fallback-reads : Reads a.fields.variables a.fallback
    pub sound : All (Sound a.fields.variables a.fields.states) a.transitions

  pub file-good : (a : Agreement) → file_of file ≡ good a → Good a
  file-good a e =
      let v = a.fields.variables in
      let t = (accepted-tree file e).parts in
      record {
        start-state = t.head.bounded.start-state;
        initial-reads = reads v t.initial_sound (omega arith);
        fallback-reads = reads v t.fallback_sound (omega arith);
        sound = row-all file t.transitions.row λ _ _ u h.
            record {
              from-state = h.from_state;
              to-state = h.to_state;
              guard-reads = expression-again v 14 (omega arith) h.guard;
              action-reads = reads v h.sound (omega arith);
            };
      }

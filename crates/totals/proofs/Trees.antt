-- What is known of the tree of an accepted file (tree-good): its fields are in their ranges, its start and its transitions' next states
-- are below S, and a set's target is a variable or a local.
use mathlib.Core.Path.{◌≡◌}
use Prim.Native.Nat.{ℕ, ◌≤◌, ◌<◌}
use native.Mathlib.Omega.{arith}
use mathlib.Core.List.{List}
use Rattle.rules.specs.declared.Fields.{Fields}
use Rattle.rules.specs.Basics.{sum, most32}
use Rattle.rules.specs.Syntax.{Stmt, Transition, Agreement}
use Rattle.rules.specs.Accepting.{good, file_of}
use Rattle.rules.specs.Demands.{All}
use Rattle.laws.proofs.Targets.{Sound}
use Rattle.grammar.proofs.Statements.{Target, Statement, every-read}
use Rattle.grammar.proofs.Agreements.{Bounded, row-all}
use Rattle.grammar.proofs.Accepted.{accepted-file, accepted-tree}

-- each set of a statement that was read has its target in range
statement-sound : (file : List ℕ) (vars : ℕ) {l at to : ℕ} {s : Stmt} → Statement file vars l at s to → l ≤ 17 → Sound (Target vars) s
statement-sound file vars = every-read (λ _ _ _ _ _ _. tt) (λ _ _ _ _ _ _ a. a) (λ _ _ _ _ _ h. h.1)

pub record GoodTransition (f : Fields) (t : Transition) : Type 0 where
  pub to-state : t.to < f.states
  pub sound : Sound (Target f.variables) t.action

pub record GoodTree (a : Agreement) : Type 0 where
  pub fields : Bounded a.fields
  pub initial : Sound (Target a.fields.variables) a.initial
  pub fallback : Sound (Target a.fields.variables) a.fallback
  pub transitions : All (GoodTransition a.fields) a.transitions

-- what was read, with opening balances whose sum fits 32 bits
pub record Accepted (a : Agreement) : Type 0 where
  pub tree : GoodTree a
  pub opening-fits : sum a.fields.opening ≤ most32

pub tree-good : (file : List ℕ) (a : Agreement) → file_of file ≡ good a → Accepted a
tree-good file a e =
    let v = a.fields.variables in
    let t = (accepted-tree file e).parts in
    record {
      tree = record {
        fields = t.head.bounded;
        initial = statement-sound file v t.initial_sound (omega arith);
        fallback = statement-sound file v t.fallback_sound (omega arith);
        transitions = row-all file t.transitions.row λ _ _ u h. record { to-state = h.to_state; sound = statement-sound file v h.sound (omega arith) };
      };
      opening-fits = (accepted-file file e).opening-fits;
    }

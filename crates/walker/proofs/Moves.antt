-- What the code's steps and runs are, from what their parts are.
use Rattle.std.specs.Prelude.{if◌then◌else◌}
use Prim.Native.Nat.{ℕ, ◌+◌, ◌≤◌, ◌<◌}
use mathlib.Core.Path.{◌≡◌, sym, ap, ◌∙◌}
use mathlib.Core.Bool.{Bool, true, false}
use mathlib.Core.List.{List}
use mathlib.Core.Option.{some}
use Rattle.rules.specs.declared.Machine.{Machine}
use Rattle.rules.specs.Expanding.{expansion}
use Rattle.rules.specs.declared.Setting.{Setting}
use Rattle.rules.specs.Running.{Run, going, perform, condition, guarded}
use Rattle.rules.specs.Calling.{halted, leads}
use Rattle.rules.specs.Stepping.{Records, records_in, step_from, target_in, onward, walk_by}
use Rattle.machine.specs.declared.Stop.{Stop}
use Rattle.machine.specs.Runs.{stopped_by}
use Rattle.forms.proofs.Units.{condition-costs, guarded-costs}
use Rattle.walker.specs.Tables.{Expanded, word_at, step_at}
use Rattle.walker.specs.Runs.{run_of, decided_in, advance_in, admitted_in, walk_in, walk_by_in}
use Rattle.walker.proofs.Ends.{stops-so, reached-stops, step-decides, step-performs, step_other, decided-is, performed-is, admitted-is}
use Rattle.walker.proofs.Meeting.{ExprAt, SimpleAt, Condition}

module _ {file words : List ℕ} (a : Expanded file words) (i : ℕ) (c : Setting) (m : Machine) where
  abbrev records : Records
  records = records_in file a.tree.fields.variables

  -- a condition
  module _ (k : Condition a i) where
    abbrev target : Bool → ℕ
    target b = target_in (step_from (expansion a.tree) (word_at words i 0) (if b then 2 else 3))

    decided : decided_in file a.tree c (step_at words i) m ≡ leads target (word_at words i 1) (condition c k.test.tree m)
    decided = decided-is c records (expansion a.tree) (step_at words i) m k.test.tree k.test.reads

    by-value : (b : Bool) {n : ℕ} {w : Machine} → going b w ≡ condition c k.test.tree m → n ≡ target b → going n w ≡ run_of (decided_in file a.tree c (step_at words i) m)
    unfolding leads
    by-value b {w = w} h e = ap (λ (n : ℕ). going n w) e ∙ rw (decided, ← h)

    pub decides-yes : {n : ℕ} {w : Machine} → going true w ≡ condition c k.test.tree m → n ≡ word_at words i 1 → going n w ≡ run_of (decided_in file a.tree c (step_at words i) m)
    decides-yes h e = by-value true h (e ∙ sym k.yes)

    pub decides-no : {n : ℕ} {w : Machine} → going false w ≡ condition c k.test.tree m → n ≡ word_at words (i + 1) 1 → going n w ≡ run_of (decided_in file a.tree c (step_at words i) m)
    decides-no h e = by-value false h (e ∙ sym k.no)

    pub decides-stops : (e : Stop) (w : Machine) → stopped_by e w ≡ condition c k.test.tree m → stopped_by e w ≡ run_of (decided_in file a.tree c (step_at words i) m)
    decides-stops e w h = rw decided (stops-so c m _ e w target (word_at words i 1) (condition-costs c k.test.tree m) h)

  pub decides : word_at words i 2 ≡ 2 → decided_in file a.tree c (step_at words i) m ≡ advance_in file a.tree c (step_at words i) m
  decides h = sym (step-decides c records (expansion a.tree) (step_at words i) m h)

  -- a statement
  pub performs : (x : SimpleAt file a.tree.fields.variables (word_at words i 4)) → 4 ≤ word_at words i 2
      → {n : ℕ} {r : Run (Unit {0})} → r ≡ perform c x.tree m → n ≡ word_at words i 1 → leads (λ _. n) n r ≡ advance_in file a.tree c (step_at words i) m
  performs x l h e =
      let T = expansion a.tree in
      rw (h, e) (sym (step-performs c records T (step_at words i) m l ∙ performed-is c records T (step_at words i) m x.tree x.reads))

  -- no other step is met
  pub refuses : (word_at words i 2 ≡ 2 → ⊥) → (word_at words i 2 ≡ 3 → ⊥) → word_at words i 2 < 4 → advance_in file a.tree c (step_at words i) m ≡ halted 25 m
  refuses two three low = step_other c records (expansion a.tree) (step_at words i) m two three low

  -- a guard
  module _ (x : ExprAt file a.tree.fields.variables (word_at words i 4)) where
    admits : admitted_in file a.tree c (step_at words i) m ≡ leads (λ _. word_at words i 1) (word_at words i 1) (guarded c x.tree m)
    admits = admitted-is c records (expansion a.tree) (step_at words i) m x.tree x.reads

    pub admits-on : {w : Machine} → going tt w ≡ guarded c x.tree m → walk_by_in file a.tree c (some (step_at words i)) m ≡ walk_in file a.tree c (word_at words i 1) w
    unfolding walk_by onward leads
    admits-on h = rw (admits, ← h)

    pub admits-stops : (e : Stop) (w : Machine) → stopped_by e w ≡ guarded c x.tree m → stopped_by e w ≡ run_of (walk_by_in file a.tree c (some (step_at words i)) m)
    unfolding walk_by
    admits-stops e w h =
        reached-stops _ e w _ (rw admits (stops-so c m _ e w (λ _. word_at words i 1) (word_at words i 1) (guarded-costs c x.tree m) h))

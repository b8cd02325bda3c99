-- A run from node to node by the index of nodes.
use Prim.Native.Nat.{ℕ, suc, ◌≤◌, ◌<◌}
use mathlib.Core.Path.{◌≡◌, refl, sym, ap, subst, ◌∙◌}
use mathlib.Core.Bool.{true, Bool-set}
use mathlib.Core.List.{List}
use mathlib.Core.Logic.{∥∥₁_elim}
use mathlib.Core.Option.{some}
use Rattle.std.proofs.Math.Nat.{ℕ_set}
use Rattle.std.proofs.Props.{props}
use lib.ListN.{get_or}
use Rattle.rules.specs.declared.Fields.{Fields}
use Rattle.rules.specs.declared.Machine.{Machine}
use Rattle.rules.specs.Syntax.{Agreement}
use Rattle.rules.specs.Expanding.{expansion, table}
use Rattle.rules.specs.Accepting.{File, good, bad, file_of}
use Rattle.rules.specs.declared.Setting.{Setting}
use Rattle.rules.specs.Running.{going}
use Rattle.rules.specs.Calling.{ended, halted}
use Rattle.rules.specs.Stepping.{Records, records_in, leaving, begins_with}
use Rattle.machine.specs.declared.Stop.{Stop}
use Rattle.machine.specs.Runs.{stopped_by}
use Rattle.walker.specs.Tables.{Expanded, step_at, place_from}
use Rattle.walker.specs.Walkable.{Traversable, Walkable}
use Rattle.walker.specs.Runs.{run_of, advance_in, walk_in, Ready}
use Rattle.walker.proofs.Ends.{walk_ends, walk_refused, walk-stops, walk-goes}
use Rattle.walker.proofs.Meeting.{same-tree, none_first, leaves}

-- what steps keep, where a proof wants the tree itself: it is the file's
pub traversable : {file words nodes : List ℕ} → ∥ Traversable file words nodes ∥₁ → Traversable file words nodes
traversable {file} {words} {nodes} h = go (file_of file) refl
  where
    go : (f : File) → file_of file ≡ f → Traversable file words nodes
    go (bad r) e = absurd (∥∥₁_elim h (λ x y. absurd x) (λ w. let k = w.expanded.is in cc))
    go (good t) e =
        let same : (w : Traversable file words nodes) → w.expanded.tree ≡ t = λ w. (let k = w.expanded.is in cc) in
        record {
          expanded = record {
            tree = t;
            is = e;
            begins =
                ∥∥₁_elim h (Bool-set _ _) (λ w. subst (λ (t : Agreement). begins_with words (table (expansion t)) ≡ true) (same w) w.expanded.begins);
          };
          indexed = record {
            full = ∥∥₁_elim h (ℕ_set _ _) (λ w. w.indexed.full);
            has = λ n. ∥∥₁_elim h (ℕ_set _ _) (λ w. w.indexed.has n ∙ ap (λ (t : Agreement). place_from 0 (expansion t) n) (same w));
          };
        }

-- steps with the file's fields, as a start and a call go by them
module _ {file words nodes : List ℕ} {fields : Fields} where
  pub steps-of : Walkable file words nodes fields → Traversable file words nodes
  steps-of w = record { expanded = w.expanded; indexed = w.indexed }

  pub fields-of : Walkable file words nodes fields → (a : Expanded file words) → fields ≡ a.tree.fields
  fields-of w a = w.counts ∙ ap (λ (t : Agreement). t.fields) (same-tree w.expanded a)

  pub with-fields : Traversable file words nodes → ((a : Expanded file words) → fields ≡ a.tree.fields) → Walkable file words nodes fields
  with-fields t f = record { expanded = t.expanded; indexed = t.indexed; counts = f t.expanded }

  pub walkable : ∥ Walkable file words nodes fields ∥₁ → Walkable file words nodes fields
  walkable h =
      with-fields (traversable (∥∥₁_elim h (hlevel props) (λ w. ∣ steps-of w ∣₁))) (λ a. ∥∥₁_elim h (hlevel props) (λ w. fields-of w a))

module _ {file words nodes : List ℕ} (w : Traversable file words nodes) where
  -- the index is right for every tree of the file
  placed : (a : Expanded file words) (n k : ℕ) → k ≡ get_or nodes n 0 → place_from 0 (expansion a.tree) n ≡ k
  placed a n k e = sym (e ∙ w.indexed.has n ∙ ap (λ (t : Agreement). place_from 0 (expansion t) n) (same-tree w.expanded a))

  pub ready : (n i : ℕ) → suc i ≡ get_or nodes n 0 → Ready file words i
  ready n i e = record { expanded = w.expanded; node = n; first = placed w.expanded n (suc i) e }

  module _ (a : Expanded file words) (c : Setting) (n : ℕ) (m : Machine) where
    abbrev records : Records
    records = records_in file a.tree.fields.variables

    pub ends-here : n ≤ c.states → walk_in file a.tree c n m ≡ ended n m
    ends-here low = walk_ends c records (expansion a.tree) n m low

    module _ (high : c.states < n) where
      pub no_step : 0 ≡ get_or nodes n 0 → walk_in file a.tree c n m ≡ halted 25 m
      no_step e = walk_refused c records (expansion a.tree) n m high (none_first a n (placed a n 0 e))

      module _ (i : ℕ) (e : suc i ≡ get_or nodes n 0) where
        step_is : leaving (expansion a.tree) n ≡ some (step_at words i)
        step_is = leaves a i n (placed a n (suc i) e)

        pub stops-here : (s : Stop) (v : Machine) → stopped_by s v ≡ run_of (advance_in file a.tree c (step_at words i) m) → stopped_by s v ≡ run_of (walk_in file a.tree c n m)
        stops-here s v is = walk-stops c records (expansion a.tree) n m (step_at words i) s v high step_is is

        pub goes_on : {k : ℕ} {v : Machine} → going k v ≡ run_of (advance_in file a.tree c (step_at words i) m)
            → walk_in file a.tree c n m ≡ walk_in file a.tree c k v
        goes_on is = walk-goes c records (expansion a.tree) n m (step_at words i) high step_is _ _ is

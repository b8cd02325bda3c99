-- What a run meets at the first step that leaves a node: its record, and where it leads.
use Prim.Native.Nat.{ℕ, zero, suc, ◌+◌, ◌≤◌}
use mathlib.Core.Path.{◌≡◌, refl, sym, ap, subst, ◌∙◌}
use mathlib.Core.List.{List, ◌∷◌}
use mathlib.Core.Option.{none, some}
use native.Mathlib.Omega.{arith}
use native.Mathlib.Numerals.{add-one}
use lib.ListN.{length, get_elem?, drop}
use Rattle.rules.specs.Syntax.{Expr, Simple, Agreement}
use Rattle.rules.specs.Reading.{expr_at, simple_at}
use Rattle.rules.specs.Expanding.{Step, step, expansion}
use Rattle.rules.specs.Stepping.{leaving, step_from, target_in}
use Rattle.records.specs.Checking.{from}
use Rattle.records.specs.Acceptance.{Accepted, GoodSimple}
use Rattle.records.proofs.Accepts as expressions
use Rattle.records.proofs.Simples as simples
use Rattle.records.proofs.Parts.{from-length}
use Rattle.forms.proofs.Accepted.{file-good}
use Rattle.access.proofs.Using.{accepted-read, tree-bounds, same-accepted}
use Rattle.actions.proofs.Offsets.{expr-at, simple-at}
use Rattle.walker.specs.Runs.{Ready}
use Rattle.walker.specs.Tables.{Expanded, word_at, step_at, place_from, GuardAt}
use Rattle.walker.proofs.Tables.{Here, step-here, at_here, at-below, drop-below}
use Rattle.walker.proofs.Shape.{Shaped, end, guard, one, two, expansion-shaped}
use Rattle.walker.proofs.Places.{Leaving, guarding, performing, deciding, Looked, nowhere, there, looked}

-- the file has one tree
pub same-tree : {file words : List ℕ} (a b : Expanded file words) → a.tree ≡ b.tree
same-tree a b = same-accepted (record { tree = a.tree; is = a.is }) (record { tree = b.tree; is = b.is })

-- a step that is ready is so for every tree of the file
pub first_of : {file words : List ℕ} {i : ℕ} (r : Ready file words i) (a : Expanded file words) → place_from 0 (expansion a.tree) r.node ≡ suc i
first_of {i = i} r a = subst (λ (t : Agreement). place_from 0 (expansion t) r.node ≡ suc i) (same-tree r.expanded a) r.first

-- an expression, and a statement of one step, in the bytes from an offset on
pub record ExprFrom (file : List ℕ) (tree : Expr) (at : ℕ) : Type 0 where
  pub within : at ≤ length file
  pub bytes : Accepted (from at file)
  pub is : bytes.tree ≡ tree

pub record SimpleFrom (file : List ℕ) (tree : Simple) (at : ℕ) : Type 0 where
  pub within : at ≤ length file
  pub bytes : GoodSimple (from at file)
  pub is : bytes.tree ≡ tree

-- the same at a step's offset
pub record ExprAt (file : List ℕ) (vars at : ℕ) : Type 0 where
  pub tree : Expr
  pub reads : expr_at file vars at ≡ some tree
  pub stands : ExprFrom file tree at

pub record SimpleAt (file : List ℕ) (vars at : ℕ) : Type 0 where
  pub tree : Simple
  pub reads : simple_at file vars at ≡ some tree
  pub stands : SimpleFrom file tree at

-- and at an offset that was read of its words
pub expr-from : {file : List ℕ} {vars at k : ℕ} → k ≡ at → (x : ExprAt file vars at) → ExprFrom file x.tree k
expr-from {file} is x = subst (ExprFrom file x.tree) (sym is) x.stands

pub simple-from : {file : List ℕ} {vars at k : ℕ} → k ≡ at → (x : SimpleAt file vars at) → SimpleFrom file x.tree k
simple-from {file} is x = subst (SimpleFrom file x.tree) (sym is) x.stands

-- a kind 1 step has its guard
guard-record : {file : List ℕ} {vars : ℕ} {l : List Step} → Shaped file vars l → (i : ℕ) {s : Step} → get_elem? l i ≡ some s → s.kind ≡ 1
    → (e : Expr) × (expr_at file vars s.at ≡ some e)
guard-record end i e k = absurd cc
guard-record {file} {vars} (guard {s = t} x q r h) zero {s} e k = let z : t ≡ s = cc in (x, subst (λ (s : Step). expr_at file vars s.at ≡ some x) z r)
guard-record (guard x q r h) (suc i) e k = guard-record h i e k
guard-record (one {s = t} x q r h) zero {s} e k = let z : t ≡ s = cc in absurd (omega (arith, ap (λ (s : Step). s.kind) z))
guard-record (one x q r h) (suc i) e k = guard-record h i e k
guard-record (two {o = o} {y = y} {at = at} x r h) zero {s} e k = let z : step o y 2 0 at ≡ s = cc in absurd (omega (arith, ap (λ (s : Step). s.kind) z))
guard-record (two {o = o} {z = w} {at = at} x r h) (suc zero) {s} e k = let z : step o w 3 0 at ≡ s = cc in absurd (omega (arith, ap (λ (s : Step). s.kind) z))
guard-record (two x r h) (suc (suc i)) e k = guard-record h i e k

module _ {file words : List ℕ} (a : Expanded file words) where
  abbrev T : List Step
  T = expansion a.tree

  abbrev vars : ℕ
  vars = a.tree.fields.variables

  shape : Shaped file vars T
  shape = expansion-shaped file a.tree (file-good file a.tree a.is)

  few : vars ≤ 16
  few = let t = accepted-read file a.tree a.is in subst (λ (b : Agreement). b.fields.variables ≤ 16) t.1 (tree-bounds t.0).fields.few-variables

  expr-there : (at : ℕ) (e : Expr) → expr_at file vars at ≡ some e → ExprAt file vars at
  expr-there at e r =
      let g = expr-at file vars at few r in
      let n = expressions.sized refl g.0 in
      record { tree = e; reads = r; stands = record { within = omega (arith, n, from-length at file); bytes = g.0; is = g.1 } }

  simple-there : (at : ℕ) (x : Simple) → simple_at file vars at ≡ some x → SimpleAt file vars at
  simple-there at x r =
      let g = simple-at file vars at few r in
      let n = simples.sized refl g.0 in
      record { tree = x; reads = r; stands = record { within = omega (arith, n, from-length at file); bytes = g.0; is = g.1 } }

  -- a step of the table
  pub at_place : (i : ℕ) {s : Step} → get_elem? T i ≡ some s → Here words T i
  at_place i e = step-here words T a.begins i (at-below T i e)

  pub guard-there : (i : ℕ) {s : Step} → GuardAt T i s → ExprAt file vars (word_at words i 4)
  guard-there i {s} g =
      let e = guard-record shape i g.here g.guard in
      let z : s.at ≡ word_at words i 4 = sym (ap (λ (s : Step). s.at) (at_here (at_place i g.here) g.here)) in
      expr-there (word_at words i 4) e.0 (subst (λ (k : ℕ). expr_at file vars k ≡ some e.0) z e.1)

  -- a condition's expression, and the targets of its two steps
  pub record Condition (i : ℕ) : Type 0 where
    pub test : ExprAt file vars (word_at words i 4)
    pub second : Here words T (i + 1)
    pub yes : target_in (step_from T (word_at words i 0) 2) ≡ word_at words i 1
    pub no : target_in (step_from T (word_at words i 0) 3) ≡ word_at words (i + 1) 1

  -- no step leaves the node
  pub none_first : (n : ℕ) → place_from 0 T n ≡ 0 → leaving T n ≡ none
  none_first n h = go (looked file vars 0 shape n)
    where
      go : Looked file vars 0 T n → leaving T n ≡ none
      go (nowhere p v) = v
      go (there k p v) = absurd (omega arith)

  module _ (i n : ℕ) (first : place_from 0 T n ≡ suc i) where
    met : Leaving file vars T n i
    met = go (looked file vars 0 shape n)
      where
        go : Looked file vars 0 T n → Leaving file vars T n i
        go (nowhere p v) = absurd (omega arith)
        go (there k p v) = let z : k ≡ i = omega arith in subst (Leaving file vars T n) z v

    pub here : Here words T i
    here = step-here words T a.begins i (go met)
      where
        go : Leaving file vars T n i → suc i ≤ length T
        go (guarding s d v q) = drop-below T i d
        go (performing s x d v q r) = drop-below T i d
        go (deciding o y z at e same d f v p q r) = drop-below T i d

    is-here : {s : Step} → drop i T ≡ s ∷ drop (suc i) T → s ≡ step_at words i
    is-here d = let z = here.here in cc

    pub leaves : leaving T n ≡ some (step_at words i)
    leaves = go met
      where
        go : Leaving file vars T n i → leaving T n ≡ some (step_at words i)
        go (guarding s d v q) = v ∙ ap some (is-here d)
        go (performing s x d v q r) = v ∙ ap some (is-here d)
        go (deciding o y z at e same d f v p q r) = v ∙ ap some (is-here d)

    -- it is no condition's second step
    pub not_three : word_at words i 2 ≡ 3 → ⊥
    not_three h = go met
      where
        kind : {s : Step} → drop i T ≡ s ∷ drop (suc i) T → s.kind ≡ 3
        kind d = ap (λ (s : Step). s.kind) (is-here d) ∙ h

        go : Leaving file vars T n i → ⊥
        go (guarding s d v q) = omega (arith, kind d)
        go (performing s x d v q r) = omega (arith, kind d)
        go (deciding o y z at e same d f v p q r) = omega (arith, kind d)

    -- where it is no guard's and no condition's, it is a statement's
    pub simple-met : (word_at words i 2 ≡ 1 → ⊥) → (word_at words i 2 ≡ 2 → ⊥) → SimpleAt file vars (word_at words i 4) × (4 ≤ word_at words i 2)
    simple-met guards tests = go met
      where
        kind : {s : Step} → drop i T ≡ s ∷ drop (suc i) T → s.kind ≡ word_at words i 2
        kind d = ap (λ (s : Step). s.kind) (is-here d)

        go : Leaving file vars T n i → SimpleAt file vars (word_at words i 4) × (4 ≤ word_at words i 2)
        go (guarding s d v q) = absurd (guards (sym (kind d) ∙ q))
        go (performing s x d v q r) = (simple-there (word_at words i 4) x (rw (ap (λ (s : Step). s.at) (is-here d)) at r), omega (arith, kind d))
        go (deciding o y z at e same d f v p q r) = absurd (tests (sym (kind d)))

    pub condition-met : word_at words i 2 ≡ 2 → Condition i
    unfolding target_in
    condition-met h = go met
      where
        kind : {s : Step} → drop i T ≡ s ∷ drop (suc i) T → s.kind ≡ 2
        kind d = ap (λ (s : Step). s.kind) (is-here d) ∙ h

        go : Leaving file vars T n i → Condition i
        go (guarding s d v q) = absurd (omega (arith, kind d))
        go (performing s x d v q r) = absurd (omega (arith, kind d))
        go (deciding o y z at e same d f v p q r) =
            let s = is-here d in
            let w : Here words T (i + 1) = rw add-one (step-here words T a.begins (suc i) (drop-below T (suc i) f)) in
            let g : drop (i + 1) T ≡ step o z 3 0 at ∷ drop (suc (suc i)) T = rw add-one f in
            let u = w.here in
            let t : step o z 3 0 at ≡ step_at words (i + 1) = cc in
            let m : word_at words i 0 ≡ n = sym (ap (λ (s : Step). s.origin) s) ∙ same in
            record {
              test = expr-there (word_at words i 4) e (rw (ap (λ (s : Step). s.at) s) at r);
              second = w;
              yes = rw (m, p) (ap (λ (s : Step). s.target) s);
              no = rw (m, q) (ap (λ (s : Step). s.target) t);
            }

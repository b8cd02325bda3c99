-- What other crates go by: the bounds of a tree that was read, the actions and conditions at their offsets, and what the
-- functions' answers say of the tree.
use Rattle.std.specs.Prelude.{Some, None, Ok, Err}
use Prim.Native.Nat.{ℕ, ◌+◌, ◌≤◌, ◌<◌}
use mathlib.Core.Path.{◌≡◌, refl, sym, ap, subst, ◌∙◌}
use mathlib.Core.Bool.{Bool, true, false}
use mathlib.Core.List.{List}
use mathlib.Core.Option.{Option, none, some}
use native.Mathlib.Omega.{arith}
use lib.ListN.{length, get_elem?, drop}
use Rattle.rules.specs.Syntax.{Expr, Stmt, Transition, Rule, always, Agreement}
use Rattle.rules.specs.Reading.{size_of, expression, statement}
use Rattle.rules.specs.Expanding.{expansion}
use Rattle.rules.specs.declared.Refusal.{Refusal}
use Rattle.rules.specs.Accepting.{File, bad, good, file_of, on_file, read_file}
use Rattle.rules.specs.Calling.{known, transition_of}
use Rattle.rules.specs.Demands.{All, none}
use Rattle.laws.proofs.Each.{all-find}
use Rattle.grammar.proofs.Keeping.{Stored}
use Rattle.grammar.proofs.Agreements.{Bounded, RuleBy, one, two, three, TransitionIn, row-all}
use Rattle.grammar.proofs.Accepted.{accepted-file}
use Rattle.records.specs.Acceptance.{Accepted, Good}
use Rattle.access.specs.declared.Elsewhere.{Elsewhere}
use Rattle.access.specs.declared.Layout.{Layout}
use Rattle.access.specs.Trees.{TreeRead, AcceptedFile}
use Rattle.access.specs.Places.{past, Laid, action_at}
use Rattle.access.specs.FoundAnswers.{Found, found_of, same}
use Rattle.access.proofs.Trees.{same-tree, tree, tree-parts, laid, parts}
use Rattle.access.proofs.Items.{elem-here, rule-at}

-- ---- bounds

-- the tree of an accepted file, as it was read
abbrev pub tree_of : {file : List ℕ} → AcceptedFile file → TreeRead file
tree_of {file} a = let x = accepted-file file a.is in record { tree = a.tree; to = x.to; left = x.left; is = x.reads }

pub accepted-read : (file : List ℕ) (a : Agreement) → file_of file ≡ good a → (t : TreeRead file) × (t.tree ≡ a)
accepted-read file a h = (tree_of (record { tree = a; is = h }), refl)

-- a file is accepted as one tree
pub same-accepted : {file : List ℕ} (a b : AcceptedFile file) → a.tree ≡ b.tree
same-accepted a b = same-tree (tree_of a) (tree_of b)

pub few-steps : {file : List ℕ} (a : AcceptedFile file) → length (expansion a.tree) ≤ 1024
few-steps {file} a = (accepted-file file a.is).few-steps

pub refused-file : (file : List ℕ) (r : Refusal) → Err r ≡ read_file file → file_of file ≡ bad r
unfolding read_file on_file
refused-file file r h = go (file_of file) h
  where
    go : (f : File) → Err r ≡ on_file Err (λ a. Ok (length (expansion a))) f → f ≡ bad r
    go (bad x) h = cc
    go (good a) h = absurd cc

pub record Bounds (file : List ℕ) (a : Agreement) : Type 0 where
  pub size : length file ≤ 32768
  pub fields : Bounded a.fields
  pub transitions : length a.transitions ≤ 64
  pub rows : length a.rows ≤ 16
  pub rules : length a.rules ≤ 8
  pub states : All (λ (t : Transition). (t.from < a.fields.states) × (t.to < a.fields.states)) a.transitions

pub tree-bounds : {file : List ℕ} (t : TreeRead file) → Bounds file t.tree
tree-bounds {file} t =
    let p = tree-parts t in
    record {
      size = p.small;
      fields = p.head.bounded;
      transitions = p.transitions.few;
      rows = p.rows.few;
      rules = p.rules.few;
      states = row-all file (tree t).parts.transitions.row (λ at to x h. (h.from_state, h.to_state));
    }

few : {file : List ℕ} (t : TreeRead file) → t.tree.fields.variables ≤ 16
few t = (tree-parts t).head.bounded.few-variables

-- the counts of a layout
pub counts :
    {file : List ℕ} {l : Layout} → Laid file l → (a : TreeRead file) →
    (l.transitions.count ≡ length a.tree.transitions) × (l.rows.count ≡ length a.tree.rows) × (l.rules.count ≡ length a.tree.rules)
counts h a = let o = laid h a in (o.transitions.counts, o.rows.counts, o.rules.counts)

-- ---- actions and conditions at their offsets

-- a statement stands at an offset: s are the bytes from there on
pub record ActionAt (file : List ℕ) (at : ℕ) (tree : Stmt) : Type 0 where
  pub fits : at + 4 ≤ length file
  pub good : (s : List ℕ) → s ≡ drop at file → (g : Good s) × (g.at ≡ at) × (g.tree ≡ tree)

-- and an expression
pub record ConditionAt (file : List ℕ) (at : ℕ) (tree : Expr) : Type 0 where
  pub fits : at + 4 ≤ length file
  pub accepted : (s : List ℕ) → s ≡ drop at file → (g : Accepted s) × (g.tree ≡ tree)

action-read : (vars levels : ℕ) {at to : ℕ} {file : List ℕ} {tree : Stmt} → vars ≤ 16
    → Stored file (statement vars levels) at tree to → ActionAt file at tree
action-read vars levels {at} le h =
    record {
      fits = omega (arith, h.four, h.fits);
      good = λ s i. (
        let reads = ap (statement vars levels at at) i ∙ h.reads at in
            record { levels = levels; vars = vars; start = at; at = at; tree = _; to = _; rest = _; few = le; reads = reads },
        refl,
        refl,
      );
    }

condition-read :
    (vars : ℕ) (in_rule : Bool) (levels : ℕ) {at to : ℕ} {file : List ℕ} {tree : Expr} → vars ≤ 16 →
    Stored file (expression vars in_rule levels) at tree to → ConditionAt file at tree
condition-read vars in_rule levels {at} le h =
    record {
      fits = omega (arith, h.four, h.fits);
      accepted = λ s i. (
        let reads = ap (expression vars in_rule levels at at) i ∙ h.reads at in
            record { levels = levels; vars = vars; in_rule = in_rule; start = at; at = at; tree = _; to = _; rest = _; few = le; reads = reads },
        refl,
      );
    }

module _ {file : List ℕ} {l : Layout} (h : Laid file l) (a : TreeRead file) where
  pub initial-at : ActionAt file l.initial a.tree.initial
  initial-at = action-read _ 15 (few a) (parts h a).initial

  pub fallback-at : ActionAt file l.fallback a.tree.fallback
  fallback-at = action-read _ 15 (few a) (parts h a).fallback

-- ---- transitions

-- the transition that was found, with its record at the offset
pub record FoundAt (file : List ℕ) (a : Agreement) (name state at : ℕ) : Type 0 where
  pub transition : Transition
  pub is : transition_of a name state ≡ some transition
  pub end : ℕ
  pub record-at : TransitionIn file a.fields.variables a.fields.states at transition end
  pub guard : ConditionAt file (at + 8) transition.guard
  pub action : ActionAt file (action_at file at) transition.action

-- what an answer says of the tree
abbrev Means : (k : Bool) (o : Option Transition) → Found → Type 0
Means k o (Ok (Some at)) = (t : Transition) × (o ≡ some t) × (t.at ≡ at)
Means k o (Ok None) = (k ≡ false) × (o ≡ none)
Means k o (Err e) = (k ≡ true) × (o ≡ none)

means : (k : Bool) (o : Option Transition) {r : Found} → r ≡ found_of k o → Means k o r
means k o h = subst (Means k o) (sym h) (go k o)
  where
    go : (k : Bool) (o : Option Transition) → Means k o (found_of k o)
    go k (some t) = (t, refl, refl)
    go true none = (refl, refl)
    go false none = (refl, refl)

action-offset : {file : List ℕ} {vars S at end : ℕ} {t : Transition} (w : TransitionIn file vars S at t end) → w.mid ≡ action_at file at
unfolding action_at
action-offset {file} w = w.guard.size ∙ ap (λ (k : ℕ). k + size_of (drop k file)) w.guard_at ∙ omega arith

module _ {file : List ℕ} (a : TreeRead file) (name state : ℕ) where
  pub find_at : (at : ℕ) → Ok (Some at) ≡ found_of (known a.tree name) (transition_of a.tree name state) → FoundAt file a.tree name state at
  unfolding transition_of
  find_at at h =
      let f = a.tree.fields in
      let Q : ℕ → Transition → Type 0 = λ k t. (to : ℕ) × TransitionIn file f.variables f.states k t to in
      let x = means (known a.tree name) (transition_of a.tree name state) h in
      let t = x.0 in
      let every = row-all file (tree a).parts.transitions.row (λ k to t w. subst (λ (k : ℕ). Q k t) (sym w.placed) (to, w)) in
      let w : Q at t = subst (λ (k : ℕ). Q k t) x.2 (all-find (same name state) every x.1) in
      record {
        transition = t;
        is = x.1;
        end = w.0;
        record-at = w.1;
        guard = subst (λ (k : ℕ). ConditionAt file k t.guard) w.1.guard_at (condition-read _ false 14 (few a) w.1.guard);
        action = subst (λ (k : ℕ). ActionAt file k t.action) (action-offset w.1) (action-read _ 14 (few a) w.1.action);
      }

  pub find-elsewhere : {e : Elsewhere} → Err e ≡ found_of (known a.tree name) (transition_of a.tree name state)
      → (known a.tree name ≡ true) × (transition_of a.tree name state ≡ none)
  find-elsewhere = means _ _

  pub find-unknown : Ok None ≡ found_of (known a.tree name) (transition_of a.tree name state)
      → (known a.tree name ≡ false) × (transition_of a.tree name state ≡ none)
  find-unknown = means _ _

-- ---- rules

-- the expression of a rule of type 1
rule-condition : {file : List ℕ} {vars type p q : ℕ} {o : ℕ → ℕ} {r : Rule} (e : Expr) → r ≡ always e
    → RuleBy file vars o type p q r → (to : ℕ) × Stored file (expression vars true 14) (o 8) e to
rule-condition {file} {vars} {o = o} e i (one {e = x} {to = to} t p q h) =
    let z : x ≡ e = cc in
    (to, subst (λ (y : Expr). Stored file (expression vars true 14) (o 8) y to) z h)
rule-condition e i (two t) = absurd cc
rule-condition e i (three t) = absurd cc

pub condition-at :
    {file : List ℕ} {l : Layout} (h : Laid file l) (a : TreeRead file) (i at : ℕ) → i < l.rules.count → at ≡ past file l.rules.at i →
    (e : Expr) → get_elem? a.tree.rules i ≡ some (always e) → ConditionAt file (at + 8) e
condition-at {file} h a i at less is e k =
    let x = rule-at h i less a at is in
    let z = elem-here a.tree.rules i x.value _ x.here in
    let y : x.value ≡ always e = cc in
    condition-read _ true 14 (few a) (rule-condition e y x.is.by).1

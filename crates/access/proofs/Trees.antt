-- A file that was read: its parts, where they stand, and its layout.
use Prim.Native.Nat.{ℕ, ◌≤◌}
use mathlib.Core.Path.{◌≡◌, refl, sym, ap, subst, ◌∙◌}
use mathlib.Core.List.{List, map}
use lib.ListN.{length, drop}
use Rattle.rules.specs.Syntax.{Transition, Agreement}
use Rattle.rules.specs.Reading.{read, Reader, group, statement, transition_body, row_body, rule_body}
use Rattle.grammar.proofs.Bytes.{part-all}
use Rattle.grammar.proofs.Keeping.{Stored}
use Rattle.grammar.proofs.Agreements.{FieldsAt, GroupAt, TransitionIn, RowIn, RuleIn}
use Rattle.grammar.proofs.Accepted.{Tree, tree-read}
use Rattle.access.specs.declared.Group.{Group}
use Rattle.access.specs.declared.Layout.{Layout}
use Rattle.access.specs.Trees.{TreeRead}
use Rattle.access.specs.Places.{GroupHolds, LaidOut, Laid}
use Rattle.access.proofs.Groups.{Items, rowed}

-- the parts of a tree in its file, by a layout
pub record Parts (file : List ℕ) (a : Agreement) (l : Layout) : Type 0 where
  pub small : length file ≤ 32768
  pub head : FieldsAt file (λ k. k) a.fields l.initial
  pub initial : Stored file (statement a.fields.variables 15) l.initial a.initial l.fallback
  pub fallback : Stored file (statement a.fields.variables 15) l.fallback a.fallback l.transitions.at
  pub transitions :
      Items (TransitionIn file a.fields.variables a.fields.states) 64 2 (transition_body a.fields.variables a.fields.states) file l.transitions a.transitions
  pub rows : Items (RowIn file a.fields.accounts) 16 3 (row_body a.fields.accounts) file l.rows a.rows
  pub rules :
      Items (RuleIn file a.fields.variables) 8 4 (rule_body a.fields.variables (map (λ (t : Transition). t.name) a.transitions)) file l.rules a.rules
  pub out : LaidOut file a l

-- a group up to the file's end
holds :
    {A : Type 0} {file : List ℕ} {kind most at to : ℕ} {body : Reader A} {P : ℕ → A → ℕ → Type 0} {xs : List A} →
    GroupAt file 0 (length file) kind body P most at xs to → GroupHolds most kind body file (record { at = at; count = length xs; end = to }) xs
holds {file = file} {kind = kind} {most = most} {at = at} {to = to} {body = body} {xs = xs} h =
    record { reads = ap (group most kind body 0 at) (sym (part-all at file)) ∙ h.reads ∙ ap (read xs to) (part-all to file); counts = refl }

module _ {file : List ℕ} (t : TreeRead file) where
  -- where its parts stand
  abbrev pub tree : Tree file t.tree
  tree = tree-read file t.is

  abbrev pub found : Layout
  found =
      let p = tree.parts in
      record {
        initial = p.first;
        fallback = p.second;
        transitions = record { at = p.third; count = length t.tree.transitions; end = p.fourth };
        rows = record { at = p.fourth; count = length t.tree.rows; end = p.fifth };
        rules = record { at = p.fifth; count = length t.tree.rules; end = length file };
      }

  pub tree-parts : Parts file t.tree found
  tree-parts =
      let p = tree.parts in
      let ts = rowed p.fallback.fits p.transitions.row in
      let ks = rowed ts.within p.rows.row in
      record {
        small = tree.small;
        head = p.head;
        initial = p.initial;
        fallback = p.fallback;
        transitions = ts;
        rows = ks;
        rules = rowed ks.within p.rules.row;
        out = record {
          first = p.head.goes;
          initial = p.initial.reads 0;
          fallback = p.fallback.reads 0;
          transitions = holds p.transitions;
          rows = holds p.rows;
          rules = holds p.rules;
          rows_next = refl;
          rules_next = refl;
          rules_last = refl;
        };
      }

-- ---- a file has one tree, and one layout

pub same-tree : {file : List ℕ} (a b : TreeRead file) → a.tree ≡ b.tree
same-tree {file} a b =
    let p = a.is in
    let q = b.is in
    cc

-- where two parts that begin at one place end
end-same :
    {A : Type 0} (r : Reader A) (file : List ℕ) {i j e f : ℕ} {x y : A} → i ≡ j →
    r 0 i (drop i file) ≡ read x e (drop e file) → r 0 j (drop j file) ≡ read y f (drop f file) → e ≡ f
end-same r file {i} {j} {e} {f} {x} {y} p h k =
    let z : read x e (drop e file) ≡ read y f (drop f file) = sym h ∙ ap (λ n. r 0 n (drop n file)) p ∙ k in
    cc

group-one :
    {A : Type 0} {most kind : ℕ} {body : Reader A} {file : List ℕ} {g k : Group} {xs : List A} → g.at ≡ k.at →
    GroupHolds most kind body file g xs → GroupHolds most kind body file k xs → g ≡ k
group-one {A} {most} {kind} {body} {file} {g} {k} p x y =
    let n = x.counts ∙ sym y.counts in
    let e = end-same (λ start at left. group most kind body start at left) file p x.reads y.reads in
    λ i. record { at = p i; count = n i; end = e i }

pub layout-one : {file : List ℕ} {a : Agreement} {l m : Layout} → LaidOut file a l → LaidOut file a m → l ≡ m
layout-one {file} {a} x y =
    let i = x.first ∙ sym y.first in
    let f = end-same (statement a.fields.variables 15) file i x.initial y.initial in
    let ts = group-one (end-same (statement a.fields.variables 15) file f x.fallback y.fallback) x.transitions y.transitions in
    let ks = group-one (x.rows_next ∙ ap (λ (g : Group). g.end) ts ∙ sym y.rows_next) x.rows y.rows in
    let rs = group-one (x.rules_next ∙ ap (λ (g : Group). g.end) ks ∙ sym y.rules_next) x.rules y.rules in
    λ j. record { initial = i j; fallback = f j; transitions = ts j; rows = ks j; rules = rs j }

-- what is laid out is laid out for every reading of the tree
module _ {file : List ℕ} {l : Layout} (h : Laid file l) (a : TreeRead file) where
  pub laid : LaidOut file a.tree l
  laid = subst (λ (t : Agreement). LaidOut file t l) (same-tree h.read a) h.out

  pub parts : Parts file a.tree l
  parts = subst (Parts file a.tree) (layout-one (tree-parts a).out laid) (tree-parts a)

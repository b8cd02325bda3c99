-- The search goes by the rule and the rows that were read, and begins with how the rule stands at first.
use Prim.Native.Nat.{ℕ}
use mathlib.Core.Path.{◌≡◌, sym, subst, ap, ◌∙◌}
use mathlib.Core.List.{List}
use native.Mathlib.Omega.{arith}
use lib.ListN.{length, get_or, take, length-take}
use Rattle.rules.specs.declared.Call.{Call}
use Rattle.rules.specs.declared.Fields.{Fields}
use Rattle.rules.specs.Syntax.{Rule}
use Rattle.rules.specs.Calling.{no_call}
use Rattle.rules.specs.Judging.{judged_of}
use Rattle.access.specs.declared.Layout.{Layout}
use Rattle.access.specs.Places.{Laid}
use Rattle.access.specs.Trees.{AcceptedFile, TreeRead}
use Rattle.access.proofs.Kept.{laid-of, accepted-moved}
use Rattle.access.proofs.Using.{counts, tree-bounds, tree_of}
use Rattle.access.specs.declared.RuleAt.{RuleAt}
use Rattle.runner.proofs.Lent.{file-of, by-file, call-walkable}
use Rattle.walker.specs.Tables.{Expanded}
use Rattle.walker.proofs.Walks.{fields-of}
use Rattle.searcher.specs.Plans.{Planned}
use Rattle.searcher.specs.Standing.{HeldAs}
use Rattle.searcher.proofs.Judges.{held_by, rule-here}
use Rattle.searcher.proofs.Positions.{ruling-by}
use Rattle.searcher.proofs.judging.judge_accepted.Goals as goal

-- as many rows as there are
module _ {file : List ℕ} {l : Layout} (h : Laid file l) (rows : List Call) (are : (a : TreeRead file) → take l.rows.count rows ≡ a.tree.rows) where
  taken : l.rows.count ≡ length (take l.rows.count rows)
  taken = omega (arith, ap length (are h.read), (counts h h.read).1)

pub slice_bounds-all-end : goal.slice_bounds-all-end
slice_bounds-all-end c =
    omega (
      arith,
      taken (laid-of c.args.parsed.now.laid) c.rows-all.result c.rows-all.ensures,
      length-take c.args.parsed.now.layout.rows.count c.rows-all.result,
    )

pub slice_bounds-search-end : goal.slice_bounds-search-end
slice_bounds-search-end c = taken (laid-of c.args.parsed.now.laid) c.rows-all.result c.rows-all.ensures

-- what the search goes by: the rule and the rows of the file that was prepared
abbrev planned : {file other words : List ℕ} {fields : Fields} {judge : RuleAt} {rows : List Call} (is : other ≡ file) (e : Expanded other words) (a : AcceptedFile file)
    → fields ≡ a.tree.fields → rows ≡ a.tree.rows → (x : Rule) → HeldAs file x judge → Planned other words fields judge rows
planned {judge = judge} is e a fields rows x holds =
    record {
      accepted = accepted-moved is a;
      expanded = e;
      are_fields = fields;
      judged = x;
      holds = subst (λ (file : List ℕ). HeldAs file x judge) (sym is) holds;
      few = omega (arith, ap length rows, (tree-bounds (tree_of a)).rows);
      are_rows = λ i less. ap (λ (l : List Call). get_or l i no_call) rows;
    }

pub at_first-status-requires : goal.at_first-status-requires
at_first-status-requires c =
    let h = laid-of c.args.parsed.now.laid in
    let a = accepted-moved (sym c.requires.0) (file-of (call-walkable c.args.prepared.now).expanded) in
    let x = rule-here h a c.args.i c.requires.1 in
    (x.0, held_by h (tree_of a) c.args.i c.requires.1 x.0 c.rule-rule.result x.1 (c.rule-rule.ensures (tree_of a)))

pub search-requires : goal.search-requires
search-requires c =
    let h = laid-of c.args.parsed.now.laid in
    let w = call-walkable c.args.prepared.now in
    let a = accepted-moved (sym c.requires.0) (file-of w.expanded) in
    let x = rule-here h a c.args.i c.requires.1 in
    let holds = held_by h (tree_of a) c.args.i c.requires.1 x.0 c.rule-rule.result x.1 (c.rule-rule.ensures (tree_of a)) in (
      planned c.requires.0 w.expanded a w.counts (c.rows-all.ensures (tree_of a)) x.0 holds,
      c.requires.2,
      omega (arith, ap (λ (f : Fields). f.depth) w.counts, (tree-bounds (tree_of a)).fields.small-depth),
    )

pub returns : goal.returns
returns c = λ a x h fresh.
    let w = call-walkable c.args.prepared.now in
    let holds = held_by (laid-of c.args.parsed.now.laid) (tree_of a) c.args.i c.requires.1 x c.rule-rule.result h (c.rule-rule.ensures (tree_of a)) in
    let f = fields-of w (by-file w.expanded (accepted-moved c.requires.0 a)) in
    c.search.ensures (planned c.requires.0 w.expanded a f (c.rows-all.ensures (tree_of a)) x holds)
    ∙ ap judged_of (ruling-by a.tree x c.args.fresh c.at_first-status.result fresh (c.at_first-status.ensures x holds) _ _ _
    (ap (λ (f : Fields). f.bound) f) (ap length (c.rows-all.ensures (tree_of a))) (ap (λ (f : Fields). f.depth) f))

-- A walk through the transitions of an accepted file, whose steps are written one transition after another.
use Prim.Native.Nat.{ℕ, suc, ◌+◌, ◌*◌, ◌^◌, ◌≤◌, ◌<◌}
use mathlib.Core.Path.{◌≡◌, refl, sym, ap, ◌∙◌}
use mathlib.Core.List.{List, [], ◌∷◌, ◌++◌, append_assoc, append-nil}
use native.Mathlib.Omega.{arith}
use native.Mathlib.Numerals.{add-one}
use lib.ListN.{length, take, drop, length-append}
use Rattle.rules.specs.Basics.{number}
use Rattle.rules.specs.Syntax.{Transition, Agreement}
use Rattle.rules.specs.Reading.{size_of, child, transition_body}
use Rattle.rules.specs.Expanding.{Step, made, expand_transitions, expansion, first_new, table}
use Rattle.rules.specs.Accepting.{written}
use Rattle.records.specs.Checking.{from}
use Rattle.records.specs.Counting.{step_count}
use Rattle.grammar.proofs.Bytes.{part-all}
use Rattle.records.proofs.Parts.{from-length}
use Rattle.access.specs.declared.Layout.{Layout}
use Rattle.access.specs.Trees.{TreeRead, AcceptedFile}
use Rattle.access.specs.Places.{past, Laid}
use Rattle.access.proofs.Groups.{stands}
use Rattle.access.proofs.Finding.{here}
use Rattle.access.proofs.Using.{tree-bounds, tree_of, few-steps}
use Rattle.emitter.specs.declared.Next.{Next}
use Rattle.emitter.specs.Writing.{over, Wrote}
use Rattle.emitter.specs.Transitions.{GoodTransition, transition_steps, TransitionExpanded, TransitionFit, TransitionExpandable, TransitionExpands}
use Rattle.emitter.proofs.Words.{over_first, wrote_none, wrote-length, wrote_then}
use Rattle.emitter.proofs.Counts.{made-few}
use Rattle.emitter.proofs.TransitionLaws.{transitions-more, transition-length, as-transition-steps}
use Rattle.expansion.specs.Writing.{Writable, action_steps, action_nodes, ActionsWrote}
use Rattle.expansion.proofs.Files.{has_room}
use Rattle.expansion.proofs.Actions.{actions-length, expansion-parts}

-- ---- the i-th transition, at its offset

pub record Standing (file : List ℕ) (ts : List Transition) (at i : ℕ) : Type 0 where
  pub good : GoodTransition (from at file)
  pub placed : good.at ≡ at
  pub here : drop i ts ≡ good.tree ∷ drop (suc i) ts

pub standing :
    {file : List ℕ} {l : Layout} (h : Laid file l) (i at : ℕ) → i < l.transitions.count → at ≡ past file l.transitions.at i →
    (a : TreeRead file) → Standing file a.tree.transitions at i
standing {file} {l} h i at less e a =
    let f = a.tree.fields in
    let x = here h i at less e a in
    record {
      good = record {
        vars = f.variables;
        states = f.states;
        start = 0;
        at = at;
        tree = x.value;
        to = x.end;
        rest = drop x.end file;
        few = (tree-bounds a).fields.few-variables;
        reads = ap (child (λ _. transition_body f.variables f.states) 0 at) (part-all at file) ∙ x.stored.reads 0;
      };
      placed = refl;
      here = x.here;
    }

-- it stands within the file
pub standing-fits :
    {file : List ℕ} {l : Layout} (h : Laid file l) (i at : ℕ) → i < l.transitions.count → at ≡ past file l.transitions.at i →
    (at + 12 ≤ length file) × (at + number (take 2 (drop at file)) ≤ length file)
unfolding size_of
standing-fits h i at less e = let x = here h i at less e h.read in (x.is.fits, (stands x.stored).high)

-- ---- the walk

-- The steps of the first i transitions have been written: which they are, how many nodes they made, and those that are left.
pub record Reached (ts : List Transition) (i : ℕ) (start : Next) (before after : List ℕ) (next : Next) : Type 0 where
  pub steps : List Step
  pub nodes : ℕ
  pub few : nodes ≤ length steps
  pub left : expand_transitions ts start.node ≡ steps ++ expand_transitions (drop i ts) next.node
  pub wrote : Wrote steps nodes start before after next

pub reached-none : (ts : List Transition) (start : Next) (ws : List ℕ) → Reached ts 0 start ws ws start
reached-none ts start ws = record { steps = []; nodes = 0; few = omega arith; left = refl; wrote = wrote_none start ws }

module _
    {ts : List Transition} {i : ℕ} {start next : Next} {ws vs : List ℕ} (r : Reached ts i start ws vs next)
    {t : Transition} (e : drop i ts ≡ t ∷ drop (suc i) ts)
    (room : 5 * (start.step + length (expand_transitions ts start.node)) ≤ length ws)
  where
    -- those that are left after the next
    rest : List Step
    rest = expand_transitions (drop (suc i) ts) (next.node + 1 + made t.action)

    parts : expand_transitions ts start.node ≡ r.steps ++ transition_steps t next.node ++ rest
    unfolding rest
    parts =
        r.left
        ∙ ap (λ l. r.steps ++ expand_transitions l next.node) e
        ∙ ap (λ l. r.steps ++ l) (transitions-more t (drop (suc i) ts) next.node)
        ∙ sym (append_assoc r.steps (transition_steps t next.node) rest)

    count : length (expand_transitions ts start.node) ≡ length r.steps + (1 + step_count t.action) + length rest
    count =
        let b = transition_steps t next.node in
        ap length parts ∙ omega (arith, length-append (r.steps ++ b) rest, length-append r.steps b, transition-length t next.node)

    pub transition-fit :
        {found at : ℕ} {s : List ℕ} → found ≡ at → at + length s < 2 ^ 32 → start.node + length (expand_transitions ts start.node) < 2 ^ 32 →
        TransitionFit t found at next s vs
    transition-fit h offsets nodes =
        record {
          here = h;
          offsets = offsets;
          nodes = omega (arith, r.wrote.node, r.few, made-few t.action, count);
          room = omega (arith, r.wrote.step, count, wrote-length (omega (arith, count)) r.wrote);
        }

    pub reached-more : {us : List ℕ} {x : Next} → TransitionExpanded t next vs us x → Reached ts (i + 1) start ws us x
    unfolding rest
    reached-more {x = x} w =
        let b = transition_steps t next.node in
        let n : length b ≡ 1 + step_count t.action = transition-length t next.node in
        record {
          steps = r.steps ++ b;
          nodes = r.nodes + (1 + made t.action);
          few = omega (arith, r.few, made-few t.action, length-append r.steps b);
          left = rw add-one (parts ∙ ap (λ k. r.steps ++ b ++ expand_transitions (drop (suc i) ts) k) (sym w.node));
          wrote = wrote_then (omega (arith, count)) r.wrote (as-transition-steps w);
        }

-- the two actions and all of the transitions
pub all-written :
    (a : Agreement) {i : ℕ} {ws vs us : List ℕ} {x y : Next} → 5 * length (expansion a) ≤ length ws →
    ActionsWrote a ws vs x →
    Reached a.transitions i x vs us y → drop i a.transitions ≡ [] → us ≡ written a ws
unfolding written expand_transitions
all-written a {i} {ws} {x = x} {y = y} room w r e =
    let steps : expand_transitions a.transitions x.node ≡ r.steps =
    r.left ∙ ap (λ l. r.steps ++ expand_transitions l y.node) e ∙ append-nil r.steps in
    let whole : action_steps a ++ r.steps ≡ expansion a =
    ap (λ l. action_steps a ++ l) (sym steps ∙ ap (expand_transitions a.transitions) w.node) ∙ sym (expansion-parts a) in
    let fits : 5 * (0 + length (action_steps a) + length r.steps) ≤ length ws = omega (arith, ap length whole, length-append (action_steps a) r.steps) in
    (wrote_then fits w r.wrote).words ∙ ap (λ l. over 0 (table l) ws) whole ∙ over_first (expansion a) ws

-- ---- of a file, after the two actions

module _
    {file : List ℕ} {l : Layout} {ws vs : List ℕ} {x : Next} (h : Laid file l) (p : Writable file ws) (a : AcceptedFile file)
    (w : ActionsWrote a.tree ws vs x) (same : length vs ≡ length ws)
  where
    count-all : length (expansion a.tree) ≡ length (action_steps a.tree) + length (expand_transitions a.tree.transitions x.node)
    count-all =
        let t = a.tree in
        let n = first_new t.fields.states + action_nodes t in
        let z = ap (λ k. length (expand_transitions t.transitions k)) w.node in
        omega (arith, ap length (expansion-parts t), length-append (action_steps t) (expand_transitions t.transitions n))

    transitions-room : 5 * (x.step + length (expand_transitions a.tree.transitions x.node)) ≤ length vs
    transitions-room = omega (arith, w.step, count-all, has_room p a)

    transitions-nodes : x.node + length (expand_transitions a.tree.transitions x.node) < 2 ^ 32
    transitions-nodes =
        let t = a.tree in
        let b = tree-bounds (tree_of a) in
        omega (arith, w.node, count-all, few-steps a, b.fields.few-states, made-few t.initial, made-few t.fallback, actions-length t)

    module _
        {i at : ℕ} {us : List ℕ} {y : Next} (less : i < l.transitions.count) (e : at ≡ past file l.transitions.at i)
        (r : Reached a.tree.transitions i x vs us y)
      where
        next-fit : let s = (standing h i at less e (tree_of a)).good in TransitionFit s.tree s.at at y (from at file) us
        next-fit =
            let s = standing h i at less e (tree_of a) in
            let f = standing-fits h i at less e in
            transition-fit r s.here transitions-room s.placed (omega (arith, (tree-bounds (tree_of a)).size, from-length at file)) transitions-nodes

        pub next-ready : TransitionExpandable at y (from at file) us
        next-ready = ((standing h i at less e (tree_of a)).good, next-fit)

        pub next-reached :
            {ts : List ℕ} {z : Next} → TransitionExpands at y (from at file) us ts z →
            Reached a.tree.transitions (i + 1) x vs ts z
        next-reached g = let s = standing h i at less e (tree_of a) in reached-more r s.here transitions-room (g s.good next-fit)

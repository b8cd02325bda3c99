-- The two actions of an agreement: their records can be expanded, and their steps are what the expansion begins with.
use Prim.Native.Nat.{ℕ, ◌+◌, ◌*◌, ◌^◌, ◌≤◌, ◌<◌}
use mathlib.Core.Path.{◌≡◌, refl, ap, ap₂, subst, ◌∙◌}
use mathlib.Core.List.{List, ◌++◌}
use native.Mathlib.Omega.{arith}
use lib.ListN.{length, length-append}
use Rattle.rules.specs.Syntax.{Stmt, Agreement}
use Rattle.rules.specs.Expanding.{made, expand, expand_transitions, expansion, first_new}
use Rattle.records.specs.Checking.{from}
use Rattle.records.specs.Counting.{step_count}
use Rattle.grammar.proofs.Bytes.{part-all}
use Rattle.records.proofs.Parts.{from-length}
use Rattle.records.proofs.StepCounts.{expand-length}
use Rattle.access.specs.declared.Layout.{Layout}
use Rattle.access.specs.Trees.{AcceptedFile}
use Rattle.access.specs.Places.{Laid}
use Rattle.access.proofs.Using.{ActionAt, tree-bounds, initial-at, fallback-at, tree_of, few-steps}
use Rattle.emitter.specs.declared.Ends.{Ends}
use Rattle.emitter.specs.declared.Next.{Next}
use Rattle.emitter.specs.Writing.{Emitted, Expandable, Expands}
use Rattle.emitter.proofs.Counts.{made-few}
use Rattle.emitter.proofs.Words.{as-steps, then-expanded}
use Rattle.expansion.specs.Writing.{Writable, action_steps, action_nodes, ActionsWrote}
use Rattle.expansion.proofs.Files.{has_room}

-- ---- an action at its offset

module _
    {file : List ℕ} {at : ℕ} {tree : Stmt} (h : ActionAt file at tree) (small : length file ≤ 32768)
    {x : Next} {ws : List ℕ} (nodes : x.node + made tree < 2 ^ 32) (room : 5 * (x.step + step_count tree) ≤ length ws)
  where
    pub action-ready : Expandable at x (from at file) ws
    action-ready =
        let g = h.good (from at file) (part-all at file) in (
          g.0,
          record {
            here = g.1;
            offsets = omega (arith, h.fits, from-length at file);
            nodes = omega (arith, ap made g.2);
            room = omega (arith, ap step_count g.2);
          },
        )

    pub action-expanded : {e : Ends} {vs : List ℕ} {r : Next} → Expands at e x (from at file) ws vs r → Emitted tree e x ws vs r
    unfolding action-ready
    action-expanded {e} {vs} {r} k =
        let g = h.good (from at file) (part-all at file) in
        subst (λ (t : Stmt). Emitted t e x ws vs r) g.2 (k action-ready.0 action-ready.1)

-- ---- the steps of both

pub actions-length : (a : Agreement) → length (action_steps a) ≡ step_count a.initial + step_count a.fallback
unfolding action_steps
actions-length a =
    length-append (expand a.initial _ _ _ _) (expand a.fallback _ _ _ _)
    ∙ ap₂ (λ m k. m + k) (expand-length a.initial _ _ _ _) (expand-length a.fallback _ _ _ _)

pub expansion-parts : (a : Agreement) → expansion a ≡ action_steps a ++ expand_transitions a.transitions (first_new a.fields.states + action_nodes a)
unfolding expansion action_steps
expansion-parts a =
    let f = first_new a.fields.states in
    let z : f + made a.initial + made a.fallback ≡ f + action_nodes a = omega arith in
    ap (λ n. action_steps a ++ expand_transitions a.transitions n) z

pub actions-few : (a : Agreement) → step_count a.initial + step_count a.fallback ≤ length (expansion a)
actions-few a =
    let both = length-append (action_steps a) (expand_transitions a.transitions (first_new a.fields.states + action_nodes a)) in
    omega (arith, ap length (expansion-parts a), both, actions-length a)

-- the first new node and the first step
abbrev pub first_next : (s : ℕ) → Next
first_next s = record { node = s + 3; step = 0 }

pub actions-wrote :
    (a : Agreement) {s d : ℕ} {ws vs us : List ℕ} {x y : Next} → s ≡ a.fields.states → d ≡ a.fields.start →
    5 * length (action_steps a) ≤ length ws →
    Emitted a.initial (record { o = s + 2; d = d; r = d }) (first_next s) ws vs x →
    Emitted a.fallback (record { o = s + 1; d = s; r = s }) x vs us y →
    ActionsWrote a ws us y
unfolding action_steps
actions-wrote a {s} {d} {ws} {us = us} {y = y} hs hd room first second =
    let z = expand-length a.initial (s + 2) d d (s + 3) in
    rw (← hs, ← hd) (then-expanded (s + 3 + made a.initial) refl (omega (arith, room, actions-length a)) (as-steps first) second)

-- ---- of a file; s is the number of states, d the start state

abbrev initial_ends : (s d : ℕ) → Ends
initial_ends s d = record { o = s + 2; d = d; r = d }

abbrev fallback_ends : (s : ℕ) → Ends
fallback_ends s = record { o = s + 1; d = s; r = s }

module _
    {file : List ℕ} {l : Layout} {ws : List ℕ} (h : Laid file l) (p : Writable file ws) (a : AcceptedFile file)
    {s d : ℕ} (hs : s ≡ a.tree.fields.states) (hd : d ≡ a.tree.fields.start)
  where
    -- the numbers that are made fit 32 bits, and the words have room
    record Fits : Type 0 where
      small : length file ≤ 32768
      nodes : s + 3 + action_nodes a.tree < 2 ^ 32
      room : 5 * (step_count a.tree.initial + step_count a.tree.fallback) ≤ length ws

    fits : Fits
    fits =
        let t = a.tree in
        let b = tree-bounds (tree_of a) in
        let k = actions-few t in
        record {
          small = b.size;
          nodes = omega (arith, b.fields.few-states, few-steps a, made-few t.initial, made-few t.fallback);
          room = omega (arith, has_room p a);
        }

    pub initial-ready : Expandable l.initial (first_next s) (from l.initial file) ws
    initial-ready = action-ready (initial-at h (tree_of a)) fits.small (omega (arith, fits.nodes)) (omega (arith, fits.room))

    module _
        {vs : List ℕ} {x : Next} (first : Expands l.initial (initial_ends s d) (first_next s) (from l.initial file) ws vs x)
        (same : length vs ≡ length ws)
      where
        initial-expanded : Emitted a.tree.initial (initial_ends s d) (first_next s) ws vs x
        initial-expanded = action-expanded (initial-at h (tree_of a)) fits.small (omega (arith, fits.nodes)) (omega (arith, fits.room)) first

        fallback-nodes : x.node + made a.tree.fallback < 2 ^ 32
        fallback-nodes = omega (arith, fits.nodes, initial-expanded.node)

        fallback-room : 5 * (x.step + step_count a.tree.fallback) ≤ length vs
        fallback-room = omega (arith, fits.room, initial-expanded.step)

        pub fallback-ready : Expandable l.fallback x (from l.fallback file) vs
        fallback-ready = action-ready (fallback-at h (tree_of a)) fits.small fallback-nodes fallback-room

        pub both-wrote :
            {us : List ℕ} {y : Next} → Expands l.fallback (fallback_ends s) x (from l.fallback file) vs us y →
            ActionsWrote a.tree ws us y
        both-wrote second =
            actions-wrote a.tree hs hd (omega (arith, fits.room, actions-length a.tree)) initial-expanded
            (action-expanded (fallback-at h (tree_of a)) fits.small fallback-nodes fallback-room second)

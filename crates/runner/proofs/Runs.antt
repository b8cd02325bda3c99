-- An accepted file as the functions that go by its tree have it, and what starting and calling are once their parts are known.
use Prim.Native.Nat.{ℕ, ◌+◌, ◌≤◌, ◌<◌}
use mathlib.Core.Path.{◌≡◌, refl, sym, ap, subst, ◌∙◌}
use mathlib.Core.Bool.{Bool, true, false, ◌&&◌}
use mathlib.Core.List.{List, []}
use mathlib.Core.Option.{Option, none, some}
use native.Mathlib.Omega.{arith}
use lib.ListN.{length, get_or}
use Rattle.rules.specs.declared.Call.{Call}
use Rattle.rules.specs.declared.Fields.{Fields}
use Rattle.rules.specs.declared.Machine.{Machine}
use Rattle.rules.specs.declared.State.{State}
use Rattle.rules.specs.Basics.{is_none, sum, most32}
use Rattle.rules.specs.Syntax.{Stmt, Transition, Agreement}
use Rattle.rules.specs.Accepting.{refusal}
use Rattle.rules.specs.declared.Setting.{Setting}
use Rattle.rules.specs.Running.{after, guarded, statement}
use Rattle.rules.specs.Calling.{ends_in, call_tests, opening_state, no_call, total, entered, started, called, refused_call, start_setting, call_setting, start_by, call_by}
use Rattle.rules.specs.Calling.{run_initial, run_by, known, transition_of, start_tree, call_tree}
use Rattle.totals.proofs.Trees.{tree-good}
use Rattle.records.specs.Acceptance.{Good}
use Rattle.records.specs.Checking.{from}
use Rattle.grammar.proofs.Bytes.{part-all}
use Rattle.machine.specs.Runs.{Funded}
use Rattle.machine.specs.Calls.{Passed}
use Rattle.machine.proofs.States.{opening-total}
use Rattle.machine.proofs.Calls.{elsewhere-refused, call-runs, Enters, enters, passed-enters, enters-funded}
use Rattle.access.specs.declared.parsed.Parsed.{Parsed}
use Rattle.access.specs.Trees.{AcceptedFile}
use Rattle.access.proofs.Kept.{accepted-of, accepted-moved, laid-of}
use Rattle.access.proofs.Using.{ActionAt, FoundAt, initial-at, fallback-at, tree_of}
use Rattle.reader.specs.declared.accepted.Accepted.{Accepted}
use Rattle.runner.specs.Transitions.{Moves}

-- ---- an accepted file

-- its number of accounts
pub accounts-few : {file : List ℕ} (a : AcceptedFile file) {f : Fields} → f ≡ a.tree.fields → f.accounts ≤ 8
accounts-few {file} a e = omega (arith, ap (λ (f : Fields). f.accounts) e, (tree-good file a.tree a.is).tree.fields.few-accounts)

-- what reading has accepted
abbrev pub file_is : (x : Accepted) → AcceptedFile x.parsed.file.now
file_is x = (accepted-of x.accepted).0

abbrev pub file_moved : (x : Accepted) {file : List ℕ} → x.parsed.file.now ≡ file → AcceptedFile file
file_moved x e = accepted-moved (sym e) (file_is x)

-- its initial action and its fallback action, by every tree of the file
pub initial_of : (x : Parsed) (a : AcceptedFile x.file.now) → ActionAt x.file.now x.layout.initial a.tree.initial
initial_of x a = initial-at (laid-of x.laid) (tree_of a)

pub fallback_of : (x : Parsed) (a : AcceptedFile x.file.now) → ActionAt x.file.now x.layout.fallback a.tree.fallback
fallback_of x a = fallback-at (laid-of x.laid) (tree_of a)

-- an action at its offset, in the bytes that the code passes on
pub standing : {file : List ℕ} {at : ℕ} {tree : Stmt} → ActionAt file at tree → (g : Good (from at file)) × (g.tree ≡ tree)
standing {file} {at} x = let w = x.good (from at file) (part-all at file) in (w.0, w.2)

-- what entering asks for
pub asked : {s : State} {k : Call} → Enters s k → (k.sender < 8) × (k.coins ≤ get_or s.balances k.sender 0) × (sum s.balances + s.own ≤ most32)
unfolding total
asked e = (e.sender, e.coins, e.small)

-- ---- starting

pub start-full : {file : List ℕ} (a : AcceptedFile file) {f : Fields} → f ≡ a.tree.fields → length (opening_state f).balances ≡ 8
unfolding opening_state
start-full {file} a e = rw e (tree-good file a.tree a.is).tree.fields.opening-eight

pub start-enters : {file : List ℕ} (a : AcceptedFile file) {f : Fields} → f ≡ a.tree.fields → Enters (opening_state f) no_call
unfolding no_call
start-enters {file} a {f} e =
    enters (opening_state f) no_call (start-full a e) (omega arith) (omega arith) (rw (opening-total f, e) (tree-good file a.tree a.is).opening-fits)

start-accounts : {file : List ℕ} (a : AcceptedFile file) {f : Fields} → f ≡ a.tree.fields → (start_setting f).accounts ≤ 8
unfolding start_setting
start-accounts a e = accounts-few a e

-- what starting asks for
pub opening-small : {file : List ℕ} (a : AcceptedFile file) {f : Fields} → f ≡ a.tree.fields → sum f.opening ≤ most32
opening-small {file} a e = rw e (tree-good file a.tree a.is).opening-fits

pub started-funded :
    {file : List ℕ} (a : AcceptedFile file) {f : Fields} {m : Machine} {c : Setting} → f ≡ a.tree.fields →
    m ≡ entered no_call (opening_state f) → c ≡ start_setting f → Funded c.accounts m
started-funded a {m = m} e h i =
    subst (λ (c : Setting). Funded c.accounts m) (sym i)
    (subst (Funded _) (sym h) (enters-funded (start-enters a e) (start-accounts a e) (start-full a e)))

pub start_is :
    (a : Agreement) {f : Fields} {m : Machine} {c : Setting} → f ≡ a.fields → m ≡ entered no_call (opening_state f) → c ≡ start_setting f →
    started (ends_in c.before (statement c a.initial m)) ≡ start_tree a
unfolding start_tree start_by run_initial start_setting
start_is a e h i = rw (h, i, e)

-- ---- entering

pub call_enters :
    {file : List ℕ} (a : AcceptedFile file) {f : Fields} {s : State} {k : Call} → f ≡ a.tree.fields →
    Passed f s k → length s.balances ≡ 8 → Enters s k
call_enters {file} a e p full =
    let g = tree-good file a.tree a.is in
    passed-enters p full (rw e g.tree.fields.few-accounts) (rw e g.opening-fits)

pub entered-funded :
    {file : List ℕ} (a : AcceptedFile file) {f : Fields} {s : State} {k : Call} {m : Machine} {c : Setting} → f ≡ a.tree.fields →
    Passed f s k → length s.balances ≡ 8 → m ≡ entered k s → c ≡ call_setting f s k → Funded c.accounts m
unfolding call_setting
entered-funded a {f} {s} {k} {m} e p full h i =
    subst (λ (c : Setting). Funded c.accounts m) (sym i)
    (subst (Funded _) (sym h) (enters-funded (call_enters a e p full) (accounts-few a e) full))

pub no-and : (b : Bool) → (b && false) ≡ false
no-and true = refl
no-and false = refl

-- ---- calling on the unexpanded form

module _ (a : Agreement) {f : Fields} (is : f ≡ a.fields) (s : State) (k : Call) where
  abbrev transition : Option Transition
  transition = transition_of a k.name s.state

  pub tree-call : call_by f (call_tests f s k [] (known a k.name && is_none transition)) (run_by a transition) s k ≡ call_tree a s k
  unfolding call_tree
  tree-call = rw is refl

  module _ (p : Passed f s k) where
    pub tree-elsewhere : known a k.name ≡ true → transition ≡ none → refused_call (refusal 22) 0 s ≡ call_tree a s k
    unfolding is_none
    tree-elsewhere u v = elsewhere-refused f s k _ _ p (rw (u, v)) ∙ tree-call

    module _ {m : Machine} {c : Setting} (h : m ≡ entered k s) (i : c ≡ call_setting f s k) where
      pub tree-unknown : known a k.name ≡ false → transition ≡ none → called s (ends_in c.before (statement c a.fallback m)) ≡ call_tree a s k
      unfolding run_by
      tree-unknown u v = ap (λ (t : Option Transition). called s (run_by a t c m)) (sym v) ∙ call-runs f s k _ _ p (rw u) h i ∙ tree-call

      pub tree-found :
          (t : Transition) → transition ≡ some t → {to : ℕ} → t.to ≡ to →
          called s (ends_in to (after (guarded c t.guard m) (λ _. statement c t.action))) ≡ call_tree a s k
      unfolding is_none run_by
      tree-found t v j =
          rw (← j) (ap (λ (t : Option Transition). called s (run_by a t c m)) (sym v))
          ∙ call-runs f s k _ _ p (rw v (no-and (known a k.name))) h i ∙ tree-call

-- the guard and the action of the transition that was found
pub moves :
    {file : List ℕ} {a : Agreement} {name state at : ℕ} (x : FoundAt file a name state at) →
    (v : Moves file at) × (v.guard.tree ≡ x.transition.guard) × (v.action.tree ≡ x.transition.action)
moves {file} {at = at} x =
    let g = x.guard.accepted (from (at + 8) file) (part-all (at + 8) file) in
    let w = standing x.action in
    (record { fits = x.record-at.fits; guard = g.0; within = omega (arith, x.action.fits); action = w.0 }, g.1, w.1)

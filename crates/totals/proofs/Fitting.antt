-- Starts and calls keep what no action changes (start-kept, call_kept). So an accepted file's completed start never yields an
-- unfit record, and neither does any list of calls from it (never-unfit).
use mathlib.Core.Path.{◌≡◌, refl, sym, ◌∙◌, ap}
use Prim.Native.Nat.{ℕ, zero, suc, ◌≤◌, ◌<◌}
use native.Mathlib.Omega.{arith}
use mathlib.Core.Bool.{true, false}
use mathlib.Core.Option.{Option, none, some}
use mathlib.Core.List.{List, [], ◌∷◌}
use lib.ListN.{length, get_or, drop, replicate}
use borrow.Author.Tests.{ltb-false, leb-false, eqb-true, not-false, lt-leb, eq-eqb}
use Rattle.rules.specs.declared.Call.{Call}
use Rattle.rules.specs.declared.Fields.{Fields}
use Rattle.rules.specs.declared.Machine.{Machine}
use Rattle.rules.specs.declared.Outcome.{Outcome}
use Rattle.rules.specs.declared.State.{State}
use Rattle.rules.specs.Basics.{any, sum}
use Rattle.rules.specs.Syntax.{Transition, Agreement}
use Rattle.rules.specs.Accepting.{good, file_of, on_file}
use Rattle.rules.specs.Values.{is_true}
use Rattle.rules.specs.declared.Setting.{Setting}
use Rattle.rules.specs.Running.{Run, going, returned, stopped}
use Rattle.rules.specs.Calling.{refused_start, refused_call, total, opening_state, no_call, entered, End, ended, halted, leads, ends_in, state_after}
use Rattle.rules.specs.Calling.{started, called, unfit, call_tests, setting, start_setting, call_setting, start_by, call_by, run_initial}
use Rattle.rules.specs.Calling.{transition_of, run_by, start_tree, call_tree, start, call, calls_from, follow, run_list}
use Rattle.rules.specs.Judging.{is_completed}
use Rattle.rules.specs.Demands.{All, none, more, NeverUnfit}
use Rattle.laws.proofs.Basics.{clash, both-false}
use Rattle.laws.proofs.Each.{all-find}
use Rattle.laws.proofs.Tests.{none-passed}
use Rattle.runs.proofs.Closure.{either}
use Rattle.runs.proofs.Ends.{Stepwise, Ends, statement-ending, transition-ending}
use Rattle.grammar.proofs.Statements.{Target}
use Rattle.grammar.proofs.Agreements.{Bounded, zeros-false}
use Rattle.totals.proofs.Trees.{GoodTransition, GoodTree, tree-good}
use Rattle.totals.proofs.Actions.{in_state, in_machine, Same, same, move_same, Like, like}
use Rattle.totals.proofs.Refusing.{given-case}

-- ---- what a run leads to

-- t has what s had, and a state below S where s had one
pub record Kept (f : Fields) (s t : State) : Type 0 where
  pub holdings : Same f.variables f.accounts (in_state s) (in_state t)
  pub below : s.state < f.states → t.state < f.states

kept : (f : Fields) (s : State) → Kept f s s
kept f s = record { holdings = same f.variables f.accounts (in_state s); below = λ h. h }

-- where a run ends, the record has P
data Leads (P : State → Type 0) : End → Type 0 where
  ends : {n : ℕ} {m : Machine} → P (state_after n m) → Leads P (ended n m)
  stops : {k : ℕ} {m : Machine} → Leads P (halted k m)

-- coins that the sender has move to the own balance
entered-same : (f : Fields) (s : State) (k : Call)
    → f.accounts ≤ length s.balances → k.sender < f.accounts → k.coins ≤ get_or s.balances k.sender 0
    → Same f.variables f.accounts (in_state s) (in_machine (entered k s))
unfolding entered
entered-same f s k room q enough =
    move_same f.variables f.accounts (in_state s) s.variables s.balances s.own (same f.variables f.accounts (in_state s)) k.sender _ _ q room (omega arith)

-- a run of an accepted agreement from s by k, whose sender has the coins
module _ (a : Agreement) (g : GoodTree a) (s : State) (k : Call) (room : a.fields.accounts ≤ length s.balances) where
  abbrev f : Fields
  f = a.fields

  abbrev c : Setting
  c = setting f s.state k

  abbrev Alike : (k : ℕ) (m w : Machine) → Type 0
  Alike = Like c f.variables (in_state s)

  alike : Stepwise c (Target f.variables) Alike
  alike = like c f.variables (in_state s) room

  module _ (q : k.sender < f.accounts) (enough : k.coins ≤ get_or s.balances k.sender 0) where
    ends-leads : (n : ℕ) → (s.state < f.states → n < f.states) → (r : Run (Unit {0}))
        → Ends Alike 0 either (entered k s) r → Leads (Kept f s) (ends_in n r)
    unfolding ends_in leads state_after
    ends-leads n b (going u m) h = ends (record { holdings = h.1 (entered-same f s k room q enough); below = b })
    ends-leads n b (returned m) h = ends (record { holdings = h.1 (entered-same f s k room q enough); below = b })
    ends-leads n b (stopped i m) h = stops

    initial-leads : Leads (Kept f s) (run_initial a c (entered k s))
    unfolding run_initial
    initial-leads = ends-leads f.start (λ _. g.fields.start-state) _ (statement-ending alike a.initial g.initial (entered k s))

    run-leads : (o : Option Transition) → ((t : Transition) → o ≡ some t → GoodTransition f t) → Leads (Kept f s) (run_by a o c (entered k s))
    unfolding run_by
    run-leads none h = ends-leads s.state (λ b. b) _ (statement-ending alike a.fallback g.fallback (entered k s))
    run-leads (some t) h = let g = h t refl in ends-leads t.to (λ _. g.to-state) _ (transition-ending alike t.guard t.action g.sound (entered k s))

-- ---- starts and calls

called-kept : (f : Fields) (s : State) {e : End} → Leads (Kept f s) e → Kept f s (called s e).state
unfolding called refused_call
called-kept f s (ends h) = h
called-kept f s stops = kept f s

pub call-tree-kept : (a : Agreement) → GoodTree a → (s : State) (k : Call) → a.fields.accounts ≤ length s.balances
    → Kept a.fields s (call_tree a s k).state
unfolding call_tree call_tests call_by call_setting refused_call transition_of
call-tree-kept a g s k room =
    given-case (λ (o : Outcome). Kept a.fields s o.state) _ (λ n. kept a.fields s) λ _ e.
    let p = none-passed _ e in
    called-kept a.fields s (run-leads a g s k room (leb-false _ _ p.0) (ltb-false _ _ p.1.1.0) _ (λ t. all-find _ g.transitions))

started-kept : (f : Fields) (s : State) {e : End} → Leads (Kept f s) e → is_completed (started e).answer ≡ true
    → Kept f s (started e).state
unfolding started refused_start is_completed
started-kept f s (ends h) c = h
started-kept f s stops c = clash (sym c)

start-tree-kept : (a : Agreement) → GoodTree a → is_completed (start_tree a).answer ≡ true
    → Kept a.fields (opening_state a.fields) (start_tree a).state
unfolding start_tree start_by start_setting opening_state no_call
start-tree-kept a g =
    let q = g.fields.some-account in
    let r = g.fields.opening-eight in
    let t = g.fields.few-accounts in
    started-kept a.fields (opening_state a.fields) (initial-leads a g (opening_state a.fields) no_call (omega arith) (omega arith) (omega arith))

-- ---- fit records

-- the parts of a record that is not unfit, and its numbers of entries
pub record Fit (f : Fields) (s : State) : Type 0 where
  pub sixteen : length s.variables ≡ 16
  pub eight : length s.balances ≡ 8
  pub below : s.state < f.states
  pub unused-variables : any is_true (drop f.variables s.variables) ≡ false
  pub unused-balances : any is_true (drop f.accounts s.balances) ≡ false
  pub total-same : total s ≡ sum f.opening

pub fit-not-unfit : (f : Fields) (s : State) → Fit f s → unfit f s ≡ false
unfolding unfit
fit-not-unfit f s h =
    rw (lt-leb f.states s.state h.below, h.unused-variables, h.unused-balances, eq-eqb (total s) (sum f.opening) h.total-same)

pub not-unfit-fit : (f : Fields) (s : State) → length s.variables ≡ 16 → length s.balances ≡ 8 → unfit f s ≡ false → Fit f s
unfolding unfit
not-unfit-fit f s v b e =
    let p = both-false _ _ e in
    let q = both-false _ _ p.0 in
    let r = both-false _ _ q.0 in
    record {
      sixteen = v;
      eight = b;
      below = leb-false f.states s.state r.0;
      unused-variables = r.1;
      unused-balances = q.1;
      total-same = eqb-true (total s) (sum f.opening) (not-false _ p.1);
    }

pub fit-kept : (f : Fields) (s t : State) → Kept f s t → Fit f s → Fit f t
unfolding total
fit-kept f s t k h =
    record {
      sixteen = k.holdings.variables ∙ h.sixteen;
      eight = k.holdings.balances ∙ h.eight;
      below = k.below h.below;
      unused-variables = ap (any is_true) k.holdings.unused-variables ∙ h.unused-variables;
      unused-balances = ap (any is_true) k.holdings.unused-balances ∙ h.unused-balances;
      total-same = k.holdings.total ∙ h.total-same;
    }

drop-zeros : (n m : ℕ) → any is_true (drop n (replicate m 0)) ≡ false
unfolding any
drop-zeros zero m = zeros-false m
drop-zeros (suc n) zero = refl
drop-zeros (suc n) (suc m) = drop-zeros n m

opening-fit : (f : Fields) → Bounded f → Fit f (opening_state f)
unfolding opening_state total
opening-fit f g =
    record {
      sixteen = refl;
      eight = g.opening-eight;
      below = g.start-state;
      unused-variables = drop-zeros f.variables 16;
      unused-balances = g.opening-unused;
      total-same = omega arith;
    }

-- so a completed start leads to a fit record
pub start-fit : (a : Agreement) → GoodTree a → is_completed (start_tree a).answer ≡ true → Fit a.fields (start_tree a).state
start-fit a g c = fit-kept a.fields _ _ (start-tree-kept a g c) (opening-fit a.fields g.fields)

-- ---- an accepted file

module _ (file : List ℕ) (a : Agreement) (e : file_of file ≡ good a) where
  pub start-kept : is_completed (start file).answer ≡ true → Kept a.fields (opening_state a.fields) (start file).state
  unfolding start on_file
  start-kept = rw e (start-tree-kept a (tree-good file a e).tree)

  pub call_kept : (s : State) (k : Call) → 8 ≤ length s.balances → Kept a.fields s (call file s k).state
  unfolding call on_file
  call_kept s k room =
      let g = (tree-good file a e).tree in
      let q = g.fields.few-accounts in
      rw e (call-tree-kept a g s k (omega arith))

  -- what all fit records have, the records of a list of calls have
  module _ {P : State → Type 0} (of-fit : (s : State) → Fit a.fields s → P s) where
    calls-all : (s : State) (calls : List Call) → Fit a.fields s → All (λ (o : Outcome). P o.state) (calls_from (call file) s calls)
    unfolding calls_from
    calls-all s [] h = none
    calls-all s (k ∷ ks) h =
        let b = h.eight in
        let f = fit-kept a.fields s _ (call_kept s k (omega arith)) h in
        more (of-fit _ f) (calls-all (call file s k).state ks f)

    pub run-all : (calls : List Call) → is_completed (start file).answer ≡ true → All (λ (o : Outcome). P o.state) (run_list file calls)
    unfolding run_list follow
    run-all calls c =
        let f = fit-kept a.fields _ _ (start-kept c) (opening-fit a.fields (tree-good file a e).tree.fields) in
        more (of-fit _ f) (calls-all _ calls f)

pub never-unfit : NeverUnfit
never-unfit file a calls e c = run-all file a e (fit-not-unfit a.fields) calls c

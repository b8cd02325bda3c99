-- The expanded form and the unexpanded one agree: on a start, on every call, and so on every list of calls (`FormsAgree`).
use mathlib.Core.Path.{◌≡◌, refl, ◌∙◌, ap, ap₂, fun_ext}
use Prim.Native.Nat.{ℕ, ◌+◌, ◌≤◌, ◌<◌}
use native.Mathlib.Omega.{arith}
use mathlib.Core.Bool.{Bool, true, ◌&&◌}
use mathlib.Core.Option.{Option}
use mathlib.Core.List.{List, []}
use lib.Dec.{eqb}
use borrow.Author.Tests.{le-leb, eq-eqb, ne_eqb}
use Rattle.std.specs.Prelude.{if◌then◌else◌}
use Rattle.rules.specs.declared.Call.{Call}
use Rattle.rules.specs.declared.Fields.{Fields}
use Rattle.rules.specs.declared.Machine.{Machine}
use Rattle.rules.specs.declared.Outcome.{Outcome}
use Rattle.rules.specs.declared.State.{State}
use Rattle.rules.specs.Basics.{first_of, given, is_none}
use Rattle.rules.specs.Syntax.{Transition, Agreement}
use Rattle.rules.specs.Expanding.{Step, expansion, table}
use Rattle.rules.specs.Accepting.{refusal, good, file_of, on_file}
use Rattle.rules.specs.declared.Setting.{Setting}
use Rattle.rules.specs.Running.{Run, going, returned, stopped, after, statement, guarded}
use Rattle.rules.specs.Calling.{End, ended, leads, ends_in, started, called, refused_call, opening_state, entered, no_call, call_tests, setting, start_setting, call_setting, start_by, call_by}
use Rattle.rules.specs.Calling.{run_initial, run_by, start_tree, call_tree, start, call, follow, run_list}
use Rattle.rules.specs.Stepping.{records_in, with, onward, admitted, walk, walk_from, walk_by, settled, start_steps, call_steps}
use Rattle.rules.specs.Stepping.{begins_with, lent_tests, start_expanded, call_expanded, run_list_expanded}
use Rattle.rules.specs.Demands.{FormsAgree}
use Rattle.forms.proofs.Accepted.{Sound, Good, file-good}
use Rattle.forms.proofs.Units.{goes, Costs, guarded-costs}
use Rattle.forms.proofs.Lookups.{Wired}
use Rattle.forms.proofs.Simulation.{W, on_from, follows}
use Rattle.forms.proofs.Table.{Entry, neither, both, initial-wired, fallback-wired, entry-is, known_is}
use Rattle.forms.proofs.Decoding.{lent-steps, lent-pass, lent-call-pass}

module _ (file : List ℕ) (a : Agreement) (ok : Good file a) where
  abbrev f : Fields
  f = a.fields

  abbrev S : ℕ
  S = f.states

  abbrev T : List Step
  T = expansion a

  -- ---- runs

  module _ (before : ℕ) (k : Call) where
    abbrev c : Setting
    c = setting f before k

    abbrev settle : End → End
    settle = settled c

    -- a walk that is at the node n ends in the state t
    end : (n t : ℕ) → n ≤ S → (if eqb n S then before else n) ≡ t → (v : Machine) → settle (W c f.variables file T n v) ≡ ended t v
    unfolding settled walk_from walk
    end n t h e v = rw (le-leb n S h, e)

    -- and so does an action that leads to n
    ends : (n t : ℕ) → n ≤ S → (if eqb n S then before else n) ≡ t → (r : Run (Unit {0})) → settle (on_from c f.variables file T n n r) ≡ ends_in t r
    unfolding settled ends_in leads
    ends n t h e (going u v) = end n t h e v
    ends n t h e (returned v) = end n t h e v
    ends n t h e (stopped i v) = refl

    -- an action that leads to a state ends in it
    in-state : (n : ℕ) → n < S → (r : Run (Unit {0})) → settle (on_from c f.variables file T n n r) ≡ ends_in n r
    in-state n h = ends n n (omega arith) (rw (ne_eqb n S (omega arith)))

    -- the initial action
    start-run : (m : Machine) → settle (walk_from (records_in file f.variables) T c (S + 2) m) ≡ run_initial a c m
    unfolding run_initial
    start-run m =
        ap settle (follows c f.variables file T a.initial (S + 2) f.start f.start (S + 3) (initial-wired file a ok) ok.initial-reads m)
        ∙ in-state f.start ok.start-state (statement c a.initial m)

    -- a guard, and then the action
    guard-run : (t : Transition) (g : ℕ) → Sound file f.variables S t → Wired T S t.action g t.to t.to (g + 1) → (m : Machine) (r : Run (Unit {0}))
        → Costs c 1 goes m r → settle (onward (walk_from (records_in file f.variables) T c) (leads (λ _. g) g r)) ≡ ends_in t.to (after r (λ _. statement c t.action))
    unfolding onward leads ends_in settled
    guard-run t g s w m (going u v) h =
        ap settle (follows c f.variables file T t.action g t.to t.to (g + 1) w s.action-reads v) ∙ in-state t.to s.to-state (statement c t.action v)
    guard-run t g s w m (returned v) h = absurd h.0
    guard-run t g s w m (stopped i v) h = refl

    -- a call, by its entry and by its transition
    call-run : (e : Option Step) (t : Option Transition) → Entry file f.variables S T e t → (m : Machine)
        → settle (walk_by (records_in file f.variables) T c e m) ≡ run_by a t c m
    unfolding walk_by run_by admitted with
    call-run e t neither m =
        ap settle (follows c f.variables file T a.fallback (S + 1) S S _ (fallback-wired file a ok) ok.fallback-reads m)
        ∙ ends S before (omega arith) (rw (eq-eqb S S refl)) (statement c a.fallback m)
    call-run e t (both u g s w) m = rw s.guard-reads (guard-run u g s w m (guarded c u.guard m) (guarded-costs c u.guard m))

  -- ---- a start and a call on the steps of the expansion

  start-same : start_steps (records_in file f.variables) f T ≡ start_tree a
  unfolding start_steps start_tree start_by start_setting
  start-same = ap started (start-run f.start no_call (entered no_call (opening_state f)))

  none-same : (e : Option Step) (t : Option Transition) → Entry file f.variables S T e t → is_none e ≡ is_none t
  unfolding is_none
  none-same e t neither = refl
  none-same e t (both u g s w) = refl

  call_same : (s : State) (k : Call) → call_steps (records_in file f.variables) f T [] s k ≡ call_tree a s k
  unfolding call_steps call_tree call_by call_setting
  call_same s k =
      let h = entry-is file a ok k.name s.state in
      ap₂ (λ (b : Bool) (x : End). given (λ n. refused_call (refusal n) 0 s) (λ _. called s x) (first_of (call_tests f s k [] b)))
      (ap₂ ◌&&◌ (known_is file a ok k.name) (none-same _ _ h)) (call-run s.state k _ _ h (entered k s))

-- ---- on an accepted file

module _ (file : List ℕ) (a : Agreement) (e : file_of file ≡ good a) where
  abbrev on_steps : (lent : List (Bool × ℕ)) → State → Call → Outcome
  on_steps = call_steps (records_in file a.fields.variables) a.fields (expansion a)

  -- on the steps of the expansion a start and a call do what they do unexpanded
  pub start-steps : start_steps (records_in file a.fields.variables) a.fields (expansion a) ≡ start_tree a
  start-steps = start-same file a (file-good file a e)

  pub call-steps : (s : State) (k : Call) → call_steps (records_in file a.fields.variables) a.fields (expansion a) [] s k ≡ call_tree a s k
  call-steps = call_same file a (file-good file a e)

  -- with lent words that begin with the expansion
  module _ (words : List ℕ) (h : begins_with words (table (expansion a)) ≡ true) where
    pub start-lent : start_expanded file words ≡ start file
    unfolding start_expanded start on_file given
    start-lent = rw (e, lent-pass words a h, lent-steps words a h) start-steps

    -- the tests of the lent words refuse nothing
    call-tests : (s : State) (k : Call) → on_steps (lent_tests a words) s k ≡ on_steps [] s k
    unfolding call_steps call_by
    call-tests s k = ap (given _ _) (lent-call-pass words a h s k _)

    pub call-lent : (s : State) (k : Call) → call_expanded file words s k ≡ call file s k
    unfolding call_expanded call on_file
    call-lent s k = rw (e, lent-steps words a h) (call-tests s k ∙ call-steps s k)

-- ---- lists of calls

pub forms-agree : FormsAgree
unfolding run_list run_list_expanded
forms-agree file words a ks e h =
    ap₂ (λ (g : State → Call → Outcome) (o : Outcome). follow g o ks) (fun_ext λ s. fun_ext λ k. call-lent file a e words h s k) (start-lent file a e words h)

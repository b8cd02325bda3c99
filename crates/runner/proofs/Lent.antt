-- Starting and calling on steps once their parts are known, and what lent words that pass their tests give.
use Rattle.std.specs.Prelude.{if◌then◌else◌, Some, None, Result, Ok, Err}
use Rattle.std.specs.Prelude
use Prim.Native.Nat.{ℕ, ◌+◌}
use mathlib.Core.Path.{◌≡◌, refl, sym, ap, subst, ◌∙◌}
use mathlib.Core.Bool.{Bool, true, false, ◌&&◌}
use mathlib.Core.List.{List, [], ◌∷◌}
use mathlib.Core.Option.{Option, none}
use lib.Dec.{eqb, leb}
use lib.ListN.{length}
use borrow.Author.Tests.{not-false}
use Rattle.rules.specs.declared.Call.{Call}
use Rattle.rules.specs.declared.Fields.{Fields}
use Rattle.rules.specs.declared.Machine.{Machine}
use Rattle.rules.specs.declared.State.{State}
use Rattle.rules.specs.Basics.{first_of, given, is_none}
use Rattle.rules.specs.Syntax.{Agreement}
use Rattle.rules.specs.Expanding.{Step, expansion, table}
use Rattle.rules.specs.declared.Refusal.{Refusal}
use Rattle.rules.specs.Accepting.{bad, file_of, on_file, refusal, refused_by}
use Rattle.rules.specs.declared.Setting.{Setting}
use Rattle.rules.specs.Running.{Run, going}
use Rattle.rules.specs.Calling.{End, ended, halted, leads, ends_in, opening_state, no_call, entered, started, called, call_tests, start_setting, call_setting, start_by, call_by}
use Rattle.rules.specs.Calling.{refused_start, refused_call}
use Rattle.rules.specs.Stepping.{begins_with, settled, walk_by, entry_of, entry_known, start_steps, call_steps, lent_tests, start_expanded, call_expanded}
use Rattle.forms.proofs.Decoding.{lent-steps, lent-pass, lent-call-pass}
use Rattle.machine.specs.declared.Stop.{Stop}
use Rattle.machine.specs.declared.Stop.TheVariants.{Returned, GuardFalse, GuardFailed, ActionFailed, UnitsUsedUp}
use Rattle.machine.specs.Runs.{stopped_by}
use Rattle.machine.specs.Calls.{Passed}
use Rattle.machine.proofs.Calls.{given-refused, tests-passed, sender-refused, lent-refused, elsewhere-refused, call-runs}
use Rattle.access.specs.Trees.{AcceptedFile}
use Rattle.access.proofs.Using.{same-accepted}
use Rattle.access.specs.FoundAnswers.{Found}
use Rattle.walker.specs.declared.steps.Steps.{Steps}
use Rattle.walker.specs.Tables.{Expanded, Tabled, EntryFound}
use Rattle.walker.specs.Walkable.{Walkable}
use Rattle.walker.specs.Runs.{run_of, walk_in, walk_by_in}
use Rattle.walker.proofs.Ends.{not_going}
use Rattle.walker.proofs.Walks.{traversable, with-fields}
use Rattle.runner.specs.declared.Prepared.{Prepared}
use Rattle.runner.specs.Tables.{FieldsIn, start_in, call_in}
use Rattle.runner.proofs.Runs.{no-and}

-- ---- the file of lent words

abbrev pub file-of : {file words : List ℕ} → Expanded file words → AcceptedFile file
file-of a = record { tree = a.tree; is = a.is }

-- the steps that were looked through, by any way in which the file is accepted
abbrev pub by-file : {file words : List ℕ} → Expanded file words → (a : AcceptedFile file) → Expanded file words
by-file {words = words} e a =
    record {
      tree = a.tree;
      is = a.is;
      begins = subst (λ (t : Agreement). begins_with words (table (expansion t)) ≡ true) (same-accepted (file-of e) a) e.begins;
    }

pub tabled : {file words : List ℕ} {n : ℕ} (a : Expanded file words) → n ≡ length (expansion a.tree) → Tabled words n
tabled {file} a h = record { file = file; expanded = a; counts = h }

-- the steps that a start goes by, with the file's fields, and those that a call goes by
pub start-walkable : (s : Steps) {f : Fields} → FieldsIn s.file.now s.words.now f → Walkable s.file.now s.words.now s.nodes.now f
start-walkable s = with-fields (traversable s.walkable)

pub call-walkable : (p : Prepared) → Walkable p.steps.file.now p.steps.words.now p.steps.nodes.now p.fields
call-walkable p = with-fields (traversable p.steps.walkable) p.are_fields

-- ---- how a run on steps ends

module _ (c : Setting) where
  -- at a node
  pub reached : (e : End) {node n : ℕ} {m : Machine} → going node m ≡ run_of e → n ≡ (if eqb node c.states then c.before else node)
      → ends_in n (going tt m) ≡ settled c e
  unfolding settled ends_in leads
  reached (ended k w) {node = node} {m = m} h i = let z : k ≡ node = cc in let y : w ≡ m = cc in rw (z, y, i)
  reached (halted k w) h i = cc

  -- or refused
  pub refused : (e : End) (s : Stop) (n : ℕ) (m : Machine) → stopped_by s m ≡ run_of e → ends_in n (stopped_by s m) ≡ settled c e
  unfolding settled ends_in leads
  refused (ended k w) s n m h = absurd (not_going s m h)
  refused (halted k w) Returned n m h = cc
  refused (halted k w) GuardFalse n m h = cc
  refused (halted k w) GuardFailed n m h = cc
  refused (halted k w) ActionFailed n m h = cc
  refused (halted k w) UnitsUsedUp n m h = cc

-- ---- starting

pub start-in :
    (file : List ℕ) (a : Agreement) {f : Fields} {m : Machine} {c : Setting} {n : ℕ} → f ≡ a.fields → n ≡ c.states →
    m ≡ entered no_call (opening_state f) → c ≡ start_setting f →
    started (settled c (walk_in file a c (n + 2) m)) ≡ start_in file a
unfolding start_steps start_by start_setting
start-in file a e l h i = rw (l, h, i, e)

-- ---- calling

-- what is found of the call's name and state, as the setting has them
pub entry-met :
    (steps : List Step) (f : Fields) (s : State) (k : Call) {c : Setting} (e : Found) → c ≡ call_setting f s k → EntryFound steps k.name s.state e →
    EntryFound steps c.call.name c.before e
unfolding call_setting
entry-met steps f s k e i x = subst (λ (c : Setting). EntryFound steps c.call.name c.before e) (sym i) x

entry-same :
    (steps : List Step) (f : Fields) (s : State) (k : Call) {c : Setting} → c ≡ call_setting f s k →
    entry_of steps c.call.name c.before ≡ entry_of steps k.name s.state
unfolding call_setting
entry-same steps f s k i = ap (λ (c : Setting). entry_of steps c.call.name c.before) i

module _ (file : List ℕ) (a : Agreement) {f : Fields} (is : f ≡ a.fields) (s : State) (k : Call) where
  abbrev entry : Option Step
  entry = entry_of (expansion a) k.name s.state

  abbrev known : Bool
  known = entry_known (expansion a) k.name

  abbrev runs : Setting → Machine → End
  runs c m = settled c (walk_by_in file a c entry m)

  pub steps-call : call_by f (call_tests f s k [] (known && is_none entry)) runs s k ≡ call_in file a s k
  unfolding call_steps
  steps-call = rw is refl

  module _ (p : Passed f s k) where
    pub steps-elsewhere : known ≡ true → entry ≡ none → refused_call (refusal 22) 0 s ≡ call_in file a s k
    unfolding is_none
    steps-elsewhere u v = elsewhere-refused f s k _ _ p (rw (u, v)) ∙ steps-call

    pub steps-run :
        {m : Machine} {c : Setting} → (known && is_none entry) ≡ false → m ≡ entered k s → c ≡ call_setting f s k →
        called s (settled c (walk_by_in file a c (entry_of (expansion a) c.call.name c.before) m)) ≡ call_in file a s k
    steps-run {m} {c} u h i =
        ap (λ (o : Option Step). called s (settled c (walk_by_in file a c o m))) (entry-same (expansion a) f s k i)
        ∙ call-runs f s k _ _ p u h i ∙ steps-call

-- what is found of a name that is not refused
pub not-elsewhere :
    (steps : List Step) (name state : ℕ) (e : Prelude.Option ℕ) → EntryFound steps name state (Ok e) →
    (entry_known steps name && is_none (entry_of steps name state)) ≡ false
unfolding is_none
not-elsewhere steps name state None x = rw x.0
not-elsewhere steps name state (Some i) x = rw x.2 (no-and (entry_known steps name))

-- the run from what was found; where it is no step, that from the fallback's entry
pub from-fallback : (file : List ℕ) (a : Agreement) (c : Setting) {o : Option Step} (m : Machine) {r : Run ℕ} {n : ℕ} → n ≡ c.states
    → r ≡ run_of (walk_in file a c (n + 1) m) → o ≡ none → r ≡ run_of (walk_by_in file a c o m)
unfolding walk_by
from-fallback file a c m e h i = rw i (h ∙ rw e)

-- ---- the tests of lent words

-- words that passed them begin with the expansion
pub words-begin : (a : Agreement) (words : List ℕ) → Ok tt ≡ refused_by (first_of (lent_tests a words))
    → begins_with words (table (expansion a)) ≡ true
unfolding lent_tests
words-begin a words h = not-false _ (tests-passed (lent_tests a words) h).1.0

abbrev pub beginning : {file words : List ℕ} (a : AcceptedFile file) → Ok tt ≡ refused_by (first_of (lent_tests a.tree words)) → Expanded file words
beginning a h = record { tree = a.tree; is = a.is; begins = words-begin a.tree _ h }

module _ (file words : List ℕ) where
  pub file-start : {r : Refusal} → file_of file ≡ bad r → refused_start r 0 ≡ start_expanded file words
  unfolding start_expanded on_file
  file-start e = rw e

  pub file-call : (s : State) (k : Call) {r : Refusal} → file_of file ≡ bad r → refused_call r 0 s ≡ call_expanded file words s k
  unfolding call_expanded on_file
  file-call s k e = rw e

module _ (file words : List ℕ) (a : AcceptedFile file) where
  pub start-refused : {r : Refusal} → Err r ≡ refused_by (first_of (lent_tests a.tree words)) → refused_start r 0 ≡ start_expanded file words
  unfolding start_expanded on_file
  start-refused h = rw a.is (given-refused (λ r. refused_start r 0) _ _ h)

  module _ (s : State) (k : Call) {f : Fields} (is : f ≡ a.tree.fields) {r : Refusal} where
    pub lent-sender : Err r ≡ refused_by (first_of ((leb f.accounts k.sender, 9) ∷ [])) → refused_call r 0 s ≡ call_expanded file words s k
    unfolding call_expanded on_file call_steps
    lent-sender h = rw a.is (sender-refused a.tree.fields s k _ _ _ (rw is at h))

    pub lent-words : leb f.accounts k.sender ≡ false → Err r ≡ refused_by (first_of (lent_tests a.tree words))
        → refused_call r 0 s ≡ call_expanded file words s k
    unfolding call_expanded on_file call_steps
    lent-words account h = rw a.is (lent-refused a.tree.fields s k _ _ _ (rw is at account) h)

  -- words that begin with the expansion
  module _ (h : begins_with words (table (expansion a.tree)) ≡ true) where
    pub start-lent : start_in file a.tree ≡ start_expanded file words
    unfolding start_expanded on_file given
    start-lent = rw (a.is, lent-pass words a.tree h, lent-steps words a.tree h)

    pub call-lent : (s : State) (k : Call) → call_in file a.tree s k ≡ call_expanded file words s k
    unfolding call_expanded on_file call_steps call_by
    call-lent s k = rw (a.is, lent-steps words a.tree h, lent-call-pass words a.tree h s k _)

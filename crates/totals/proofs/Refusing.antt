-- A refused call hands back the record that it was given, a refused start an all-zero one, on either form (refused-unchanged); a
-- refused expansion or verdict leaves the lent words as they were (words-unchanged).
use mathlib.Core.Path.{◌≡◌, refl}
use Prim.Native.Nat.{ℕ}
use mathlib.Core.Bool.{Bool, false}
use mathlib.Core.Option.{Option, none, some}
use mathlib.Core.List.{List}
use lib.ListN.{get_elem?}
use Rattle.std.specs.Prelude.{Err}
use Rattle.rules.specs.declared.Call.{Call}
use Rattle.rules.specs.Accepting.{Counted}
use Rattle.rules.specs.declared.Judged.{Judged}
use Rattle.rules.specs.declared.Verdict.TheVariants as verdicts
use Rattle.rules.specs.declared.Fields.{Fields}
use Rattle.rules.specs.declared.Machine.{Machine}
use Rattle.rules.specs.declared.Outcome.{Outcome}
use Rattle.rules.specs.declared.Refusal.{Refusal}
use Rattle.rules.specs.declared.State.{State}
use Rattle.rules.specs.Basics.{first_of, given}
use Rattle.rules.specs.Syntax.{Agreement}
use Rattle.rules.specs.Accepting.{refusal, File, bad, good, file_of, on_file, Lent, too_few, expand_file}
use Rattle.rules.specs.declared.Setting.{Setting}
use Rattle.rules.specs.Calling.{zero_state, refused_start, refused_call, End, ended, halted, started, called, start_by, call_by}
use Rattle.rules.specs.Calling.{start_tree, call_tree, start, call}
use Rattle.rules.specs.Stepping.{start_steps, call_steps, start_expanded, call_expanded}
use Rattle.rules.specs.Judging.{is_completed, Ruling, broken, held, spent, judged, judged_of, refused_verdict, verdict_tests, judge, verdict}
use Rattle.rules.specs.Demands.{RefusedUnchanged, WordsUnchanged}
use Rattle.laws.proofs.Basics.{clash, if-cases}

-- an outcome that is refused hands back s
abbrev pub Restores : State → Outcome → Type 0
Restores s o = is_completed o.answer ≡ false → o.state ≡ s

-- P of each case of `given` and of `on_file`
pub given-case : {A B : Type 0} (P : B → Type 0) {f : A → B} {g : Unit {0} → B} (o : Option A)
    → ((a : A) → P (f a)) → ((u : Unit {0}) → o ≡ none → P (g u)) → P (given f g o)
unfolding given
given-case P none h k = k tt refl
given-case P (some a) h k = h a

pub file-case : {A : Type 0} (P : A → Type 0) {f : Refusal → A} {g : Agreement → A} (x : File)
    → ((r : Refusal) → P (f r)) → ((a : Agreement) → x ≡ good a → P (g a)) → P (on_file f g x)
unfolding on_file
file-case P (bad r) h k = h r
file-case P (good a) h k = k a refl

started-restores : (e : End) → Restores zero_state (started e)
unfolding started is_completed refused_start
started-restores (ended n m) h = clash h
started-restores (halted k m) h = refl

called-restores : (s : State) (e : End) → Restores s (called s e)
unfolding called is_completed refused_call
called-restores s (ended n m) h = clash h
called-restores s (halted k m) h = refl

start-restores : (r : Refusal) (u : ℕ) → Restores zero_state (refused_start r u)
unfolding refused_start
start-restores r u h = refl

call-restores : (r : Refusal) (u : ℕ) (s : State) → Restores s (refused_call r u s)
unfolding refused_call
call-restores r u s h = refl

call-by-restores : (f : Fields) (tests : List (Bool × ℕ)) (run : Setting → Machine → End) (s : State) (k : Call)
    → Restores s (call_by f tests run s k)
unfolding call_by
call-by-restores f tests run s k =
    given-case (Restores s) (first_of tests) (λ n. call-restores (refusal n) 0 s) (λ _ _. called-restores s _)

pub start-tree-restores : (a : Agreement) → Restores zero_state (start_tree a)
unfolding start_tree start_by
start-tree-restores a = started-restores _

pub refused-unchanged : RefusedUnchanged
unfolding call call_expanded start start_expanded call_tree call_steps start_tree start_steps start_by
refused-unchanged file words s k = (
  file-case (Restores s) (file_of file) (λ r. call-restores r 0 s) (λ a _. call-by-restores _ _ _ s k),
  file-case (Restores s) (file_of file) (λ r. call-restores r 0 s) (λ a _. call-by-restores _ _ _ s k),
  file-case (Restores zero_state) (file_of file) (λ r. start-restores r 0) (λ a _. start-tree-restores a),
  file-case (Restores zero_state) (file_of file) (λ r. start-restores r 0) λ a _.
      given-case (Restores zero_state) _ (λ n. start-restores (refusal n) 0) (λ _ _. started-restores _),
)

-- a refusal leaves the lent words as they were
abbrev Leaves : {A : Type 0} → (words : List ℕ) (Says : A → Type 0) → Lent A → Type 0
Leaves words Says o = Says o.answer → o.words ≡ words

judged-not-refused : (v : Ruling) (r : Refusal) → (judged_of v).verdict ≡ verdicts.Refused r → ⊥
unfolding judged_of judged
judged-not-refused (broken n l) r h = cc
judged-not-refused (held n) r h = cc
judged-not-refused (spent n) r h = cc

pub words-unchanged : WordsUnchanged
unfolding expand_file verdict judge refused_verdict
words-unchanged file words i r = (
  file-case (Leaves words (λ (c : Counted). c ≡ Err r)) (file_of file) (λ _ _. refl) λ a _.
      if-cases (Leaves words (λ (c : Counted). c ≡ Err r)) (too_few a words) (λ _ _. refl) (λ _ h. absurd cc),
  file-case (Leaves words Refuses) (file_of file) (λ _ _. refl) λ a _.
      given-case (Leaves words Refuses) (get_elem? a.rules i)
      (λ q. given-case (Leaves words Refuses) (first_of (verdict_tests a words)) (λ _ _. refl) (λ _ _ h. absurd (judged-not-refused _ r h)))
      (λ _ _ _. refl),
)
  where
    Refuses : Judged → Type 0
    Refuses j = j.verdict ≡ verdicts.Refused r

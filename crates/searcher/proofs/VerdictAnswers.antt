-- What a verdict answers, by its tests; what its start leads to; and words that were written.
use Prim.Native.Nat.{ℕ, zero, suc, ◌≤◌}
use mathlib.Core.Path.{◌≡◌, refl}
use mathlib.Core.Bool.{true, false}
use mathlib.Core.List.{List, [], ◌∷◌}
use mathlib.Core.Option.{none, some}
use native.Mathlib.Omega.{arith}
use lib.ListN.{length, get_elem?}
use Rattle.rules.specs.declared.Outcome.{Outcome}
use Rattle.rules.specs.declared.Refusal.{Refusal}
use Rattle.rules.specs.Basics.{first_of, given}
use Rattle.rules.specs.Syntax.{Rule}
use Rattle.rules.specs.Expanding.{expansion, table}
use Rattle.rules.specs.Accepting.{bad, refusal, file_of, on_file, lent, too_few, written}
use Rattle.rules.specs.Calling.{start_tree}
use Rattle.rules.specs.Stepping.{begins_with}
use Rattle.rules.specs.Judging.{is_completed, judged_of, ruling, refused_verdict, verdict_tests, judge, verdict}
use Rattle.forms.proofs.Decoding.{written-begins}
use Rattle.totals.proofs.Trees.{tree-good}
use Rattle.totals.proofs.Fitting.{fit-not-unfit, start-fit}
use Rattle.machine.specs.Calls.{Fits}
use Rattle.access.specs.Trees.{AcceptedFile}

no-elem : {A : Type 0} (xs : List A) (i : ℕ) → length xs ≤ i → get_elem? xs i ≡ none
no-elem [] i h = refl
no-elem (x ∷ xs) zero h = absurd (omega arith)
no-elem (x ∷ xs) (suc i) h = no-elem xs i (omega arith)

-- a file that is refused
pub no-file : (file words : List ℕ) (i : ℕ) {r : Refusal} → file_of file ≡ bad r → refused_verdict words r ≡ verdict file i words
unfolding verdict on_file
no-file file words i e = rw e

module _ {file : List ℕ} (a : AcceptedFile file) (words : List ℕ) (i : ℕ) where
  pub no-rule : length a.tree.rules ≤ i → refused_verdict words (refusal 10) ≡ verdict file i words
  unfolding verdict on_file given
  no-rule h = rw (a.is, no-elem a.tree.rules i h)

  module _ (x : Rule) (here : get_elem? a.tree.rules i ≡ some x) where
    rule-judged : judge a.tree words x ≡ verdict file i words
    unfolding verdict on_file given
    rule-judged = rw (a.is, here)

    pub few_words : too_few a.tree words ≡ true → refused_verdict words (refusal 11) ≡ verdict file i words
    unfolding judge verdict_tests first_of given
    few_words h = rw h at rule-judged

    module _ (enough : too_few a.tree words ≡ false) where
      pub failed-start : is_completed (start_tree a.tree).answer ≡ false → refused_verdict words (refusal 27) ≡ verdict file i words
      unfolding judge verdict_tests first_of given
      failed-start e = rw (enough, e) at rule-judged

      pub was-judged : is_completed (start_tree a.tree).answer ≡ true → lent (judged_of (ruling a.tree x)) (written a.tree words) ≡ verdict file i words
      unfolding judge verdict_tests first_of given
      was-judged e = rw (enough, e) at rule-judged

-- the record that a completed start leads to
pub start_fits : {file : List ℕ} (a : AcceptedFile file) {o : Outcome} → o ≡ start_tree a.tree → is_completed o.answer ≡ true → Fits a.tree.fields o.state
start_fits {file} a {o} e =
    rw e
    (λ c.
    let h = start-fit a.tree (tree-good file a.tree a.is).tree c in
    record { sixteen = h.sixteen; eight = h.eight; fits = fit-not-unfit _ _ h })

pub written-words : {file : List ℕ} (a : AcceptedFile file) (before : List ℕ) {words : List ℕ} → words ≡ written a.tree before → begins_with words (table (expansion a.tree)) ≡ true
written-words a before e = rw e (written-begins a.tree before)

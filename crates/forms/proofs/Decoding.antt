-- Lent words that begin with an agreement's expansion pass the tests 11 and 12, and the steps in them are the expansion.
use mathlib.Core.Path.{◌≡◌, refl, sym, ◌∙◌, ap, ap₂}
use Prim.Native.Nat.{ℕ, ◌*◌}
use native.Mathlib.Omega.{arith}
use mathlib.Core.Bool.{Bool, true, false}
use mathlib.Core.Option.{none}
use mathlib.Core.List.{List, [], ◌∷◌, ◌++◌}
use lib.ListN.{length, length-append}
use lib.Seq.{take-append_seam}
use lib.Dec.{eqb}
use borrow.Author.Tests.{eqb-true, eq-eqb, le-ltb}
use Rattle.rules.specs.declared.Call.{Call}
use Rattle.rules.specs.declared.State.{State}
use Rattle.rules.specs.Basics.{joined, first_of}
use Rattle.rules.specs.Syntax.{Agreement}
use Rattle.rules.specs.Expanding.{Step, expansion, words_of, table, steps_in}
use Rattle.rules.specs.Accepting.{too_few, written}
use Rattle.rules.specs.Calling.{call_tests}
use Rattle.rules.specs.Stepping.{begins_with, lent_tests, lent_steps}
use Rattle.laws.proofs.Basics.{clash, both-true}
use Rattle.laws.proofs.Tables.{table-length}

-- words that begin with others are those and a rest
pub begins : (words front : List ℕ) → begins_with words front ≡ true → (rest : List ℕ) × (words ≡ front ++ rest)
unfolding begins_with
begins ws [] e = (ws, refl)
begins [] (y ∷ ys) e = clash (sym e)
begins (w ∷ ws) (y ∷ ys) e =
    let t = both-true (eqb w y) (begins_with ws ys) e in
    let r = begins ws ys t.1 in
    (r.0, ap₂ (λ (x : ℕ) (l : List ℕ). x ∷ l) (eqb-true w y t.0) r.1)

begins-with : (xs ys : List ℕ) → begins_with (xs ++ ys) xs ≡ true
unfolding begins_with
begins-with [] ys = refl
begins-with (x ∷ xs) ys = rw (eq-eqb x x refl) (begins-with xs ys)

-- the words that were written begin with the expansion
pub written-begins : (a : Agreement) (words : List ℕ) → begins_with (written a words) (table (expansion a)) ≡ true
unfolding written
written-begins a words = begins-with (table (expansion a)) _

steps_in-table : (l : List Step) → steps_in (table l) ≡ l
unfolding steps_in table joined words_of
steps_in-table [] = refl
steps_in-table (s ∷ l) = ap (λ (r : List Step). s ∷ r) (steps_in-table l)

module _ (words : List ℕ) (a : Agreement) (h : begins_with words (table (expansion a)) ≡ true) where
  pub lent-steps : lent_steps a words ≡ expansion a
  unfolding lent_steps
  lent-steps =
      let r = begins words (table (expansion a)) h in
      rw (r.1, ← table-length (expansion a), take-append_seam (table (expansion a)) r.0) (steps_in-table (expansion a))

  enough : too_few a words ≡ false
  unfolding too_few
  enough =
      let r = begins words (table (expansion a)) h in
      let n = ap length r.1 ∙ length-append (table (expansion a)) r.0 in
      let t = table-length (expansion a) in
      le-ltb (length words) (5 * length (expansion a)) (omega arith)

  pub lent-pass : first_of (lent_tests a words) ≡ none
  unfolding first_of lent_tests
  lent-pass = rw (enough, h)

  pub lent-call-pass : (s : State) (k : Call) (b : Bool)
      → first_of (call_tests a.fields s k (lent_tests a words) b) ≡ first_of (call_tests a.fields s k [] b)
  unfolding first_of call_tests lent_tests
  lent-call-pass s k b = rw (enough, h)

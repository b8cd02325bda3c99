-- The i-th step of a table stands in the words that begin with it.
use Prim.Native.Nat.{ℕ, zero, suc, ◌+◌, ◌*◌, ◌≤◌, ◌<◌}
use mathlib.Core.Path.{◌≡◌, refl, sym, ap, ◌∙◌}
use mathlib.Core.Bool.{true}
use mathlib.Core.List.{List, [], ◌∷◌, ◌++◌}
use mathlib.Core.Option.{some}
use native.Mathlib.Omega.{arith}
use lib.ListN.{length, get_or, get_elem?, drop, length-drop}
use lib.Seq.{drop-cons, drop-drop, get_or-drop}
use Rattle.rules.specs.Basics.{joined}
use Rattle.rules.specs.Expanding.{Step, step, words_of, table}
use Rattle.rules.specs.Stepping.{begins_with}
use Rattle.forms.proofs.Decoding.{begins}
use Rattle.walker.specs.Tables.{word_at, step_at}

drop-table : (i : ℕ) (l : List Step) (rest : List ℕ) → i ≤ length l → drop (5 * i) (table l ++ rest) ≡ table (drop i l) ++ rest
unfolding table joined words_of
drop-table zero l rest h = refl
drop-table (suc i) [] rest h = absurd (omega arith)
drop-table (suc i) (s ∷ l) rest h =
    let z : 5 * suc i ≡ 5 + 5 * i = omega arith in
    let w = s.origin ∷ s.target ∷ s.kind ∷ s.name ∷ s.at ∷ (table l ++ rest) in
    rw z (sym (drop-drop (5 * i) 5 w) ∙ drop-table i l rest (omega arith))

-- the i-th step, and its five words
pub record Here (words : List ℕ) (steps : List Step) (i : ℕ) : Type 0 where
  pub here : drop i steps ≡ step_at words i ∷ drop (suc i) steps
  pub room : 5 * i + 5 ≤ length words

nowhere : Step
nowhere = step 0 0 0 0 0

pub step-here : (words : List ℕ) (steps : List Step) → begins_with words (table steps) ≡ true → (i : ℕ) → i < length steps → Here words steps i
unfolding table joined words_of
step-here words steps e i h =
    let r = begins words (table steps) e in
    let s = get_or steps i nowhere in
    let d : drop i steps ≡ s ∷ drop (suc i) steps = drop-cons steps i nowhere h in
    let w : drop (5 * i) words ≡ words_of s ++ (table (drop (suc i) steps) ++ r.0) =
    ap (drop (5 * i)) r.1 ∙ drop-table i steps r.0 (omega arith) ∙ ap (λ (l : List Step). table l ++ r.0) d in
    let at : (k : ℕ) → word_at words i k ≡ get_or (words_of s ++ (table (drop (suc i) steps) ++ r.0)) k 0
    = λ k. sym (get_or-drop (5 * i) words k 0) ∙ ap (λ (l : List ℕ). get_or l k 0) w in
    record {
      here = rw (at 0, at 1, at 2, at 3, at 4) d;
      room = omega (arith, length-drop (5 * i) words, ap length w);
    }

pub here-at : {words : List ℕ} {steps : List Step} {i : ℕ} → Here words steps i → get_elem? steps i ≡ some (step_at words i)
here-at {words} {steps} {i} h = go i steps h.here
  where
    go : (k : ℕ) (l : List Step) → drop k l ≡ step_at words i ∷ drop (suc k) l → get_elem? l k ≡ some (step_at words i)
    go zero [] e = absurd cc
    go (suc k) [] e = absurd cc
    go zero (s ∷ l) e = cc
    go (suc k) (s ∷ l) e = go k l e

-- a step that is the i-th is the one in the words
pub at_here : {words : List ℕ} {steps : List Step} {i : ℕ} {s : Step} → Here words steps i → get_elem? steps i ≡ some s → step_at words i ≡ s
at_here h e = let z = here-at h in cc

pub at-below : (steps : List Step) (i : ℕ) {s : Step} → get_elem? steps i ≡ some s → i < length steps
at-below [] i e = absurd cc
at-below (x ∷ l) zero e = omega arith
at-below (x ∷ l) (suc i) e = omega (arith, at-below l i e)

pub drop-below : {A : Type 0} (l : List A) (i : ℕ) {x : A} {r : List A} → drop i l ≡ x ∷ r → i < length l
drop-below l i e = omega (arith, length-drop i l, ap length e)

-- The names of the transitions that bytes begin with, and those of the transitions that a group read there.
use Prim.Native.Nat.{ℕ, zero, suc, ◌≤◌}
use mathlib.Core.Path.{◌≡◌, refl, sym, ap, ap₂, ◌∙◌}
use mathlib.Core.Bool.{Bool, true, false}
use mathlib.Core.List.{List, [], ◌∷◌, map}
use native.Mathlib.Omega.{arith}
use lib.Dec.{eqb}
use lib.ListN.{length, drop, length-drop}
use lib.Seq.{drop-drop}
use Rattle.std.proofs.lemmas.List.{get_or-drop}
use borrow.Author.Tests.{eqb-true, eqb-false, eq-eqb, ne_eqb}
use Rattle.rules.specs.Basics.{has}
use Rattle.rules.specs.Syntax.{Transition}
use Rattle.rules.specs.Reading.{read, size_of, kind_of, whole, group, transition_body}
use Rattle.laws.proofs.Basics.{both-true}
use Rattle.grammar.proofs.Bytes.{has_all, is_whole, whole-record, part-all}
use Rattle.grammar.proofs.Keeping.{embedded}
use Rattle.grammar.proofs.Agreements.{comes_in, Row, done, member, TransitionIn, group-keeps, transition-member}
use Rattle.files.specs.FieldAnswers.{value_at}
use Rattle.files.specs.Members.{is_next, names_in}
use Rattle.files.proofs.FieldLaws.{byte-is}

-- ---- one transition after another

module _ (s : List ℕ) where
  pub names-short : (n : ℕ) → whole s ≡ false → names_in n s ≡ []
  unfolding names_in
  names-short zero h = refl
  names-short (suc n) h = rw h

  pub names-other : (n : ℕ) → whole s ≡ true → (kind_of s ≡ 2 → ⊥) → names_in n s ≡ []
  unfolding names_in
  names-other zero h k = refl
  names-other (suc n) h k = rw (h, ne_eqb _ _ k)

  pub names-next : (n m : ℕ) → n ≡ suc m → whole s ≡ true → kind_of s ≡ 2 → names_in n s ≡ value_at 1 4 s ∷ names_in m (drop (size_of s) s)
  unfolding names_in
  names-next n m e h k = rw (e, h, eq-eqb _ _ k)

  -- no child of kind 2 comes
  names-stop : (n : ℕ) → is_next 2 s ≡ false → names_in n s ≡ []
  unfolding is_next
  names-stop n h = go (whole s) refl
    where
      go : (w : Bool) → whole s ≡ w → names_in n s ≡ []
      go true q =
          let r = whole-record s q in
          let four : 4 ≤ length s = omega (arith, r.low, r.high) in
          let k : eqb (kind_of s) 2 ≡ false = rw (has_all 4 s four) at h in
          names-other n q (eqb-false _ _ k)
      go false q = names-short n q

pub names-none : (n : ℕ) (s : List ℕ) → n ≡ 0 → names_in n s ≡ []
unfolding names_in
names-none n s e = rw e

-- ---- the names of what a group read

abbrev name_of : Transition → ℕ
name_of t = t.name

row-names : (file : List ℕ) (vars states : ℕ) {n at to : ℕ} {ts : List Transition}
    → Row file (length file) 2 (transition_body vars states) (TransitionIn file vars states) n at ts to → map name_of ts ≡ names_in n (drop at file)
unfolding is_next comes_in
row-names file vars states (done {most = n} {at = at} c) = sym (names-stop (drop at file) n (rw (← part-all at file) c))
row-names file vars states (member {most = n} {at = at} {m = m} c s t r) =
    let f = drop at file in
    let k : kind_of f ≡ 2 = eqb-true _ _ (both-true (has 4 f) (eqb (kind_of f) 2) (rw (← part-all at file) c)).1 in
    let l = length-drop at file in
    ap₂ (λ (n : ℕ) (ns : List ℕ). n ∷ ns)
    (t.name ∙ sym (get_or-drop at file 4 0) ∙ byte-is 4 f)
    (row-names file vars states r ∙ ap (λ (k : ℕ). names_in n (drop k file)) s.size ∙ ap (names_in n) (sym (drop-drop (size_of f) at file)))
    ∙ sym (names-next f (suc n) n refl (is_whole f (size_of f) refl (omega (arith, s.size, s.four)) (omega (arith, s.size, s.four, s.fits))) k)

pub names-read : (vars states n start at : ℕ) (s : List ℕ) {ts : List Transition} {to : ℕ} {rest : List ℕ}
    → group n 2 (transition_body vars states) start at s ≡ read ts to rest → map name_of ts ≡ names_in n s
names-read vars states n start at s h =
    let x = embedded (λ file end. group-keeps file end 2 (TransitionIn file vars states) (transition-member file vars states) n start at) h in
    row-names x.file vars states x.has ∙ ap (names_in n) x.here

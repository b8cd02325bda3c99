-- What is known of a file whose tree was read, of an accepted one, and of the place of a refusal.
use Prim.Native.Nat.{ℕ, ◌≤◌}
use mathlib.Core.Path.{◌≡◌, refl, subst}
use mathlib.Core.Bool.{◌&&◌}
use mathlib.Core.List.{List, []}
use mathlib.Core.Option.{Option, none, some}
use native.Mathlib.Omega.{arith}
use lib.Dec.{eqb, ltb, leb}
use lib.ListN.{length}
use borrow.Author.Tests.{ltb-false, leb-true, eqb-true}
use Rattle.rules.specs.Basics.{given, sum, most32}
use Rattle.rules.specs.Syntax.{Agreement}
use Rattle.rules.specs.Reading.{Reading, refused, read, size_of, child, only, agreement_body, read_tree}
use Rattle.rules.specs.Expanding.{expansion}
use Rattle.rules.specs.Accepting.{File, bad, good, refusal_at, first_repeat, sized, accept, accepted, file_of}
use Rattle.laws.proofs.Basics.{both-true, if-cases}
use Rattle.grammar.proofs.Bytes.{part-all}
use Rattle.grammar.proofs.Keeping.{Keeps, Of, stops, Inner, keeps-if, keeps-refuse, keeps-any, keeps-as, keeps-child, what-read, where-refused}
use Rattle.grammar.proofs.Agreements.{AgreementAt, agreement-keeps}
use Rattle.grammar.proofs.Small.{few-refused, few-tree}

-- the body of the file's record
pub file-inner : Inner 0 (only 1 agreement_body)
unfolding only
file-inner file kind to = keeps-if (eqb kind 1) (keeps-any (agreement-keeps file (λ k. k) (λ k n. refl) 0 to)) (keeps-refuse 3)

module _ (file : List ℕ) where
  -- a tree that was read
  pub record Tree (a : Agreement) : Type 0 where
    pub small : length file ≤ 32768
    pub parts : AgreementAt file (λ k. k) 0 (length file) a

  -- an accepted one
  pub record Accepted (a : Agreement) : Type 0 where
    pub to : ℕ
    pub left : List ℕ
    pub reads : read_tree file ≡ read a to left
    pub opening-fits : sum a.fields.opening ≤ most32
    pub few-steps : length (expansion a) ≤ 1024

  -- what is known of a reading of the file
  abbrev Known : Reading Agreement → Type 0
  Known r = (end : ℕ) × (end ≤ 32768) × Of file 0 0 end (λ a _. Tree a) r

  -- a file that is not refused for its length is read as its record
  read-of : Known (read_tree file)
  unfolding read_tree only
  read-of =
      if-cases Known (leb 4 (length file) && leb (length file) 32768 && eqb (size_of file) (length file))
      (λ t.
      let x = both-true (leb 4 (length file) && leb (length file) 32768) (eqb (size_of file) (length file)) t in
      let small = leb-true (length file) 32768 (both-true (leb 4 (length file)) (leb (length file) 32768) x.0).1 in
      let tree = keeps-child (λ _ end a. AgreementAt file (λ k. k) 0 end a) λ kind to.
      keeps-if (eqb kind 1) (keeps-as (agreement-keeps file (λ k. k) (λ k n. refl) 0 to) λ a m h _. h.1) (keeps-refuse 3) in
      let h : Keeps file 0 0 (length file) (child (only 1 agreement_body)) (λ a _. Tree a) =
      keeps-as tree (λ a to h.
      let end : to ≡ length file = omega (arith, h.0.size, eqb-true _ _ x.1) in
      record { small = small; parts = subst (λ (end : ℕ). AgreementAt file (λ k. k) 0 end a) end h.1 }) in
      let read = h.each (omega arith) (omega arith) in
      (length file, small, subst (λ s. Of file 0 0 (length file) (λ a _. Tree a) (child (only 1 agreement_body) 0 0 s)) (part-all 0 file) read))
      (λ _. (0, omega arith, stops 0 (λ _. omega arith)))

  pub tree-read : {a : Agreement} {to : ℕ} {left : List ℕ} → read_tree file ≡ read a to left → Tree a
  tree-read e = let r = read-of in (what-read (subst (Of file 0 0 r.0 (λ a _. Tree a)) e r.2)).3

  -- the place of refusals 1 to 5 lies in the file, at its end at the latest
  pub place-small : {n p : ℕ} → read_tree file ≡ refused n p → p ≤ 32768
  place-small e =
      let r = read-of in
      let x = where-refused (subst (Of file 0 0 r.0 (λ a _. Tree a)) e r.2) (omega arith) in
      omega (arith, r.1)

  -- their numbers are small
  pub number-small : {n p : ℕ} → read_tree file ≡ refused n p → n ≤ 8
  number-small e = few-refused (few-tree file) e

  -- ---- acceptance

  -- an accepted agreement has P
  abbrev OfFile : (Agreement → Type 0) → File → Type 0
  OfFile P (bad r) = Unit {0}
  OfFile P (good a) = P a

  accepted-of : OfFile Accepted (file_of file)
  unfolding file_of accepted accept sized given
  accepted-of = go (read_tree file) refl
    where
      go : (r : Reading Agreement) → read_tree file ≡ r → OfFile Accepted (accepted r)
      go (refused n p) e = tt
      go (read a to left) e = repeats (first_repeat [] a.transitions)
        where
          repeats : (o : Option ℕ) → OfFile Accepted (given (λ at. bad (refusal_at 6 at)) (λ _. sized a) o)
          repeats (some at) = tt
          repeats none =
              if-cases (OfFile Accepted) (ltb most32 (sum a.fields.opening)) (λ _. tt) λ p.
              if-cases (OfFile Accepted) (ltb 1024 (length (expansion a))) (λ _. tt) λ q.
              record { to = to; left = left; reads = e; opening-fits = ltb-false most32 _ p; few-steps = ltb-false 1024 _ q }

  pub accepted-file : {a : Agreement} → file_of file ≡ good a → Accepted a
  accepted-file e = subst (OfFile Accepted) e accepted-of

  pub accepted-tree : {a : Agreement} → file_of file ≡ good a → Tree a
  accepted-tree e = tree-read (accepted-file e).reads

-- Laws of a group: the whole from what is left of it, and its members read for their steps.
use Rattle.std.specs.Prelude.{if◌then◌else◌}
use Prim.Native.Nat.{ℕ, zero, suc, ◌+◌, ◌-◌, ◌≤◌, ◌<◌}
use mathlib.Core.Path.{◌≡◌, refl, sym, ap, ap₂, ◌∙◌}
use mathlib.Core.Bool.{Bool, true, false}
use mathlib.Core.List.{List, [], ◌∷◌, map}
use native.Mathlib.Omega.{arith}
use native.Mathlib.Numerals.{sub-one}
use lib.ListN.{length, drop}
use Rattle.rules.specs.Basics.{part, sum}
use Rattle.rules.specs.Reading.{Reading, refused, read, Reader, after, ◌>>=◌, pure, refuse, closed, size_of, whole, child, comes, group, no_more}
use Rattle.std.specs.Prelude.{Ok, Err}
use Rattle.records.specs.declared.fault.Fault.{Fault}
use Rattle.records.specs.declared.answers.Checked.{Checked}
use Rattle.records.specs.Checking.{Answer, outcome, found, refused_at, no_steps, added, from}
use Rattle.grammar.proofs.Bytes.{part-all}
use Rattle.grammar.proofs.Keeping.{embedded, keeps-record}
use Rattle.records.proofs.Parts.{empty, not-empty}
use Rattle.records.proofs.Readers.{Steady, Nested, child-short, child-refuses, refused-never, came, gone, added_twice}
use Rattle.files.specs.Members.{itself, is_next, another}

-- ---- one member

pub another-nested : (body : Reader ℕ) → Nested 4 (λ left. another left body) (λ _ _. body)
unfolding another
another-nested body = record { none = refl; some = λ left. refl }

-- what was read of a member
pub record Next (body : Reader ℕ) (left start at : ℕ) (s : List ℕ) (c : Checked) : Type 0 where
  pub reads : another left body start at s ≡ read c.steps c.end (from (c.end - at) s)
  pub some : 0 < left
  pub low : at + 4 ≤ c.end
  pub high : c.end ≤ at + length s
  pub pays : at + c.steps ≤ c.end

pub next-read :
    {body : Reader ℕ} → Steady 4 itself body → (left start at : ℕ) (s : List ℕ) {c : Checked} →
    Ok c ≡ outcome itself (another left body start at s) → Next body left start at s c
unfolding another
next-read h zero start at s e = refused-never 4 start at s (came itself (child (λ _. refuse 4) start at s) (sym e)).2
next-read {body} h (suc left) start at s {c} e =
    let q = came itself (child (λ _. body) start at s) (sym e) in
    let x = embedded (λ file end. keeps-record {start = start} {end = end} (λ a to. at + 4 + a ≤ to + 4) λ kind to. h.keeps file at (at + 4) to) q.2 in
    record {
      reads = q.2 ∙ ap₂ (λ (a : ℕ) (l : List ℕ). read a c.end l) q.3 (x.leaves ∙ sym (part-all (c.end - at) s));
      some = omega arith;
      low = x.has.0.four;
      high = x.high;
      pays = omega (arith, x.has.1, q.3);
    }

-- ---- a group of them

-- a child that is refused at any kind, whatever was to be read and done with it
never-after : {A B : Type 0} (n start at : ℕ) (s : List ℕ) (f : A → (m : ℕ) (l : List ℕ) → Reading B) → child (λ _. refuse n) start at s ≡ after (child (λ _. refuse n) start at s) f
unfolding child closed refuse
never-after {A} {B} n start at s f = go (whole s)
  where
    go : (w : Bool) → (if w then refused n at else refused 2 at) ≡ after (if w then refused n at else refused 2 at) f
    go true = refl
    go false = refl

never : {A B : Type 0} (n start at : ℕ) (s : List ℕ) {k p : ℕ} → child {A = A} (λ _. refuse n) start at s ≡ refused k p → child {A = B} (λ _. refuse n) start at s ≡ refused k p
never {A} {B} n start at s h =
    let f : A → (m : ℕ) (l : List ℕ) → Reading B = λ a m l. refused 0 0 in
    never-after n start at s f ∙ ap (λ q. after q f) h

module _ (kind : ℕ) (body : Reader ℕ) (start at : ℕ) (s : List ℕ) where
  group-ends : (n : ℕ) → is_next kind s ≡ false → outcome sum (group n kind body start at s) ≡ found at 0
  unfolding group comes is_next sum
  group-ends zero h = rw h
  group-ends (suc n) h = rw h

  group-refuses : (n : ℕ) {k p : ℕ} → is_next kind s ≡ true → another n body start at s ≡ refused k p → outcome sum (group n kind body start at s) ≡ refused_at k p
  unfolding group comes is_next another
  group-refuses zero h e = rw (h, never 4 start at s e)
  group-refuses (suc n) h e = rw (h, e)

  group-goes :
      (n : ℕ) {k m : ℕ} {l : List ℕ} → is_next kind s ≡ true → another n body start at s ≡ read k m l →
      outcome sum (group n kind body start at s) ≡ added k (outcome sum (group (n - 1) kind body start m l))
  unfolding group comes is_next another sum
  group-goes zero h e = refused-never 4 start at s e
  group-goes (suc n) {k} {m} {l} h e = rw (h, e, sub-one) (go (group n kind body start m l))
    where
      go : (q : Reading (List ℕ)) → outcome sum (after q (λ ks m l. read (k ∷ ks) m l)) ≡ added k (outcome sum q)
      go (refused n p) = refl
      go (read ks m l) = refl

-- the answer on a group from the steps of its first members, and what is left where so many more may come
abbrev pub Rest : (kind : ℕ) (body : Reader ℕ) (start : ℕ) (whole : Answer) (at : ℕ) (s : List ℕ) (steps left : ℕ) → Type 0
Rest kind body start whole at s steps left = whole ≡ added steps (outcome sum (group left kind body start at s))

module _ (kind : ℕ) (body : Reader ℕ) (start : ℕ) (whole : Answer) (at : ℕ) (s : List ℕ) (steps left : ℕ) (rest : Rest kind body start whole at s steps left) where
  pub rest-ends : is_next kind s ≡ false → found at steps ≡ whole
  rest-ends h =
      let z : found at (steps + 0) ≡ found at steps = ap (found at) (omega arith) in
      sym (rest ∙ ap (added steps) (group-ends kind body start at s left h) ∙ z)

  pub rest-refuses : is_next kind s ≡ true → {e : Fault} → Err e ≡ outcome itself (another left body start at s) → Err e ≡ whole
  rest-refuses w h = sym (rest ∙ ap (added steps) (group-refuses kind body start at s left w (gone itself (another left body start at s) (sym h))))

  pub rest_goes :
      Steady 4 itself body → is_next kind s ≡ true → {c : Checked} → Ok c ≡ outcome itself (another left body start at s) →
      Rest kind body start whole c.end (from (c.end - at) s) (steps + c.steps) (left - 1)
  rest_goes st t {c} h =
      let x = next-read st left start at s h in
      let g = group-goes kind body start at s left t x.reads in
      rest ∙ ap (added steps) g ∙ added_twice steps c.steps _

-- ---- members read for their steps

module _ {A : Type 0} (g : A → ℕ) where
  -- what was read, as its steps
  abbrev pub as_steps : Reading A → Reading ℕ
  as_steps q = after q (λ a m l. read (g a) m l)

  child-steps : (body : Reader A) (start at : ℕ) (s : List ℕ) → child (λ _. body >>= λ x. pure (g x)) start at s ≡ as_steps (child (λ _. body) start at s)
  unfolding child closed
  child-steps body start at s = go (whole s) (body at (at + 4) (part 4 (size_of s) s))
    where
      go :
          (w : Bool) (q : Reading A) →
          (if w then closed (drop (size_of s) s) (as_steps q) else refused 2 at)
          ≡ as_steps (if w then closed (drop (size_of s) s) q else refused 2 at)
      go false q = refl
      go true (refused n p) = refl
      go true (read a m []) = refl
      go true (read a m (b ∷ bs)) = refl

  pub group-steps :
      (kind : ℕ) (body : Reader A) (n start at : ℕ) (s : List ℕ) →
      group n kind (body >>= λ x. pure (g x)) start at s ≡ after (group n kind body start at s) (λ xs m l. read (map g xs) m l)
  unfolding group comes is_next
  group-steps kind body zero start at s = go (is_next kind s)
    where
      go :
          (b : Bool) →
          (if b then child (λ _. refuse 4) else pure []) start at s
          ≡ after ((if b then child (λ _. refuse 4) else pure []) start at s) (λ (xs : List A) m l. read (map g xs) m l)
      go true = never-after 4 start at s (λ (xs : List A) m l. read (map g xs) m l)
      go false = refl
  group-steps kind body (suc n) start at s = go (is_next kind s) (λ m l. group-steps kind body n start m l)
    where
      steps : Reader ℕ
      steps = body >>= λ x. pure (g x)

      rest :
          (a : A) (p : Reading (List ℕ)) (q : Reading (List A)) → p ≡ after q (λ xs m l. read (map g xs) m l) →
          after p (λ ks m l. read (g a ∷ ks) m l) ≡ after (after q (λ xs m l. read (a ∷ xs) m l)) (λ xs m l. read (map g xs) m l)
      rest a p (refused k i) e = rw e
      rest a p (read xs m l) e = rw e

      first :
          (p : Reading ℕ) (q : Reading A) → p ≡ as_steps q →
          ((m : ℕ) (l : List ℕ) → group n kind steps start m l ≡ after (group n kind body start m l) (λ xs m l. read (map g xs) m l)) →
          after p (λ k m l. after (group n kind steps start m l) (λ ks m l. read (k ∷ ks) m l))
          ≡ after (after q (λ a m l. after (group n kind body start m l) (λ xs m l. read (a ∷ xs) m l))) (λ xs m l. read (map g xs) m l)
      first p (refused k i) e again = rw e
      first p (read a m l) e again = rw e (rest a (group n kind steps start m l) (group n kind body start m l) (again m l))

      go :
          (b : Bool) →
          ((m : ℕ) (l : List ℕ) → group n kind steps start m l ≡ after (group n kind body start m l) (λ xs m l. read (map g xs) m l)) →
          (if b then (child (λ _. steps) >>= λ k. group n kind steps >>= λ ks. pure (k ∷ ks)) else pure []) start at s
          ≡ after ((if b then (child (λ _. body) >>= λ a. group n kind body >>= λ xs. pure (a ∷ xs)) else pure []) start at s) (λ xs m l. read (map g xs) m l)
      go true again = first (child (λ _. steps) start at s) (child (λ _. body) start at s) (child-steps body start at s) again
      go false again = refl

-- ---- after the last group

module _ (start at : ℕ) (l : List ℕ) where
  pub no-more-end : length l ≡ 0 → found at 0 ≡ outcome no_steps (no_more start at l)
  unfolding no_more
  no-more-end h = rw (empty l h)

  pub no-more-short : 0 < length l → whole l ≡ false → refused_at 2 at ≡ outcome no_steps (no_more start at l)
  unfolding no_more
  no-more-short h w = rw (not-empty l h, child-short {A = Unit {0}} (λ _. refuse 3) start at l w)

  pub no-more-other : 0 < length l → whole l ≡ true → refused_at 3 at ≡ outcome no_steps (no_more start at l)
  unfolding no_more refuse
  no-more-other h w = rw (not-empty l h, child-refuses {A = Unit {0}} (λ _. refuse 3) start at l 3 at w refl)

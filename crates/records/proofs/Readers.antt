-- Laws of readers: how far they go, and what the check makes of readers in a row and of a child record.
use Prim.Native.Nat.{ℕ, zero, suc, ◌+◌, ◌-◌, ◌≤◌, ◌<◌}
use mathlib.Core.Path.{◌≡◌, refl, sym, ap, ap₂, ◌∙◌}
use mathlib.Core.Bool.{Bool, true, false}
use mathlib.Core.Logic.{inl, inr}
use mathlib.Core.List.{List, [], ◌∷◌}
use native.Mathlib.Omega.{arith}
use native.Mathlib.Numerals.{sub-one}
use lib.ListN.{length, take, drop, length-drop}
use borrow.Author.Tests.{lt-ltb, le-ltb}
use Rattle.std.specs.Prelude.{if◌then◌else◌}
use Rattle.rules.specs.Basics.{has, part, number}
use Rattle.rules.specs.Reading.{Reading, refused, read, Reader, after, ◌>>=◌, ◌>>◌, pure, refuse, in_range, field, closed, size_of, kind_of, whole, child}
use Rattle.std.specs.Prelude.{Result, Ok, Err, IsErr, IsErrAnd}
use Rattle.std.proofs.lemmas.Result.{err_from_is_err_and}
use Rattle.grammar.proofs.Bytes.{has_all, has-length, part_length, Whole, whole-record, part-all}
use Rattle.grammar.proofs.Readings.{unread, child-read}
use Rattle.grammar.proofs.Keeping.{Keeps, Inner, Embedded, embedded, keeps-pure, keeps-test, keeps-then, keeps-as, keeps-on, keeps-field}
use Rattle.records.specs.declared.fault.Fault.{Fault}
use Rattle.records.specs.declared.answers.Checked.{Checked}
use Rattle.records.specs.declared.part.Part.{Part}
use Rattle.records.specs.declared.part.Record.{Record}
use Rattle.records.specs.Checking.{Answer, Opens, Unopened, of_part, outcome, found, refused_at, no_steps, ended, counted, added, checked_on, ranged, pair}

-- ---- how far a reader goes

-- a reader that counts no more steps than it passes bytes, and k more, in whatever file it stands
pub record Steady {A : Type 0} (k : ℕ) (count : A → ℕ) (r : Reader A) : Type 0 where
  pub keeps : (file : List ℕ) (start at end : ℕ) → Keeps file start at end r (λ a to. at + count a ≤ to + k)

pub moved : {A : Type 0} {k : ℕ} {count : A → ℕ} {r : Reader A} → Steady k count r → {start at : ℕ} {s : List ℕ} {a : A} {to : ℕ} {rest : List ℕ}
    → r start at s ≡ read a to rest → Embedded at s a to rest (λ _ _ a to. at + count a ≤ to + k)
moved h e = embedded (λ file end. h.keeps file _ _ end) e

-- one whose values count none
pub steady-none : {A : Type 0} {k : ℕ} {r : Reader A} {P : (file : List ℕ) (start at end : ℕ) → A → ℕ → Type 0}
    → ((file : List ℕ) (start at end : ℕ) → Keeps file start at end r (P file start at end)) → Steady k no_steps r
steady-none h = record { keeps = λ file start at end. keeps-as (keeps-on (h file start at end)) λ _ _ l. omega arith }

-- ---- a child record

module _ {A : Type 0} (body : ℕ → Reader A) (start at : ℕ) (left : List ℕ) where
  pub child-short : whole left ≡ false → child body start at left ≡ refused 2 at
  unfolding child
  child-short h = rw h

  pub child-refuses : (n p : ℕ) → whole left ≡ true → body (kind_of left) at (at + 4) (part 4 (size_of left) left) ≡ refused n p → child body start at left ≡ refused n p
  unfolding child closed
  child-refuses n p h e = rw (h, e)

-- a child that is refused at any kind is never read
pub refused-never : {A X : Type 0} (n start at : ℕ) (left : List ℕ) {a : A} {to : ℕ} {rest : List ℕ} → child (λ _. refuse n) start at left ≡ read a to rest → X
unfolding refuse
refused-never n start at left h = unread (child-read (λ _. refuse n) start at left h).reads

-- ---- what the check answers

-- what a `?` hands on
pub handed : {T E : Type 0} (r : Result T E) (e : E) → IsErr r × IsErrAnd r (λ y. y ≡ e) → r ≡ Err e
handed r e h = let p = err_from_is_err_and r h.1 in rw (p.1, p.2)

-- the reading behind an answer
pub came : {A : Type 0} (count : A → ℕ) (q : Reading A) {c : Checked} → outcome count q ≡ Ok c → (a : A) × (l : List ℕ) × (q ≡ read a c.end l) × (count a ≡ c.steps)
came count (refused n p) h = cc
came count (read a m l) {c} h =
    let i : m ≡ c.end = cc in
    let j : count a ≡ c.steps = cc in
    (a, l, ap (λ (i : ℕ). read a i l) i, j)

pub gone : {A : Type 0} (count : A → ℕ) (q : Reading A) {e : Fault} → outcome count q ≡ Err e → q ≡ refused e.number e.place
gone count (refused n p) {e} h =
    let i : n ≡ e.number = cc in
    let j : p ≡ e.place = cc in
    ap₂ (λ (n p : ℕ). refused n p) i j
gone count (read a m l) h = cc

pub no-steps : {A : Type 0} (q : Reading A) {c : Checked} → Ok c ≡ outcome no_steps q → c.steps ≡ 0
no-steps q h = sym (came no_steps q (sym h)).3

pub added_none : (k : ℕ) (a : Answer) → k ≡ 0 → a ≡ added k a
added_none k (Ok c) h = ap (found c.end) (omega arith)
added_none k (Err e) h = refl

pub added_twice : (i k : ℕ) (a : Answer) → added i (added k a) ≡ added (i + k) a
added_twice i k (Ok c) = ap (found c.end) (omega arith)
added_twice i k (Err e) = refl

-- where a reader ended that counts no more steps than it passes bytes
pub record Reached (p : Part) (c : Checked) : Type 0 where
  pub low : p.at ≤ c.end
  pub high : c.end ≤ p.at + length p.bytes.now
  pub pays : p.at + c.steps ≤ c.end

module _ {A : Type 0} {count : A → ℕ} {r : Reader A} (h : Steady 0 count r) where
  pub reaches : (p : Part) {c : Checked} → Ok c ≡ outcome count (of_part r p) → Reached p c
  reaches p e =
      let q = came count (of_part r p) (sym e) in
      let x = moved h q.2 in
      record { low = x.low; high = x.high; pays = omega (arith, x.has, q.3) }

  -- so its end is in the part; and in the one that this part is what is left of
  pub fits : (p : Part) {c : Checked} → Ok c ≡ outcome count (of_part r p) → (p.at ≤ c.end) × (c.end ≤ p.at + length p.bytes.now)
  fits p e = let x = reaches p e in (x.low, x.high)

  pub fits-on : (p q : Part) → p.at ≤ q.at → q.at + length q.bytes.now ≡ p.at + length p.bytes.now
      → {c : Checked} → Ok c ≡ outcome count (of_part r q) → (p.at ≤ c.end) × (c.end ≤ p.at + length p.bytes.now)
  fits-on p q low high e = let x = reaches q e in (omega (arith, x.low), omega (arith, x.high))

-- the steps alone tell readings apart
pub then-pure : {A B : Type 0} (count : B → ℕ) (g : A → B) (q : Reading A) → outcome count (after q (λ a m l. read (g a) m l)) ≡ outcome (λ a. count (g a)) q
then-pure count g (refused n p) = refl
then-pure count g (read a m l) = refl

pub then_same :
    {A B C : Type 0} (q : Reading A) (f : A → (m : ℕ) (l : List ℕ) → Reading B) (g : A → (m : ℕ) (l : List ℕ) → Reading C) (count : B → ℕ) (cost : C → ℕ) →
    ((a : A) (m : ℕ) (l : List ℕ) → outcome count (f a m l) ≡ outcome cost (g a m l)) →
    outcome count (after q f) ≡ outcome cost (after q g)
then_same (refused n p) f g count cost h = refl
then_same (read a m l) f g count cost h = h a m l

pub counts : {A : Type 0} (count : A → ℕ) (k : ℕ) (q : Reading A) → ((a : A) → count a ≡ k) → outcome count q ≡ counted k (outcome no_steps q)
counts count k (refused n p) h = refl
counts count k (read a m l) h = ap (found m) (h a)

pub counts-more : {A : Type 0} (k : ℕ) (q : Reading A) → counted k (outcome no_steps q) ≡ added k (outcome no_steps q)
counts-more k (refused n p) = refl
counts-more k (read a m l) = ap (found m) (omega arith)

-- one reader, and a second where it ended
pub then-onward : {A B C : Type 0} {r : Reader A} {k : ℕ} {cost : A → ℕ} → Steady k cost r → (q : Reader B) (steps : B → ℕ) (count : C → ℕ) (g : A → B → C)
    → ((a : A) (b : B) → count (g a b) ≡ cost a + steps b) → (start at : ℕ) (s : List ℕ)
    → outcome count ((r >>= λ a. q >>= λ b. pure (g a b)) start at s) ≡ checked_on steps q start at s (outcome cost (r start at s))
then-onward {A} {B} {C} {r} {k} {cost} h q steps count g w start at s = go (r start at s) refl
  where
    sums : (a : A) (i : Reading B) → outcome count (after i (λ b m l. read (g a b) m l)) ≡ added (cost a) (outcome steps i)
    sums a (refused n p) = refl
    sums a (read b m l) = ap (found m) (w a b)

    go : (i : Reading A) → r start at s ≡ i → outcome count (after i (λ a m l. after (q start m l) (λ b m l. read (g a b) m l))) ≡ checked_on steps q start at s (outcome cost i)
    go (refused n p) e = refl
    go (read a m l) e = sums a (q start m l) ∙ ap (λ (t : List ℕ). added (cost a) (outcome steps (q start m t))) ((moved h e).leaves ∙ sym (part-all (m - at) s))

module _ {A B : Type 0} {r : Reader A} {q : Reader B} {cost : A → ℕ} {steps : B → ℕ} (h : Steady 0 cost r) (i : Steady 0 steps q) where
  pub steady-pair : Steady 0 (λ (p : A × B). cost p.0 + steps p.1) (pair r q)
  unfolding pair
  steady-pair =
      record { keeps = λ file start at end. keeps-then (h.keeps file start at end) λ a m p. keeps-then (i.keeps file start m end) λ b to q. keeps-pure (a, b) (omega arith) }

  pub pair-onward : (start at : ℕ) (s : List ℕ) → outcome (λ (p : A × B). cost p.0 + steps p.1) (pair r q start at s) ≡ checked_on steps q start at s (outcome cost (r start at s))
  unfolding pair
  pair-onward start at s = then-onward h q steps (λ (p : A × B). cost p.0 + steps p.1) (λ a b. (a, b)) (λ a b. refl) start at s

pub pair_then :
    {A B C : Type 0} (r : Reader A) (q : Reader B) (f : A → B → Reader C) (start at : ℕ) (s : List ℕ) →
    (r >>= λ a. q >>= λ b. f a b) start at s ≡ (pair r q >>= λ p. f p.0 p.1) start at s
unfolding pair
pair_then {A} {B} {C} r q f start at s = go (r start at s)
  where
    again : (a : A) (i : Reading B) → after i (λ b. f a b start) ≡ after (after i (λ b m l. read (a, b) m l)) (λ (p : A × B). f p.0 p.1 start)
    again a (refused n p) = refl
    again a (read b m l) = refl

    go : (i : Reading A) → after i (λ a m l. after (q start m l) (λ b. f a b start)) ≡ after (after i (λ a m l. after (q start m l) (λ b m l. read (a, b) m l))) (λ (p : A × B). f p.0 p.1 start)
    go (refused n p) = refl
    go (read a m l) = again a (q start m l)

-- ---- a field that passes a test

pub steady-ranged : {k : ℕ} (test : ℕ → Bool) → Steady k no_steps (ranged test)
unfolding ranged
steady-ranged test = record { keeps = λ file start at end. keeps-field 2 (at + 2) _ refl (keeps-test _ λ _. keeps-pure _ (omega arith)) }

pub ranged-then : {A : Type 0} (test : ℕ → Bool) (f : ℕ → Reader A) (start at : ℕ) (s : List ℕ) → (field 2 >>= λ i. in_range (test i) >> f i) start at s ≡ (ranged test >>= f) start at s
unfolding ranged
ranged-then {A} test f start at s = go (field 2 start at s)
  where
    again : (i : ℕ) (u : Reading (Unit {0})) → after u (λ _. f i start) ≡ after (after u (λ _ m l. read i m l)) (λ j. f j start)
    again i (refused n p) = refl
    again i (read a m l) = refl

    go :
        (u : Reading ℕ) →
        after u (λ i m l. after (in_range (test i) start m l) (λ _. f i start))
        ≡ after (after u (λ i m l. after (in_range (test i) start m l) (λ _ m l. read i m l))) (λ j. f j start)
    go (refused n p) = refl
    go (read i m l) = again i (in_range (test i) start m l)

-- the record that s begins with, by its length and kind
pub child-ended : {A : Type 0} (count : A → ℕ) {body : ℕ → Reader A} (start at n kind : ℕ) (s : List ℕ) → Inner at body → Whole s n → kind ≡ kind_of s
    → outcome count (child body start at s) ≡ ended (at + n) (outcome count (body kind at (at + 4) (part 4 n s)))
unfolding child closed
child-ended {A} count {body} start at n kind s h w e = rw (w.is, w.size, e) (go (body (kind_of s) at (at + 4) (part 4 n s)) refl)
  where
    -- what was read of the body ends before the record does by as many bytes as are left
    ends : {a : A} {m : ℕ} {l : List ℕ} → body (kind_of s) at (at + 4) (part 4 n s) ≡ read a m l → m + length l ≡ at + n
    ends {m = m} i =
        let x = embedded (λ file end. h file (kind_of s) end) i in
        omega (arith, x.low, x.high, ap length x.leaves ∙ length-drop (m - (at + 4)) (part 4 n s), part_length 4 n s w.high, w.low)

    go : (q : Reading A) → body (kind_of s) at (at + 4) (part 4 n s) ≡ q → outcome count (closed (drop n s) q) ≡ ended (at + n) (outcome count q)
    go (refused m p) i = refl
    go (read a m []) i = let z : m ≡ at + n = omega (arith, ends i) in let v : at + n ≤ m = omega arith in rw (le-ltb m (at + n) v) (ap (λ (i : ℕ). found i (count a)) z)
    go (read a m (b ∷ bs)) i = let v : m < at + n = omega (arith, ends i) in rw (lt-ltb m (at + n) v)

-- the same of a record that comes in a part
pub child-opened : {A : Type 0} (count : A → ℕ) {body : ℕ → Reader A} (p : Part) (r : Record) → Inner p.at body → Opens p r
    → outcome count (of_part (child body) p) ≡ ended r.end (outcome count (of_part (body r.kind) r.body))
child-opened count p r h o =
    let s = p.bytes.now in
    rw (o.end, o.kind, o.start, o.at, o.bytes) (child-ended count p.start p.at (size_of s) (kind_of s) s h (whole-record s o.is) refl)

-- records that may lie so deep in one another, by what is read of their bodies with the levels that are left; n is the refusal of one
-- level too many
pub record Nested {A : Type 0} (n : ℕ) (r : (levels : ℕ) → Reader A) (body : (levels kind : ℕ) → Reader A) : Type 0 where
  pub none : r 0 ≡ child (λ _. refuse n)
  pub some : (levels : ℕ) → r (suc levels) ≡ child (body levels)

-- where no whole record comes, and where one comes and no level is left for it
module _ {A : Type 0} {n : ℕ} {r : (levels : ℕ) → Reader A} {body : (levels kind : ℕ) → Reader A} (h : Nested n r body) (start at : ℕ) (s : List ℕ) where
  pub bytes-short : (levels : ℕ) → whole s ≡ false → r levels start at s ≡ refused 2 at
  bytes-short zero w = rw h.none (child-short _ _ _ _ w)
  bytes-short (suc levels) w = rw h.some (child-short _ _ _ _ w)

  pub bytes-deep : (levels : ℕ) → levels ≡ 0 → whole s ≡ true → r levels start at s ≡ refused n at
  unfolding refuse
  bytes-deep levels e w = rw (e, h.none) (child-refuses _ _ _ _ _ _ w refl)

-- of a part
module _ {A : Type 0} (count : A → ℕ) {n : ℕ} {r : (levels : ℕ) → Reader A} {body : (levels kind : ℕ) → Reader A} (h : Nested n r body) (p : Part) where
  pub nested-short : (levels : ℕ) → whole p.bytes.now ≡ false → outcome count (of_part (r levels) p) ≡ refused_at 2 p.at
  nested-short levels w = ap (outcome count) (bytes-short h p.start p.at p.bytes.now levels w)

  pub nested-deep : (levels : ℕ) → levels ≡ 0 → whole p.bytes.now ≡ true → outcome count (of_part (r levels) p) ≡ refused_at n p.at
  nested-deep levels e w = ap (outcome count) (bytes-deep h p.start p.at p.bytes.now levels e w)

  pub nested-ended : (levels : ℕ) → (levels ≡ 0 → ⊥) → ((l : ℕ) → Inner p.at (body l)) → (q : Record) → Opens p q
      → outcome count (of_part (r levels) p) ≡ ended q.end (outcome count (of_part (body (levels - 1) q.kind) q.body))
  nested-ended zero e i q o = absurd (e refl)
  nested-ended (suc levels) e i q o = rw (h.some, sub-one) (child-opened count p q (i levels) o)

-- a record that is not opened
pub nested-unopened : {A : Type 0} (count : A → ℕ) {r : (levels : ℕ) → Reader A} {body : (levels kind : ℕ) → Reader A} → Nested 5 r body
    → (p : Part) (levels : ℕ) {e : Fault} → Unopened p levels e → Err e ≡ outcome count (of_part (r levels) p)
nested-unopened count h p levels (inl u) = rw u.1 (sym (nested-short count h p levels u.0))
nested-unopened count h p levels (inr u) = rw u.2 (sym (nested-deep count h p levels u.0 u.1))

-- no bytes on
pub none-on : {A : Type 0} (count : A → ℕ) (r : Reader A) (start at : ℕ) (s : List ℕ) → outcome count (r start at s) ≡ outcome count (r start (at + 0) (drop 0 s))
none-on count r start at s = let z : at ≡ at + 0 = omega arith in ap (λ (at : ℕ). outcome count (r start at s)) z

-- a field of two bytes that was read is there
pub ranged-present : (start at : ℕ) (s : List ℕ) {c : Checked} → outcome no_steps (field 2 start at s) ≡ Ok c → 2 ≤ length s
unfolding field
ranged-present start at s {c} h = go (has 2 s) refl h
  where
    go : (b : Bool) → has 2 s ≡ b → outcome no_steps (if b then read (number (take 2 s)) (at + 2) (drop 2 s) else refused 2 at) ≡ Ok c → 2 ≤ length s
    go true e h = has-length 2 s e
    go false e h = cc

-- what a test makes of it
module _ (test : ℕ → Bool) (start at : ℕ) (s : List ℕ) where
  pub ranged-refused : {e : Fault} → outcome no_steps (field 2 start at s) ≡ Err e → outcome no_steps (ranged test start at s) ≡ Err e
  unfolding ranged
  ranged-refused {e} h = rw (gone no_steps (field 2 start at s) h)

  pub ranged-good : {c : Checked} → outcome no_steps (field 2 start at s) ≡ Ok c → test (number (take 2 s)) ≡ true → outcome no_steps (ranged test start at s) ≡ Ok c
  unfolding ranged field in_range
  ranged-good {c} h g =
      let p = has_all 2 s (ranged-present start at s h) in
      let e : outcome no_steps (field 2 start at s) ≡ found (at + 2) 0 = rw p in
      rw (p, g) (sym e ∙ h)

  pub ranged-bad : {c : Checked} → outcome no_steps (field 2 start at s) ≡ Ok c → test (number (take 2 s)) ≡ false → outcome no_steps (ranged test start at s) ≡ refused_at 4 start
  unfolding ranged field in_range refuse
  ranged-bad {c} h g = rw (has_all 2 s (ranged-present start at s h), g)

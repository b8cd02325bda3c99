-- Laws of fields in a row: a reader of fields as a row of answers, then what was read.
use Rattle.std.specs.Prelude.{if◌then◌else◌}
use Prim.Native.Nat.{ℕ, zero, suc, ◌+◌, ◌-◌, ◌*◌, ◌≤◌, ◌<◌}
use mathlib.Core.Path.{◌≡◌, refl, sym, ap, ap₂, ◌∙◌}
use mathlib.Core.Bool.{Bool, true, false, ◌&&◌}
use mathlib.Core.List.{List, [], ◌∷◌}
use native.Mathlib.Omega.{arith}
use lib.Dec.{eqb, ltb, leb}
use borrow.Author.Tests.{ltb-true, ltb-false}
use lib.ListN.{length, get_or, take, drop, length-drop}
use lib.Seq.{drop-cons, drop-drop}
use Rattle.std.proofs.lemmas.List.{get_or-drop}
use Rattle.rules.specs.declared.Fields.{Fields}
use Rattle.rules.specs.Basics.{has, number, padded}
use Rattle.rules.specs.Reading.{Reading, refused, read, after, refuse, in_range, field, fields, zero_byte, fields_body}
use Rattle.std.specs.Prelude.{cond, Some, Result, Ok, Err}
use Rattle.std.specs.Ordering.{nat_cmp, partial_le, partial_lt}
use borrow.Author.Rules.{rules}
use Rattle.std.specs.Result.{result_and}
use Rattle.records.specs.declared.fault.Fault.{Fault}
use Rattle.records.specs.declared.answers.Checked.{Checked}
use Rattle.records.specs.Checking.{fault_at}
use Rattle.records.specs.Checking.{Answer, outcome, found, refused_at, no_steps}
use Rattle.grammar.proofs.Bytes.{has_all, has-length}
use Rattle.grammar.proofs.Keeping.{embedded}
use Rattle.grammar.proofs.Agreements.{in-body, from-body, fields-keep}
use Rattle.records.proofs.Parts.{has-few}
use Rattle.records.proofs.Readers.{then-pure}
use Rattle.files.specs.FieldAnswers.{value_at, field_answer}

-- ---- answers in a row

-- q, unless c refused
unfoldable pub tested : {A : Type 0} → Result (Unit {0}) Fault → Reading A → Reading A
tested (Ok u) q = q
tested (Err e) q = refused e.number e.place

pub outcome-tested : {A : Type 0} (count : A → ℕ) (c : Result (Unit {0}) Fault) (q : Reading A) → outcome count (tested c q) ≡ result_and c (outcome count q)
unfolding tested
outcome-tested count (Ok u) q = refl
outcome-tested count (Err e) q = refl

pub after-tested : {A B : Type 0} (c : Result (Unit {0}) Fault) (q : Reading A) (f : A → (m : ℕ) (l : List ℕ) → Reading B) → after (tested c q) f ≡ tested c (after q f)
unfolding tested
after-tested (Ok u) q f = refl
after-tested (Err e) q f = refl

pub and-twice : {A : Type 0} (c d : Result (Unit {0}) Fault) (e : Result A Fault) → result_and (result_and c d) e ≡ result_and c (result_and d e)
and-twice (Ok u) d e = refl
and-twice (Err x) d e = refl

-- ---- what stands at a place

module _ (n i : ℕ) (b : List ℕ) where
  pub is-there : i + n ≤ length b → has n (drop i b) ≡ true
  is-there h = has_all n (drop i b) (omega (arith, length-drop i b))

  pub is-short : 0 < n → length b < i + n → has n (drop i b) ≡ false
  is-short p h = has-few n (drop i b) (omega (arith, length-drop i b))

  pub value_there : i + n ≤ length b → number (take n (drop i b)) ≡ value_at n i b
  unfolding value_at
  value_there h = rw (is-there h)

  pub value-short : 0 < n → length b < i + n → 0 ≡ value_at n i b
  unfolding value_at
  value-short p h = rw (is-short p h)

byte-there : (i : ℕ) (b : List ℕ) → i < length b → get_or b i 0 ≡ value_at 1 i b
unfolding number
byte-there i b h =
    let p : get_or b i 0 ≡ number (take 1 (drop i b)) = rw (drop-cons b i 0 h) (omega arith) in
    p ∙ value_there 1 i b (omega arith)

pub byte-is : (i : ℕ) (b : List ℕ) → get_or b i 0 ≡ value_at 1 i b
byte-is i b = go (ltb i (length b)) refl
  where
    past : (i : ℕ) (b : List ℕ) → length b ≤ i → get_or b i 0 ≡ 0
    past i [] h = refl
    past zero (x ∷ xs) h = absurd (omega arith)
    past (suc i) (x ∷ xs) h = past i xs (omega arith)

    go : (t : Bool) → ltb i (length b) ≡ t → get_or b i 0 ≡ value_at 1 i b
    go true e = byte-there i b (ltb-true _ _ e)
    go false e = let h = ltb-false i (length b) e in past i b h ∙ value-short 1 i b (omega arith) (omega arith)

-- what `contains` answers at a..=b
pub within : {a b s e : ℕ} {spent : Bool} (x : ℕ) → s ≡ a → e ≡ b → spent ≡ false
    → (partial_le (λ x y. Some (nat_cmp x y)) s x && cond spent (partial_lt (λ x y. Some (nat_cmp x y)) x e) (partial_le (λ x y. Some (nat_cmp x y)) x e)) ≡ (leb a x && leb x b)
within x start end whole = rw (start, end, whole) (search rules)

-- ---- one field

-- what goes on from a value read
abbrev pub Then : Type 0 → Type 0
Then A = ℕ → (at : ℕ) (left : List ℕ) → Reading A

module _ (n i start at : ℕ) (body : List ℕ) where
  abbrev value : ℕ
  value = number (take n (drop i body))

  -- what is read of it, what is answered and its value, where it is there and where it is not
  field-cases : (P : Reading ℕ → (Bool → Result (Unit {0}) Fault) → ℕ → Type 0)
      → (has n (drop i body) ≡ true → P (read value (at + i + n) (drop n (drop i body))) (λ good. if good then Ok tt else Err (fault_at 4 start)) value)
      → P (refused 2 (at + i)) (λ _. Err (fault_at 2 (at + i))) 0
      → P (field n start (at + i) (drop i body)) (field_answer n i start at body) (value_at n i body)
  unfolding field field_answer value_at
  field-cases P there short = go (has n (drop i body)) refl
    where
      go : (b : Bool) → has n (drop i body) ≡ b
          → P (if b then read value (at + i + n) (drop n (drop i body)) else refused 2 (at + i))
          (λ good. if b then (if good then Ok tt else Err (fault_at 4 start)) else Err (fault_at 2 (at + i))) (if b then value else 0)
      go true e = there e
      go false e = short

  ends : i ≤ length body → has n (drop i body) ≡ true → i + n ≤ length body
  ends h e = omega (arith, has-length n (drop i body) e, length-drop i body)

  module _ {A : Type 0} where
    -- what goes on from its value
    abbrev next : Then A → Reading A → Type 0
    next f r = i + n ≤ length body → f (value_at n i body) (at + (i + n)) (drop (i + n) body) ≡ r

    from-value : (f : Then A) → f value (at + i + n) (drop n (drop i body)) ≡ f value (at + (i + n)) (drop (i + n) body)
    from-value f = ap₂ (f value) (omega arith) (drop-drop n i body)

    -- a field that passes a test, and what comes after it, where the field is there
    pub field_step : i ≤ length body → (test : ℕ → Bool) (f : Then A) {r : Reading A} → next f r
        → after (field n start (at + i) (drop i body)) (λ x m l. after (in_range (test x) start m l) (λ _. f x))
        ≡ tested (field_answer n i start at body (test (value_at n i body))) r
    unfolding in_range refuse tested
    field_step h test f {r} =
        field-cases
        (λ q a v. (i + n ≤ length body → f v (at + (i + n)) (drop (i + n) body) ≡ r) → after q (λ x m l. after (in_range (test x) start m l) (λ _. f x)) ≡ tested (a (test v)) r)
        (λ e k. ranged (test value) (from-value f ∙ k (ends h e))) (λ k. refl)
      where
        ranged : (t : Bool) → f value (at + i + n) (drop n (drop i body)) ≡ r
            → after (in_range t start (at + i + n) (drop n (drop i body))) (λ _. f value) ≡ tested (if t then Ok tt else Err (fault_at 4 start)) r
        ranged true e = e
        ranged false e = refl

    -- a field of any value
    pub plain_step : i ≤ length body → (f : Then A) {r : Reading A} → next f r
        → after (field n start (at + i) (drop i body)) f ≡ tested (field_answer n i start at body true) r
    unfolding tested
    plain_step h f {r} =
        field-cases (λ q a v. (i + n ≤ length body → f v (at + (i + n)) (drop (i + n) body) ≡ r) → after q f ≡ tested (a true) r)
        (λ e k. from-value f ∙ k (ends h e)) (λ k. refl)

  -- what is answered of a field, by what is read of it
  pub field-refused : (good : Bool) {e : Fault} → Err e ≡ outcome no_steps (field n start (at + i) (drop i body)) → Err e ≡ field_answer n i start at body good
  field-refused good {e} = field-cases (λ q a _. Err e ≡ outcome no_steps q → Err e ≡ a good) (λ _ h. cc) (λ h. cc)

  pub field-present : {c : Checked} → Ok c ≡ outcome no_steps (field n start (at + i) (drop i body)) → has n (drop i body) ≡ true
  field-present {c} = field-cases (λ q _ _. Ok c ≡ outcome no_steps q → has n (drop i body) ≡ true) (λ e _. e) (λ h. cc)

  -- where the last of a row of fields was found
  pub found-there : (good : Bool) → 0 < n → (c : Result (Unit {0}) Fault) {d : Result (Unit {0}) Fault} {u : Unit {0}}
      → d ≡ field_answer n i start at body good → Ok u ≡ result_and c d → i + n ≤ length body
  found-there good p (Err e) x h = cc
  found-there good p (Ok v) {d} {u} x h =
      field-cases (λ _ a _. Ok u ≡ a good → i + n ≤ length body) (λ e _. omega (arith, has-length n (drop i body) e, length-drop i body)) (λ h. cc) (h ∙ x)

-- a zero byte
pub zero-step :
    {A : Type 0} (i start at : ℕ) (body : List ℕ) → i ≤ length body → (f : (at : ℕ) (left : List ℕ) → Reading A) {r : Reading A} →
    (i + 1 ≤ length body → f (at + (i + 1)) (drop (i + 1) body) ≡ r) →
    after (zero_byte start (at + i) (drop i body)) (λ _. f) ≡ tested (field_answer 1 i start at body (eqb (value_at 1 i body) 0)) r
unfolding zero_byte
zero-step {A} i start at body h f k = go (field 1 start (at + i) (drop i body)) ∙ field_step 1 i start at body h (λ z. eqb z 0) (λ _. f) k
  where
    go : (q : Reading ℕ) → after (after q (λ z. in_range (eqb z 0) start)) (λ _. f) ≡ after q (λ z m l. after (in_range (eqb z 0) start m l) (λ _. f))
    go (refused n p) = refl
    go (read z m l) = refl

-- ---- fields of four bytes

module _ (start at : ℕ) (body : List ℕ) where
  -- the answer on k of them from i on
  abbrev pub words_answer : (k i : ℕ) → Answer
  words_answer k i = outcome no_steps (fields k 4 start (at + i) (drop i body))

  words-none : (i : ℕ) → words_answer 0 i ≡ found (at + i) 0
  unfolding fields
  words-none i = refl

  -- the first of them, and the others
  words_more : (k i : ℕ) → i ≤ length body → words_answer (suc k) i ≡ result_and (field_answer 4 i start at body true) (words_answer k (i + 4))
  unfolding fields
  words_more k i h =
      ap (outcome no_steps) (plain_step 4 i start at body h (λ x m l. after (fields k 4 start m l) (λ xs m l. read (x ∷ xs) m l)) (λ _. refl))
      ∙ outcome-tested no_steps (field_answer 4 i start at body true) _
      ∙ ap (result_and (field_answer 4 i start at body true)) (then-pure no_steps (λ xs. value_at 4 i body ∷ xs) (fields k 4 start (at + (i + 4)) (drop (i + 4) body)))

  -- the next of them is there, or not
  words-next : (k j i : ℕ) → k ≡ suc j → i + 4 ≤ length body → words_answer k i ≡ words_answer j (i + 4)
  unfolding field_answer
  words-next k j i e h = ap (λ (k : ℕ). words_answer k i) e ∙ words_more j i (omega arith) ∙ rw (is-there 4 i body h)

  words-short : (k j i : ℕ) → k ≡ suc j → i ≤ length body → length body < i + 4 → words_answer k i ≡ refused_at 2 (at + i)
  unfolding field_answer
  words-short k j i e l h = ap (λ (k : ℕ). words_answer k i) e ∙ words_more j i l ∙ rw (is-short 4 i body (omega arith) h)

  -- all of them are there, or j of them are
  pub words-all : (k i : ℕ) → i + 4 * k ≤ length body → words_answer k i ≡ found (at + i + 4 * k) 0
  words-all zero i h = words-none i ∙ ap (λ (m : ℕ). found m 0) (omega arith)
  words-all (suc k) i h = words-next (suc k) k i refl (omega arith) ∙ words-all k (i + 4) (omega arith) ∙ ap (λ (m : ℕ). found m 0) (omega arith)

  pub words-cut : (j k i : ℕ) → j < k → i + 4 * j ≤ length body → length body < i + 4 * j + 4 → words_answer k i ≡ refused_at 2 (at + i + 4 * j)
  words-cut zero k i p l h = words-short k (k - 1) i (omega arith) (omega arith) (omega arith) ∙ ap (refused_at 2) (omega arith)
  words-cut (suc j) k i p l h =
      words-next k (k - 1) i (omega arith) (omega arith) ∙ words-cut j (k - 1) (i + 4) (omega arith) (omega arith) (omega arith) ∙ ap (refused_at 2) (omega arith)

-- ---- the agreement's fields

module _ (start at : ℕ) (b : List ℕ) where
  -- the answers on the fields before the balances
  abbrev good : ℕ → ℕ → Bool → Result (Unit {0}) Fault
  good n i t = field_answer n i start at b t

  abbrev byte : ℕ → ℕ
  byte i = value_at 1 i b

  abbrev half : ℕ
  half = value_at 2 6 b

  abbrev word : ℕ
  word = value_at 4 8 b

  abbrev heads : {A : Type 0} → (Result (Unit {0}) Fault → A → A) → A → A
  heads f x =
      f (good 1 0 (leb 1 (byte 0) && leb (byte 0) 64))
      (f (good 1 1 (leb (byte 1) 16))
      (f (good 1 2 (leb 1 (byte 2) && leb (byte 2) 8))
      (f (good 1 3 (ltb (byte 3) (byte 0)))
      (f (good 1 4 (leb (byte 4) 8))
      (f (good 1 5 (eqb (byte 5) 0))
      (f (good 2 6 (leb 1 half && leb half 4096))
      (f (good 4 8 (leb 1 word && leb word 1_000_000)) x)))))))

  abbrev made : List ℕ → Fields
  made xs =
      record {
        states = byte 0;
        variables = byte 1;
        accounts = byte 2;
        start = byte 3;
        depth = byte 4;
        limit = half;
        bound = word;
        opening = padded 8 xs;
      }

  balances : Reading Fields
  balances = after (fields (byte 2) 4 start (at + 12) (drop 12 b)) (λ xs m l. read (made xs) m l)

  fields-row : fields_body start at b ≡ heads tested balances
  unfolding fields_body balances
  fields-row =
      let z : at ≡ at + 0 = omega arith in
      ap (λ (at : ℕ). fields_body start at b) z
      ∙ field_step 1 0 start at b (omega arith) _ _ λ h. field_step 1 1 start at b h _ _ λ h. field_step 1 2 start at b h _ _ λ h.
      field_step 1 3 start at b h _ _ λ h. field_step 1 4 start at b h _ _ λ h. zero-step 5 start at b h _ λ h.
      field_step 2 6 start at b h _ _ λ h. field_step 4 8 start at b h _ _ λ _. refl

  -- the check's answers one after another
  abbrev pub fields_answers : Result (Unit {0}) Fault
  fields_answers =
      result_and (result_and (result_and (result_and (result_and (result_and (result_and (good 1 0 (leb 1 (byte 0) && leb (byte 0) 64))
      (good 1 1 (leb (byte 1) 16)))
      (good 1 2 (leb 1 (byte 2) && leb (byte 2) 8)))
      (good 1 3 (ltb (byte 3) (byte 0))))
      (good 1 4 (leb (byte 4) 8)))
      (good 1 5 (eqb (byte 5) 0)))
      (good 2 6 (leb 1 half && leb half 4096)))
      (good 4 8 (leb 1 word && leb word 1_000_000))

  pub fields-answer : outcome no_steps (fields_body start at b) ≡ result_and fields_answers (words_answer start at b (byte 2) 12)
  unfolding balances
  fields-answer =
      let p : outcome no_steps (fields_body start at b) ≡ heads result_and (outcome no_steps balances) = ap (outcome no_steps) fields-row ∙ simp outcome-tested in
      let q : result_and fields_answers (words_answer start at b (byte 2) 12) ≡ heads result_and (words_answer start at b (byte 2) 12) = simp and-twice in
      p ∙ ap (heads result_and) (then-pure no_steps made (fields (byte 2) 4 start (at + 12) (drop 12 b))) ∙ sym q

-- how many states, variables and accounts those have that were read
pub fields-are : (start at : ℕ) (b : List ℕ) {f : Fields} {m : ℕ} {l : List ℕ} → fields_body start at b ≡ read f m l
    → (f.states ≡ value_at 1 0 b) × (f.variables ≡ value_at 1 1 b) × (f.accounts ≡ value_at 1 2 b)
fields-are start at b h =
    let x = embedded (λ file end. from-body (fields-keep file (λ k. at + (k - 4)) (in-body at) start end)) h in
    let byte : (i : ℕ) → get_or x.file (at + i) 0 ≡ value_at 1 i b = λ i. sym (get_or-drop at x.file i 0) ∙ ap (λ (s : List ℕ). get_or s i 0) x.here ∙ byte-is i b in
    (ap (λ (f : Fields). f.states) x.has.is ∙ byte 0, ap (λ (f : Fields). f.variables) x.has.is ∙ byte 1, ap (λ (f : Fields). f.accounts) x.has.is ∙ byte 2)

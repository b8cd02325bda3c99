-- The walk over an agreement: its fields with their ranges, its actions, and its transitions, call rows and rules, each record by record.
use Prim.Native.Nat.{ℕ, zero, suc, ◌+◌, ◌-◌, ◌*◌, ◌≤◌, ◌<◌}
use mathlib.Core.Path.{◌≡◌, refl, sym, ap, subst, ◌∙◌}
use mathlib.Core.Bool.{Bool, true, false, ◌&&◌, false≢true}
use mathlib.Core.List.{List, [], ◌∷◌, map}
use native.Mathlib.Omega.{arith}
use lib.Dec.{eqb, ltb, leb}
use lib.ListN.{length, get_or, take, drop, replicate, length-append, length-replicate}
use lib.Seq.{drop_at}
use borrow.Author.Tests.{ltb-true, leb-true, eqb-true, eqb-false}
use Rattle.rules.specs.declared.Call.{Call}
use Rattle.rules.specs.declared.Fields.{Fields}
use Rattle.rules.specs.Basics.{choose, any, padded, has, part, number}
use Rattle.rules.specs.Syntax.{Expr, Transition, Rule, always, not_after, only_after, Agreement}
use Rattle.rules.specs.Reading.{read, Reader, ◌>>=◌, ◌>>◌, pure, here, in_range, field, zero_byte, kind_of, is_empty, child, comes, group, no_more, named}
use Rattle.rules.specs.Reading.{expression, statement, transition_body, rule_body, row_body, fields_body, agreement_body}
use Rattle.rules.specs.Values.{is_true}
use Rattle.rules.specs.Demands.{All, none, more}
use Rattle.laws.proofs.Basics.{both-true}
use Rattle.grammar.specs.Numbers.{numbers_at}
use Rattle.grammar.proofs.Bytes.{part_length}
use Rattle.grammar.proofs.Keeping.{Keeps, Stored, keeps-pure, keeps-within, keeps-case, keeps-test, keeps-look, keeps-self, keeps-here, keeps-then, keeps-seen}
use Rattle.grammar.proofs.Keeping.{keeps-as, keeps-field, keeps-byte, keeps-fields, keeps-zero, keeps-record, keeps-never}
use Rattle.grammar.proofs.Statements.{Statement, expression-keeps, statement-keeps}

-- ---- the fields

-- the ranges of the fields that proofs go by, and what reading makes of the opening balances
pub record Bounded (f : Fields) : Type 0 where
  pub few-states : f.states ≤ 64
  pub few-variables : f.variables ≤ 16
  pub some-account : 1 ≤ f.accounts
  pub few-accounts : f.accounts ≤ 8
  pub start-state : f.start < f.states
  pub small-depth : f.depth ≤ 8
  pub opening-eight : length f.opening ≡ 8
  pub opening-unused : any is_true (drop f.accounts f.opening) ≡ false

between : (a x b : ℕ) → (leb a x && leb x b) ≡ true → (a ≤ x) × (x ≤ b)
between a x b e = let h = both-true (leb a x) (leb x b) e in (leb-true a x h.0, leb-true x b h.1)

pub zeros-false : (n : ℕ) → any is_true (replicate n 0) ≡ false
unfolding any is_true
zeros-false zero = refl
zeros-false (suc n) = zeros-false n

padded-eight : (xs : List ℕ) → length xs ≤ 8 → length (padded 8 xs) ≡ 8
unfolding padded
padded-eight xs h = let e = length-replicate {A = ℕ} (8 - length xs) 0 in length-append xs (replicate (8 - length xs) 0) ∙ omega arith

padded-unused : (n : ℕ) (xs : List ℕ) → length xs ≡ n → any is_true (drop n (padded 8 xs)) ≡ false
unfolding padded
padded-unused n xs e = rw (drop_at xs (replicate (8 - length xs) 0) n e) (zeros-false (8 - length xs))

pub numbers-length : (k b : ℕ) (s : List ℕ) → length (numbers_at k b s) ≡ k
unfolding numbers_at
numbers-length zero b s = refl
numbers-length (suc k) b s = ap suc (numbers-length k (b + 4) s)

-- o k is the offset of a record's byte k; its body begins with byte 4
abbrev pub Offsets : (ℕ → ℕ) → Type 0
Offsets o = (k n : ℕ) → o (4 + k + n) ≡ o (4 + k) + n

-- the record begins at `at`
in-record : (at : ℕ) → Offsets (λ k. at + k)
in-record at k n = omega arith

-- the body begins at b, wherever its record does
pub in-body : (b : ℕ) → Offsets (λ k. b + (k - 4))
in-body b k n = omega arith

pub from-body : {file : List ℕ} {A : Type 0} {start b end : ℕ} {r : Reader A} {P : A → ℕ → Type 0} → Keeps file start (b + (4 - 4)) end r P
    → Keeps file start b end r P
from-body {file} {start = start} {b = b} {end = end} {r = r} {P = P} = let z : b + (4 - 4) ≡ b = omega arith in subst (λ (k : ℕ). Keeps file start k end r P) z

module _ (file : List ℕ) where
  -- the fields, by their bytes; `to` is where they end
  pub record FieldsAt (o : ℕ → ℕ) (f : Fields) (to : ℕ) : Type 0 where
    pub is :
        f ≡ record {
          states = get_or file (o 4) 0;
          variables = get_or file (o 5) 0;
          accounts = get_or file (o 6) 0;
          start = get_or file (o 7) 0;
          depth = get_or file (o 8) 0;
          limit = number (take 2 (drop (o 10) file));
          bound = number (take 4 (drop (o 12) file));
          opening = padded 8 (numbers_at (get_or file (o 6) 0) (o 16) file);
        }
    pub bounded : Bounded f
    pub goes : to ≡ o 16 + 4 * f.accounts
    pub fits : to ≤ length file

  pub fields-keep : (o : ℕ → ℕ) → Offsets o → (start end : ℕ) → Keeps file start (o 4) end fields_body (FieldsAt o)
  unfolding fields_body
  fields-keep o h start end =
      let A = get_or file (o 6) 0 in
      keeps-byte (o 5) _ (h 0 1) (keeps-test _ λ hS.
      keeps-byte (o 6) _ (h 1 1) (keeps-test _ λ hv.
      keeps-byte (o 7) _ (h 2 1) (keeps-test _ λ hA.
      keeps-byte (o 8) _ (h 3 1) (keeps-test _ λ hs.
      keeps-byte (o 9) _ (h 4 1) (keeps-test _ λ hd.
      keeps-zero (o 10) (h 5 1)
      (keeps-field 2 (o 12) _ (h 6 2) (keeps-test _ λ _.
      keeps-field 4 (o 16) _ (h 8 4) (keeps-test _ λ _.
      keeps-fields A _
      (keeps-within λ low high. keeps-pure _
      (let few = between 1 A 8 hA in
      let l = numbers-length A (o 16) file in
      record {
        is = refl;
        bounded = record {
          few-states = (between 1 (get_or file (o 4) 0) 64 hS).1;
          few-variables = leb-true _ 16 hv;
          some-account = few.0;
          few-accounts = few.1;
          start-state = ltb-true _ _ hs;
          small-depth = leb-true _ 8 hd;
          opening-eight = padded-eight (numbers_at A (o 16) file) (omega arith);
          opening-unused = padded-unused A (numbers_at A (o 16) file) l;
        };
        goes = refl;
        fits = omega arith;
      }))))))))))

  -- ---- members

  -- a transition, whose record begins at `start`
  pub record TransitionAt (vars S start : ℕ) (o : ℕ → ℕ) (t : Transition) (end : ℕ) : Type 0 where
    pub placed : t.at ≡ start
    pub name : t.name ≡ get_or file (o 4) 0
    pub from : t.from ≡ get_or file (o 5) 0
    pub to : t.to ≡ get_or file (o 6) 0
    pub guard_at : t.guard_at ≡ o 8
    pub from_state : t.from < S
    pub to_state : t.to < S
    pub mid : ℕ
    pub guard : Stored file (expression vars false 14) t.guard_at t.guard mid
    pub action : Stored file (statement vars 14) mid t.action end
    pub sound : Statement file vars 14 mid t.action end
    pub fits : o 12 ≤ length file

  pub transition-keeps : (vars S : ℕ) (o : ℕ → ℕ) → Offsets o → (start end : ℕ)
      → Keeps file start (o 4) end (transition_body vars S) (TransitionAt vars S start o)
  unfolding transition_body
  transition-keeps vars S o h start end =
      keeps-self
      (λ a. do
        n ← field 1
        f ← field 1
        in_range (ltb f S)
        t ← field 1
        in_range (ltb t S)
        zero_byte
        g ← here
        x ← expression vars false 14
        y ← statement vars 14
        pure (record { at = a; name = n; from = f; to = t; guard_at = g; guard = x; action = y }))
      (keeps-byte (o 5) _ (h 0 1)
      (keeps-byte (o 6) _ (h 1 1) (keeps-test _ λ hf.
      keeps-byte (o 7) _ (h 2 1) (keeps-test _ λ ht.
      keeps-zero (o 8) (h 3 1)
      (keeps-here (Stored file (expression vars false 14)) _ (expression-keeps file vars false 14 _ _ _) λ g x m ig hx.
      keeps-then (statement-keeps file vars 14 _ _ _) λ y to hy.
      keeps-pure (record { at = start; name = _; from = _; to = _; guard_at = g; guard = x; action = y })
      (record {
        placed = refl;
        name = refl;
        from = refl;
        to = refl;
        guard_at = ig;
        from_state = ltb-true _ _ hf;
        to_state = ltb-true _ _ ht;
        mid = m;
        guard = hx;
        action = hy.0;
        sound = hy.1;
        fits = omega (arith, h 4 4, hx.four, hx.fits);
      }))))))

  pub record RowAt (A : ℕ) (o : ℕ → ℕ) (k : Call) : Type 0 where
    pub is :
        k ≡ record {
          name = get_or file (o 4) 0;
          sender = get_or file (o 5) 0;
          coins = number (take 4 (drop (o 8) file));
          arguments =
              number (take 4 (drop (o 12) file)) ∷ number (take 4 (drop (o 16) file)) ∷ number (take 4 (drop (o 20) file)) ∷ number (take 4 (drop (o 24) file)) ∷ [];
        }
    pub sender_in : k.sender < A
    pub fits : o 28 ≤ length file

  pub row-keeps : (A : ℕ) (o : ℕ → ℕ) → Offsets o → (start end : ℕ) → Keeps file start (o 4) end (row_body A) (λ k _. RowAt A o k)
  unfolding row_body numbers_at
  row-keeps A o h start end =
      keeps-byte (o 5) _ (h 0 1)
      (keeps-byte (o 6) _ (h 1 1) (keeps-test _ λ hs.
      keeps-zero (o 7) (h 2 1)
      (keeps-zero (o 8) (h 3 1)
      (keeps-field 4 (o 12) _ (h 4 4)
      (keeps-fields 4 _ (keeps-within λ low high.
      keeps-pure _ (record { is = rw (h 16 4, h 12 4, h 8 4); sender_in = ltb-true _ _ hs; fits = omega (arith, h 8 16) })))))))

  -- a rule by its type and its p and q: type 1 has these zero, and an expression
  pub data RuleBy (vars : ℕ) (o : ℕ → ℕ) (type p q : ℕ) : Rule → Type 0 where
    one : {e : Expr} {to : ℕ} → type ≡ 1 → p ≡ 0 → q ≡ 0 → Stored file (expression vars true 14) (o 8) e to → RuleBy vars o type p q (always e)
    two : type ≡ 2 → RuleBy vars o type p q (not_after p q)
    three : type ≡ 3 → RuleBy vars o type p q (only_after p q)

  pub record RuleAt (vars : ℕ) (o : ℕ → ℕ) (r : Rule) : Type 0 where
    pub by : RuleBy vars o (number (take 2 (drop (o 4) file))) (get_or file (o 6) 0) (get_or file (o 7) 0) r
    pub fits : o 8 ≤ length file

  last-type : (t : ℕ) → (leb 1 t && leb t 3) ≡ true → eqb t 1 ≡ false → eqb t 2 ≡ false → t ≡ 3
  last-type t h i j = go (between 1 t 3 h) (eqb-false t 1 i) (eqb-false t 2 j)
    where
      go : (1 ≤ t) × (t ≤ 3) → (t ≡ 1 → ⊥) → (t ≡ 2 → ⊥) → t ≡ 3
      go b k l = omega (arith, b.0, b.1)

  unnamed : (names : List ℕ) (t p : ℕ) → eqb t 1 ≡ true → named names t p ≡ true → p ≡ 0
  unfolding named
  unnamed names t p i h = eqb-true p 0 (rw i at h)

  pub rule-keeps : (vars : ℕ) (names : List ℕ) (o : ℕ → ℕ) → Offsets o → (start end : ℕ)
      → Keeps file start (o 4) end (rule_body vars names) (λ r _. RuleAt vars o r)
  unfolding rule_body choose
  rule-keeps vars names o h start end =
      let t = number (take 2 (drop (o 4) file)) in
      keeps-field 2 (o 6) _ (h 0 2) (keeps-test _ λ ht.
      keeps-byte (o 7) _ (h 2 1) (keeps-test _ λ hp.
      keeps-byte (o 8) _ (h 3 1) (keeps-test _ λ hq.
      keeps-within λ low high.
      keeps-case (eqb t 1)
      (λ i. keeps-then (expression-keeps file vars true 14 _ _ _) λ x to hx.
      keeps-pure (always x) (record { by = one (eqb-true t 1 i) (unnamed names t _ i hp) (unnamed names t _ i hq) hx; fits = omega arith }))
      (λ i. keeps-case (eqb t 2)
      (λ j. keeps-pure _ (record { by = two (eqb-true t 2 j); fits = omega arith }))
      (λ j. keeps-pure _ (record { by = three (last-type t ht i j); fits = omega arith }))))))

  -- ---- groups

  -- whether a child of this kind comes in a record that ends at `end`
  unfoldable pub comes_in : (end kind at : ℕ) → Bool
  comes_in end kind at = has 4 (part at end file) && eqb (kind_of (part at end file)) kind

  -- children of one kind in a row, `most` at the most, of each of which P is known; and no more after them
  pub data Row {A : Type 0} (end kind : ℕ) (body : Reader A) (P : ℕ → A → ℕ → Type 0) : (most at : ℕ) → List A → (to : ℕ) → Type 0 where
    done : {most at : ℕ} → comes_in end kind at ≡ false → Row end kind body P most at [] at
    member : {most at m to : ℕ} {x : A} {xs : List A} → comes_in end kind at ≡ true → Stored file (child (λ _. body)) at x m → P at x m
        → Row end kind body P most m xs to → Row end kind body P (suc most) at (x ∷ xs) to

  module _ {A : Type 0} (end kind : ℕ) {body : Reader A} (P : ℕ → A → ℕ → Type 0) (h : (at to : ℕ) → Keeps file at (at + 4) to body (P at)) where
    pub group-keeps : (most start at : ℕ) → Keeps file start at end (group most kind body) (Row end kind body P most at)
    unfolding group comes comes_in
    group-keeps zero start at =
        keeps-look (λ left. has 4 left && eqb (kind_of left) kind) _ λ c i. keeps-case c (λ _. keeps-never 4) (λ f. keeps-pure [] (done (sym i ∙ f)))
    group-keeps (suc most) start at =
        keeps-look (λ left. has 4 left && eqb (kind_of left) kind) _ λ c i.
        keeps-case c
        (λ t. keeps-then (keeps-record (P at) λ _ to. h at to) λ x m hx. keeps-then (group-keeps most start m) λ xs to hxs.
        keeps-pure (x ∷ xs) (member (sym i ∙ t) hx.0 hx.1 hxs))
        (λ f. keeps-pure [] (done (sym i ∙ f)))

  -- children that each pay for their steps pay for those of all
  pub row-pays : {A : Type 0} {end kind : ℕ} {body : Reader A} {P : ℕ → A → ℕ → Type 0} {most at to : ℕ} {xs : List A} (cost : A → ℕ) (count : List A → ℕ)
      → count [] ≡ 0 → ((x : A) (xs : List A) → count (x ∷ xs) ≡ cost x + count xs) → ((at : ℕ) (x : A) (to : ℕ) → P at x to → at + cost x ≤ to)
      → Row end kind body P most at xs to → at + count xs ≤ to
  row-pays cost count e i h (done c) = omega (arith, e)
  row-pays cost count e i h (member {x = x} {xs = xs} c s p r) = omega (arith, i x xs, h _ _ _ p, row-pays cost count e i h r)

  -- what is known of each of them
  pub row-all : {A : Type 0} {end kind : ℕ} {body : Reader A} {P : ℕ → A → ℕ → Type 0} {Q : A → Type 0} {most at to : ℕ} {xs : List A}
      → Row end kind body P most at xs to → ((at to : ℕ) (x : A) → P at x to → Q x) → All Q xs
  row-all (done c) q = none
  row-all (member c s p r) q = more (q _ _ _ p) (row-all r q)

  -- a group that begins at `at`, as it is read there
  pub record GroupAt {A : Type 0} (start end kind : ℕ) (body : Reader A) (P : ℕ → A → ℕ → Type 0) (most at : ℕ) (xs : List A) (to : ℕ) : Type 0 where
    pub reads : group most kind body start at (part at end file) ≡ read xs to (part to end file)
    pub row : Row end kind body P most at xs to

  group-seen : {A : Type 0} (end kind : ℕ) {body : Reader A} (P : ℕ → A → ℕ → Type 0) → ((at to : ℕ) → Keeps file at (at + 4) to body (P at))
      → (most start at : ℕ) → Keeps file start at end (group most kind body) (GroupAt start end kind body P most at)
  group-seen end kind P h most start at = keeps-as (keeps-seen (group-keeps end kind P h most start at)) λ xs to h. record { reads = h.0; row = h.1 }

  pub no-more-keeps : (start at end : ℕ) → Keeps file start at end no_more (λ _ to. (to ≡ at) × (at ≡ end))
  unfolding no_more is_empty
  no-more-keeps start at end =
      keeps-look is_empty _ λ e i.
      keeps-case e
      (λ t. keeps-within λ low high. keeps-pure tt (refl, omega (arith, none-left (part at end file) (sym i ∙ t), part_length at end file high)))
      (λ _. keeps-never 3)
    where
      none-left : (s : List ℕ) → is_empty s ≡ true → length s ≡ 0
      none-left [] h = refl
      none-left (b ∷ s) h = absurd (false≢true h)

  -- the members of the three groups, each in its record
  abbrev pub TransitionIn : (vars S at : ℕ) → Transition → ℕ → Type 0
  TransitionIn vars S at = TransitionAt vars S at (λ k. at + k)

  abbrev pub RowIn : (A at : ℕ) → Call → ℕ → Type 0
  RowIn A at k to = RowAt A (λ k. at + k) k

  abbrev pub RuleIn : (vars at : ℕ) → Rule → ℕ → Type 0
  RuleIn vars at r to = RuleAt vars (λ k. at + k) r

  pub transition-member : (vars S at to : ℕ) → Keeps file at (at + 4) to (transition_body vars S) (TransitionIn vars S at)
  transition-member vars S at to = transition-keeps vars S (λ k. at + k) (in-record at) at to

  pub row-member : (A at to : ℕ) → Keeps file at (at + 4) to (row_body A) (RowIn A at)
  row-member A at to = row-keeps A (λ k. at + k) (in-record at) at to

  pub rule-member : (vars : ℕ) (names : List ℕ) (at to : ℕ) → Keeps file at (at + 4) to (rule_body vars names) (RuleIn vars at)
  rule-member vars names at to = rule-keeps vars names (λ k. at + k) (in-record at) at to

  -- ---- the agreement

  -- its fields, two actions and three groups, each from where the one before it ends
  pub record AgreementAt (o : ℕ → ℕ) (start end : ℕ) (a : Agreement) : Type 0 where
    pub first : ℕ
    pub second : ℕ
    pub third : ℕ
    pub fourth : ℕ
    pub fifth : ℕ
    pub head : FieldsAt o a.fields first
    pub initial : Stored file (statement a.fields.variables 15) first a.initial second
    pub initial_sound : Statement file a.fields.variables 15 first a.initial second
    pub fallback : Stored file (statement a.fields.variables 15) second a.fallback third
    pub fallback_sound : Statement file a.fields.variables 15 second a.fallback third
    pub transitions :
        GroupAt start end 2 (transition_body a.fields.variables a.fields.states)
        (TransitionIn a.fields.variables a.fields.states) 64 third a.transitions fourth
    pub rows : GroupAt start end 3 (row_body a.fields.accounts) (RowIn a.fields.accounts) 16 fourth a.rows fifth
    pub rules :
        GroupAt start end 4 (rule_body a.fields.variables (map (λ (t : Transition). t.name) a.transitions))
        (RuleIn a.fields.variables) 8 fifth a.rules end

  pub agreement-keeps : (o : ℕ → ℕ) → Offsets o → (start end : ℕ)
      → Keeps file start (o 4) end agreement_body (λ a to. (to ≡ end) × AgreementAt o start end a)
  unfolding agreement_body
  agreement-keeps o h start end =
      keeps-then (fields-keep o h start end) λ f b hf.
      keeps-then (statement-keeps file f.variables 15 _ _ _) λ i c hi.
      keeps-then (statement-keeps file f.variables 15 _ _ _) λ e d he.
      keeps-then (group-seen end 2 _ (transition-member f.variables f.states) 64 _ _) λ ts m ht.
      keeps-then (group-seen end 3 _ (row-member f.accounts) 16 _ _) λ ks n hk.
      keeps-then (group-seen end 4 _ (rule-member f.variables _) 8 _ _) λ rs p hr.
      keeps-then (no-more-keeps _ _ _) λ _ to l.
      keeps-pure (record { fields = f; initial = i; fallback = e; transitions = ts; rows = ks; rules = rs }) (
        l.0 ∙ l.1,
        record {
          first = b;
          second = c;
          third = d;
          fourth = m;
          fifth = n;
          head = hf;
          initial = hi.0;
          initial_sound = hi.1;
          fallback = he.0;
          fallback_sound = he.1;
          transitions = ht;
          rows = hk;
          rules = subst (GroupAt start end 4 _ _ 8 n rs) l.1 hr;
        },
      )

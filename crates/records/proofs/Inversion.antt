-- What is known of a record that was read: its fields and children, where they stand in the record.
use Rattle.std.specs.Prelude.{if◌then◌else◌}
use Prim.Native.Nat.{ℕ, zero, suc, ◌+◌, ◌-◌, ◌≤◌}
use mathlib.Core.Path.{◌≡◌, refl, sym, ap, ap₂, subst, subst₂, ◌∙◌}
use mathlib.Core.Bool.{Bool, true, false}
use mathlib.Core.List.{List, []}
use native.Mathlib.Omega.{arith}
use lib.ListN.{length, take, drop}
use Rattle.rules.specs.Basics.{has, part, number}
use Rattle.rules.specs.Reading.{refused, read, Reader, ◌>>=◌, ◌>>◌, refuse, in_range, field, size_of, kind_of, child}
use Rattle.grammar.proofs.Bytes.{Whole, has-length, part_length, part-drop, part-number}
use Rattle.grammar.proofs.Readings.{unread, then-read, child-read}
use Rattle.grammar.proofs.Keeping.{Keeps, Stored, embedded}
use Rattle.records.proofs.Readers.{Nested, refused-never}

-- a record that was read up to its length
pub record Ended (at : ℕ) (s : List ℕ) (to : ℕ) (rest : List ℕ) : Type 0 where
  pub low : 4 ≤ size_of s
  pub high : size_of s ≤ length s
  pub goes : to ≡ at + size_of s
  pub leaves : rest ≡ drop (size_of s) s

pub record Ends {A : Type 0} (r : Reader A) : Type 0 where
  pub ends : (start at : ℕ) (s : List ℕ) {a : A} {to : ℕ} {rest : List ℕ} → r start at s ≡ read a to rest → Ended at s to rest

pub ends-stored : {A : Type 0} {r : Reader A} → ((file : List ℕ) (start at end : ℕ) → Keeps file start at end r (Stored file r at)) → Ends r
ends-stored h =
    record {
      ends = λ start at s {a} {to} e.
          let x = embedded (λ file end. h file start at end) e in
          let z : to ≡ at + size_of s = x.has.size ∙ ap (λ (t : List ℕ). at + size_of t) x.here in
          record {
            low = omega (arith, x.has.four);
            high = omega (arith, x.has.fits, x.long);
            goes = z;
            leaves = x.leaves ∙ ap (λ (n : ℕ). drop n s) (omega arith);
          };
    }

-- the record behind bytes that were read, at `at`, with the levels that its children have; n is its length
pub record Inside {A : Type 0} (body : (levels kind : ℕ) → Reader A) (n kind : ℕ) (s : List ℕ) (at : ℕ) (tree : A) (to : ℕ) : Type 0 where
  pub left : ℕ
  pub is : Whole s (size_of s)
  pub low : 4 ≤ n
  pub high : n ≤ length s
  pub reads : body left kind at (at + 4) (part 4 n s) ≡ read tree to []

module _ {A : Type 0} {body : (levels kind : ℕ) → Reader A} {n kind at : ℕ} {s : List ℕ} (long : n ≡ size_of s) (k : kind_of s ≡ kind) (start : ℕ) {tree : A}
    {to : ℕ} {rest : List ℕ} where
  pub within : (levels : ℕ) → child (body levels) start at s ≡ read tree to rest → Inside body n kind s at tree to
  within levels h =
      let c = child-read _ _ _ _ h in
      record { left = levels; is = c.long; low = omega (arith, c.long.low); high = omega (arith, c.long.high); reads = rw (← k, long) c.reads }

  pub inside :
      {r : (levels : ℕ) → Reader A} → Nested 5 r body → (levels : ℕ) → r levels start at s ≡ read tree to rest → Inside body n kind s at tree to
  inside h zero e = refused-never 5 _ _ _ (rw h.none at e)
  inside h (suc levels) e = within levels (rw h.some at e)

-- ---- in a record of n bytes at `at`

-- the child that begins b bytes after the record's offset; q is its length, and f reads what follows
pub record At {A B : Type 0} (r : Reader A) (f : A → Reader B) (start at n : ℕ) (s : List ℕ) (b q : ℕ) (tree : B) (to : ℕ) (rest : List ℕ) : Type 0 where
  pub value : A
  pub here : r start (at + b) (part b n s) ≡ read value (at + (b + q)) (part (b + q) n s)
  pub next : f value start (at + (b + q)) (part (b + q) n s) ≡ read tree to rest
  pub low : b + 4 ≤ n
  pub four : 4 ≤ q
  pub fits : b + q ≤ n

module _ (start at n : ℕ) (s : List ℕ) (high : n ≤ length s) where
  pub child-at :
      {A B : Type 0} {r : Reader A} → Ends r → (f : A → Reader B) (b q : ℕ) →
      q ≡ number (take 2 (drop b s)) →
      {tree : B} {to : ℕ} {rest : List ℕ} →
      (r >>= f) start (at + b) (part b n s) ≡ read tree to rest →
      At r f start at n s b q tree to rest
  unfolding size_of
  child-at {A} {B} {r} h f b q e {tree} {to} {rest} reads =
      let x = then-read r f start (at + b) (part b n s) reads in
      let y = h.ends start (at + b) (part b n s) x.here in
      let p : length (part b n s) ≡ n - b = part_length b n s high in
      let z : size_of (part b n s) ≡ q = part-number b n 2 s (omega (arith, y.low, y.high)) ∙ sym e in
      let m : x.mid ≡ at + (b + q) = omega (arith, y.goes) in
      let l : x.left ≡ part (b + q) n s = y.leaves ∙ ap (λ (k : ℕ). drop k (part b n s)) z ∙ part-drop b n q s in
      record {
        value = x.value;
        here = x.here ∙ ap₂ (read x.value) m l;
        next = subst₂ (λ (i : ℕ) (t : List ℕ). f x.value start i t ≡ read tree to rest) m l x.next;
        low = omega (arith, y.low, y.high);
        four = omega (arith, y.low);
        fits = omega (arith, y.high);
      }

-- a field of k bytes
pub field-read :
    (k start at : ℕ) (s : List ℕ) {x to : ℕ} {rest : List ℕ} →
    field k start at s ≡ read x to rest →
    (k ≤ length s) × (x ≡ number (take k s)) × (to ≡ at + k) × (rest ≡ drop k s)
unfolding field
field-read k start at s {x} {to} {rest} h = go (has k s) refl h
  where
    go :
        (b : Bool) → has k s ≡ b → (if b then read (number (take k s)) (at + k) (drop k s) else refused 2 at) ≡ read x to rest →
        (k ≤ length s) × (x ≡ number (take k s)) × (to ≡ at + k) × (rest ≡ drop k s)
    go true i e =
        let p : number (take k s) ≡ x = cc in
        let q : at + k ≡ to = cc in
        let r : drop k s ≡ rest = cc in
        (has-length k s i, sym p, sym q, sym r)
    go false i e = unread e

range-read : (b : Bool) (start at : ℕ) (s : List ℕ) {u : Unit {0}} {to : ℕ} {rest : List ℕ} → in_range b start at s ≡ read u to rest → (b ≡ true) × (to ≡ at) × (rest ≡ s)
unfolding in_range refuse
range-read true start at s {to = to} {rest = rest} h =
    let p : at ≡ to = cc in
    let q : s ≡ rest = cc in
    (refl, sym p, sym q)
range-read false start at s h = unread h

-- a 16-bit field that passes a test, the first of the record's body, and what followed it
pub record Field {B : Type 0} (test : ℕ → Bool) (f : ℕ → Reader B) (start at n : ℕ) (s : List ℕ) (tree : B) (to : ℕ) (rest : List ℕ) : Type 0 where
  pub passes : test (number (take 2 (drop 4 s))) ≡ true
  pub next : f (number (take 2 (drop 4 s))) start (at + 6) (part 6 n s) ≡ read tree to rest
  pub six : 6 ≤ n

pub field_at :
    {B : Type 0} (test : ℕ → Bool) (f : ℕ → Reader B) (start at n : ℕ) (s : List ℕ) → n ≤ length s →
    {tree : B} {to : ℕ} {rest : List ℕ} →
    (field 2 >>= λ i. in_range (test i) >> f i) start (at + 4) (part 4 n s) ≡ read tree to rest →
    Field test f start at n s tree to rest
field_at test f start at n s high {tree} {to} {rest} reads =
    let x = then-read (field 2) (λ i. in_range (test i) >> f i) start (at + 4) (part 4 n s) reads in
    let y = field-read 2 start (at + 4) (part 4 n s) x.here in
    let z = then-read (in_range (test x.value)) (λ _. f x.value) start x.mid x.left x.next in
    let w = range-read (test x.value) start x.mid x.left z.here in
    let p : length (part 4 n s) ≡ n - 4 = part_length 4 n s high in
    let six : 6 ≤ n = omega (arith, y.0) in
    let v : x.value ≡ number (take 2 (drop 4 s)) = y.1 ∙ part-number 4 n 2 s six in
    let m : z.mid ≡ at + 6 = omega (arith, w.1, y.2) in
    let l : z.left ≡ part 6 n s = w.2 ∙ y.3 ∙ part-drop 4 n 2 s in
    let next : f x.value start (at + 6) (part 6 n s) ≡ read tree to rest = subst₂ (λ (i : ℕ) (t : List ℕ). f x.value start i t ≡ read tree to rest) m l z.next in
    record {
      passes = ap test (sym v) ∙ w.0;
      next = subst (λ (i : ℕ). f i start (at + 6) (part 6 n s) ≡ read tree to rest) v next;
      six = six;
    }

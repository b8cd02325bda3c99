-- What holds of all that a reader makes of a part of a file, by a law for each way in which readers are put together: it goes forward
-- within the part, refuses at a place in it, and what it reads has a property. The record that is read ends at `end`; the reader
-- begins at `at`.
use Prim.Native.Nat.{ℕ, zero, suc, ◌+◌, ◌-◌, ◌*◌, ◌≤◌}
use mathlib.Core.Path.{◌≡◌, refl, sym, ap, ap₂, subst, subst₂, ◌∙◌}
use mathlib.Core.Bool.{Bool, true, false}
use mathlib.Core.List.{List, [], ◌∷◌, ◌++◌}
use native.Mathlib.Omega.{arith}
use lib.Dec.{eqb}
use lib.ListN.{length, get_or, take, drop, replicate, length-append, length-drop, length-replicate}
use lib.Seq.{drop_at, drop-drop}
use Rattle.rules.specs.Basics.{if◌then◌else◌, choose, has, part, number}
use Rattle.rules.specs.Reading.{Reading, refused, read, Reader, after, ◌>>=◌, ◌>>◌, pure, self, here, refuse, in_range, field, fields, zero_byte, closed, size_of, kind_of, whole, child}
use Rattle.laws.proofs.Basics.{if-cases, if-all}
use Rattle.laws.proofs.Choosing.{Rows, choose-by}
use Rattle.grammar.specs.Numbers.{numbers_at}
use Rattle.grammar.proofs.Bytes.{number-one, has-length, part_length, part-drop, part-number, whole-record, is_whole, part-all, part-body, part-inner, size-part, kind-part}
use Rattle.grammar.proofs.Readings.{child-reads}

-- nothing is said of what is read
abbrev pub Anything : {A : Type 0} → A → ℕ → Type 0
Anything a to = Unit {0}

module _ (file : List ℕ) where
  -- a reading in a record that begins at `start`: a refusal's place is in the record, and what was read has P with the offset after it
  pub data Of {A : Type 0} (start at end : ℕ) (P : A → ℕ → Type 0) : Reading A → Type 0 where
    stops : {n : ℕ} (p : ℕ) → (start ≤ end → p ≤ end) → Of start at end P (refused n p)
    gives : {a : A} {rest : List ℕ} (to : ℕ) → at ≤ to → to ≤ end → rest ≡ part to end file → P a to → Of start at end P (read a to rest)

  -- a reader, in whatever part of the file
  pub record Keeps {A : Type 0} (start at end : ℕ) (r : Reader A) (P : A → ℕ → Type 0) : Type 0 where
    pub each : at ≤ end → end ≤ length file → Of start at end P (r start at (part at end file))

  -- a record that stands in the file up to `to`, and is read there by this reader
  pub record Stored {A : Type 0} (r : Reader A) (at : ℕ) (a : A) (to : ℕ) : Type 0 where
    pub reads : (start : ℕ) → r start at (drop at file) ≡ read a to (drop to file)
    pub size : to ≡ at + size_of (drop at file)
    pub four : at + 4 ≤ to
    pub fits : to ≤ length file

module _ {file : List ℕ} where
  module _ {A : Type 0} {start at end : ℕ} {P : A → ℕ → Type 0} where
    pub keeps-pure : (a : A) → P a at → Keeps file start at end (pure a) P
    keeps-pure a h = record { each = λ low high. gives at (omega arith) low refl h }

    -- a reader is only asked where it begins in the part
    pub keeps-within : {r : Reader A} → (at ≤ end → end ≤ length file → Keeps file start at end r P) → Keeps file start at end r P
    keeps-within h = record { each = λ low high. (h low high).each low high }

    pub keeps-refuse : (n : ℕ) → Keeps file start at end (refuse n) P
    unfolding refuse
    keeps-refuse n = record { each = λ low high. stops start (λ h. h) }

    pub keeps-case : (b : Bool) {r q : Reader A} → (b ≡ true → Keeps file start at end r P) → (b ≡ false → Keeps file start at end q P)
        → Keeps file start at end (if b then r else q) P
    keeps-case b = if-cases (λ r. Keeps file start at end r P) b

    pub keeps-if : (b : Bool) {r q : Reader A} → Keeps file start at end r P → Keeps file start at end q P
        → Keeps file start at end (if b then r else q) P
    keeps-if b = if-all (λ r. Keeps file start at end r P) b

    -- each reader of a table, and the other
    pub keeps-choose : (n : ℕ) {t : List (ℕ × Reader A)} {other : Reader A}
        → Rows (λ r _. Keeps file start at end r P) t t → Keeps file start at end other P → Keeps file start at end (choose n t other) P
    keeps-choose n {t} {other} = choose-by (λ r _. Keeps file start at end r P) n t t other other

    -- a test that was passed
    pub keeps-test : (b : Bool) {r : Reader A} → (b ≡ true → Keeps file start at end r P) → Keeps file start at end (in_range b >> r) P
    unfolding in_range refuse
    keeps-test true h = record { each = (h refl).each }
    keeps-test false h = record { each = λ low high. stops start (λ h. h) }

    -- what is seen of what is left, without going on
    pub keeps-look : {B : Type 0} (see : List ℕ → B) (f : B → Reader A) → ((b : B) → b ≡ see (part at end file) → Keeps file start at end (f b) P)
        → Keeps file start at end ((λ start at left. read (see left) at left) >>= f) P
    keeps-look see f h = record { each = (h _ refl).each }

    -- the record's own offset
    pub keeps-self : (f : ℕ → Reader A) → Keeps file start at end (f start) P → Keeps file start at end (self >>= f) P
    keeps-self f h = record { each = h.each }

    -- one reader after another
    pub keeps-then : {B : Type 0} {Q : B → ℕ → Type 0} {r : Reader B} {f : B → Reader A}
        → Keeps file start at end r Q → ((b : B) (to : ℕ) → Q b to → Keeps file start to end (f b) P) → Keeps file start at end (r >>= f) P
    keeps-then {B} {Q} {r} {f} h k = record { each = λ low high. go high (h.each low high) }
      where
        on : {to : ℕ} {x : Reading A} → at ≤ to → Of file start to end P x → Of file start at end P x
        on le (stops p h) = stops p h
        on le (gives to l u e p) = gives to (omega arith) u e p

        go : {x : Reading B} → end ≤ length file → Of file start at end Q x → Of file start at end P (after x (λ b. f b start))
        go high (stops p h) = stops p h
        go high (gives {a = b} to l u e q) =
            subst (λ (t : List ℕ). Of file start at end P (f b start to t)) (sym e) (on l ((k b to q).each u high))

    -- the offset c of the next byte, and then a reader
    pub keeps-here : {B : Type 0} {r : Reader B} (Q : ℕ → B → ℕ → Type 0) (f : ℕ → B → Reader A) → Keeps file start at end r (Q at)
        → ((c : ℕ) (b : B) (to : ℕ) → c ≡ at → Q c b to → Keeps file start to end (f c b) P) → Keeps file start at end (here >>= λ c. r >>= f c) P
    keeps-here Q f h k = record { each = (keeps-then h λ b to q. k at b to refl q).each }

    -- another property, from the first and the reading itself
    keeps-by : {Q : A → ℕ → Type 0} {r : Reader A} → Keeps file start at end r Q
        → ((a : A) (to : ℕ) → at ≤ to → r start at (part at end file) ≡ read a to (part to end file) → Q a to → P a to) → Keeps file start at end r P
    keeps-by {Q} {r} h k = record { each = λ low high. go refl (h.each low high) }
      where
        go : {x : Reading A} → r start at (part at end file) ≡ x → Of file start at end Q x → Of file start at end P x
        go i (stops p h) = stops p h
        go i (gives {a = a} to l u e q) = gives to l u e (k a to l (i ∙ ap (read a to) e) q)

    pub keeps-as : {Q : A → ℕ → Type 0} {r : Reader A} → Keeps file start at end r Q → ((a : A) (to : ℕ) → Q a to → P a to)
        → Keeps file start at end r P
    keeps-as h k = keeps-by h λ a to _ _ q. k a to q

  module _ {A : Type 0} {start at end : ℕ} {P : A → ℕ → Type 0} {r : Reader A} (h : Keeps file start at end r P) where
    -- what was read, with the reading itself
    pub keeps-seen : Keeps file start at end r (λ a to. (r start at (part at end file) ≡ read a to (part to end file)) × P a to)
    keeps-seen = keeps-by h λ a to _ i p. (i, p)

    -- a reader goes forward
    pub keeps-on : Keeps file start at end r (λ _ to. at ≤ to)
    keeps-on = keeps-by h λ a to l _ _. l

    pub keeps-any : Keeps file start at end r Anything
    keeps-any = keeps-as h λ _ _ _. tt

  -- ---- fields

  field-there : (start at end n : ℕ) → Keeps file start at end (field n) (λ x to. (x ≡ number (take n (drop at file))) × (to ≡ at + n))
  unfolding field
  field-there start at end n = record { each = λ low high. go low high (has n (part at end file)) refl }
    where
      go : at ≤ end → end ≤ length file → (b : Bool) → has n (part at end file) ≡ b
          → Of file start at end (λ x to. (x ≡ number (take n (drop at file))) × (to ≡ at + n))
          (if b then read (number (take n (part at end file))) (at + n) (drop n (part at end file)) else refused 2 at)
      go low high true h =
          let fits : at + n ≤ end = omega (arith, has-length n (part at end file) h, part_length at end file high) in
          gives (at + n) (omega arith) fits (part-drop at end n file) (part-number at end n file fits, refl)
      go low high false h = stops at (λ _. low)

  -- k of 32 bits
  fields-there : (start end k at : ℕ) → Keeps file start at end (fields k 4) (λ xs to. (xs ≡ numbers_at k at file) × (to ≡ at + 4 * k))
  unfolding fields numbers_at
  fields-there start end zero at = keeps-pure [] (refl, omega arith)
  fields-there start end (suc k) at =
      keeps-then (field-there start at end 4) λ x to e.
      let P : List ℕ → ℕ → Type 0 = λ xs to. (xs ≡ numbers_at (suc k) at file) × (to ≡ at + 4 * suc k) in
      subst (λ (m : ℕ). Keeps file start m end (fields k 4 >>= λ xs. pure (x ∷ xs)) P) (sym e.1)
      (keeps-then (fields-there start end k (at + 4)) λ xs to i.
      keeps-pure (x ∷ xs) (ap₂ (λ (y : ℕ) (ys : List ℕ). y ∷ ys) e.0 i.0, omega (arith, i.1)))

  module _ {A : Type 0} {start at end : ℕ} {P : A → ℕ → Type 0} where
    -- b is where the next reader begins
    pub keeps-field : (n b : ℕ) (f : ℕ → Reader A) → b ≡ at + n → Keeps file start b end (f (number (take n (drop at file)))) P
        → Keeps file start at end (field n >>= f) P
    keeps-field n b f i h =
        keeps-then (field-there start at end n) λ x to e. subst₂ (λ (y m : ℕ). Keeps file start m end (f y) P) (sym e.0) (i ∙ sym e.1) h

    pub keeps-byte : (b : ℕ) (f : ℕ → Reader A) → b ≡ at + 1 → Keeps file start b end (f (get_or file at 0)) P
        → Keeps file start at end (field 1 >>= f) P
    keeps-byte b f i h = keeps-field 1 b f i (rw (number-one file at) h)

    pub keeps-fields : (k : ℕ) (f : List ℕ → Reader A) → Keeps file start (at + 4 * k) end (f (numbers_at k at file)) P
        → Keeps file start at end (fields k 4 >>= f) P
    keeps-fields k f h =
        keeps-then (fields-there start end k at) λ xs to e. subst₂ (λ (y : List ℕ) (m : ℕ). Keeps file start m end (f y) P) (sym e.0) (sym e.1) h

  module _ {A : Type 0} {start at end : ℕ} {P : A → ℕ → Type 0} where
    pub keeps-zero : (b : ℕ) {r : Reader A} → b ≡ at + 1 → Keeps file start b end r P → Keeps file start at end (zero_byte >> r) P
    unfolding zero_byte in_range
    keeps-zero b {r} i h =
        keeps-then (keeps-field {P = λ _ to. to ≡ b} 1 b _ i (tested (eqb (number (take 1 (drop at file))) 0))) λ _ to e.
        subst (λ (m : ℕ). Keeps file start m end r P) (sym e) h
      where
        tested : (t : Bool) → Keeps file start b end (in_range t) (λ _ to. to ≡ b)
        tested t = keeps-if t (keeps-pure tt refl) (keeps-refuse 4)

  -- ---- a child record

  stored-child : {A : Type 0} (body : ℕ → Reader A) {at to : ℕ} {a : A} → to ≡ at + size_of (drop at file) → at + 4 ≤ to → to ≤ length file
      → body (kind_of (drop at file)) at (at + 4) (part (at + 4) to file) ≡ read a to [] → Stored file (child body) at a to
  stored-child body {at} {to} {a} size four fits e =
      let q = size_of (drop at file) in
      record {
        reads = λ start.
            child-reads body start at (drop at file) (is_whole (drop at file) q refl (omega arith) (omega (arith, length-drop at file)))
            (rw (part-body at q file, ← size) e)
            ∙ ap (read a to) (drop-drop q at file ∙ ap (λ (m : ℕ). drop m file) (sym size));
        size = size;
        four = four;
        fits = fits;
      }

  module _ {A : Type 0} {start at end : ℕ} {body : ℕ → Reader A} (P : (kind end : ℕ) → A → Type 0) where
    pub keeps-child : ((kind to : ℕ) → Keeps file at (at + 4) to (body kind) (λ a m. m ≡ to → P kind to a))
        → Keeps file start at end (child body) (λ a to. Stored file (child body) at a to × P (kind_of (drop at file)) to a)
    unfolding child closed
    keeps-child h = record { each = λ low high. go low high (whole (part at end file)) refl }
      where
        Q : A → ℕ → Type 0
        Q a to = Stored file (child body) at a to × P (kind_of (drop at file)) to a

        close : (q : ℕ) → 4 ≤ q → at + q ≤ end → end ≤ length file → size_of (drop at file) ≡ q → {x : Reading A}
            → body (kind_of (drop at file)) at (at + 4) (part (at + 4) (at + q) file) ≡ x
            → Of file at (at + 4) (at + q) (λ a m. m ≡ at + q → P (kind_of (drop at file)) (at + q) a) x
            → Of file start at end Q (closed (drop q (part at end file)) x)
        close q low fits high z i (stops p h) = stops p (λ _. let e = h (omega arith) in omega arith)
        close q low fits high z i (gives {rest = b ∷ bs} to l u e p) = stops to (λ _. omega arith)
        close q low fits high z i (gives {a = a} {rest = []} to l u e p) =
            let w : to ≡ at + q = omega (arith, ap length e, part_length to (at + q) file (omega arith)) in
            gives to (omega arith) (omega arith) (part-drop at end q file ∙ ap (λ (m : ℕ). part m end file) (sym w)) (
              stored-child body (omega (arith, z)) (omega arith) (omega arith) (ap (λ (m : ℕ). body (kind_of (drop at file)) at (at + 4) (part (at + 4) m file)) w ∙ i),
              subst (λ (m : ℕ). P (kind_of (drop at file)) m a) (sym w) (p w),
            )

        go : at ≤ end → end ≤ length file → (w : Bool) → whole (part at end file) ≡ w
            → Of file start at end Q
            (if w then closed (drop (size_of (part at end file)) (part at end file))
            (body (kind_of (part at end file)) at (at + 4) (part 4 (size_of (part at end file)) (part at end file))) else refused 2 at)
        go low high false w = stops at (λ _. low)
        go low high true w =
            let l = whole-record (part at end file) w in
            let p = part_length at end file high in
            let four : at + 4 ≤ end = omega (arith, l.low, l.high) in
            let q = size_of (drop at file) in
            let z : size_of (part at end file) ≡ q = size-part at end file four in
            let fits : at + q ≤ end = omega (arith, l.low, l.high) in
            rw (z, kind-part at end file four, part-inner at q file end fits)
            (close q (omega (arith, l.low)) fits high refl refl ((h (kind_of (drop at file)) (at + q)).each (omega (arith, l.low)) (omega arith)))

  -- the same, where the property does not depend on the record's end
  pub keeps-record : {A : Type 0} {start at end : ℕ} {body : ℕ → Reader A} (P : A → ℕ → Type 0)
      → ((kind to : ℕ) → Keeps file at (at + 4) to (body kind) P)
      → Keeps file start at end (child body) (λ a to. Stored file (child body) at a to × P a to)
  keeps-record P h = keeps-child (λ _ end a. P a end) λ kind to. keeps-as (h kind to) λ a m q e. subst (P a) e q

  -- another body that reads the record too
  pub stored-other : {A B : Type 0} {r : Reader A} {at to : ℕ} {a : A} {b : B} (other : ℕ → Reader B)
      → Stored file r at a to → other (kind_of (drop at file)) at (at + 4) (part (at + 4) to file) ≡ read b to (part to to file)
      → Stored file (child other) at b to
  stored-other {to = to} {b = b} other h e =
      let z : to - to ≡ 0 = omega arith in
      stored-child other h.size h.four h.fits (e ∙ ap (λ (n : ℕ). read b to (take n (drop to file))) z)

  -- a child that is refused at any kind
  pub keeps-never : {A : Type 0} {start at end : ℕ} {P : A → ℕ → Type 0} (n : ℕ) → Keeps file start at end (child (λ _. refuse n)) P
  keeps-never n = keeps-as (keeps-record (λ _ _. ⊥) λ _ _. keeps-refuse n) λ a to h. absurd h.1

  -- ---- what was read, and the place of a refusal

  module _ {A : Type 0} {start at end : ℕ} {P : A → ℕ → Type 0} where
    pub what-read : {a : A} {to : ℕ} {rest : List ℕ} → Of file start at end P (read a to rest)
        → (at ≤ to) × (to ≤ end) × (rest ≡ part to end file) × P a to
    what-read (gives to l u e p) = (l, u, e, p)

    pub where-refused : {n p : ℕ} → Of file start at end P (refused n p) → start ≤ end → p ≤ end
    where-refused (stops p h) = h

-- a reading of any bytes is one inside a file, which has them at `at`
pub record Embedded {A : Type 0} (at : ℕ) (s : List ℕ) (a : A) (to : ℕ) (rest : List ℕ) (P : (file : List ℕ) (end : ℕ) → A → ℕ → Type 0) : Type 0 where
  pub file : List ℕ
  pub here : drop at file ≡ s
  pub long : length file ≡ at + length s
  pub low : at ≤ to
  pub high : to ≤ at + length s
  pub leaves : rest ≡ drop (to - at) s
  pub has : P file (length file) a to

pub embedded : {A : Type 0} {start at : ℕ} {r : Reader A} {P : (file : List ℕ) (end : ℕ) → A → ℕ → Type 0} {s : List ℕ} {a : A} {to : ℕ} {rest : List ℕ}
    → ((file : List ℕ) (end : ℕ) → Keeps file start at end r (P file end)) → r start at s ≡ read a to rest → Embedded at s a to rest P
embedded {start = start} {at = at} {r = r} {P = P} {s = s} {a = a} {to = to} {rest = rest} h e =
    let file = replicate at 0 ++ s in
    let here : drop at file ≡ s = drop_at (replicate at 0) s at (length-replicate at 0) in
    let long : length file ≡ at + length s = length-append (replicate at 0) s ∙ ap (λ (n : ℕ). n + length s) (length-replicate at 0) in
    let i : r start at (part at (length file) file) ≡ read a to rest = ap (r start at) (part-all at file ∙ here) ∙ e in
    let x = what-read (subst (Of file start at (length file) (P file (length file))) i ((h file (length file)).each (omega arith) (omega arith))) in
    let z : at + (to - at) ≡ to = omega (arith, x.0) in
    record {
      file = file;
      here = here;
      long = long;
      low = x.0;
      high = omega (arith, x.1);
      leaves = x.2 ∙ part-all to file ∙ ap (λ (n : ℕ). drop n file) (sym z) ∙ sym (drop-drop (to - at) at file) ∙ ap (drop (to - at)) here;
      has = x.3;
    }

-- the bodies of a record at `at`, by their kinds
abbrev pub Inner : {A : Type 0} → (at : ℕ) → (ℕ → Reader A) → Type 0
Inner at body = (file : List ℕ) (kind to : ℕ) → Keeps file at (at + 4) to (body kind) Anything

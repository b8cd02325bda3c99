-- Rulings on lists of lists, part by part: what the loops over rows and over lengths go by.
--     continued-twice   a ruling continued twice
--     joined            the ruling on two parts, one after the other
--     pushed            lists that begin with a row are ruled on by what follows the row
--     goes, stops, done one turn of a loop over the parts, and its end
--     all_held, ..      lists of which none breaks the rule, ruled on again under another bound
use Rattle.std.specs.Prelude.{if◌then◌else◌, Result, Ok, Err, IsErrAnd}
use Prim.Native.Nat.{ℕ, zero, suc, ◌+◌, ◌-◌, ◌<◌, ◌≤◌}
use mathlib.Core.Path.{◌≡◌, refl, sym, ap, fun_ext, ◌∙◌}
use mathlib.Core.Bool.{Bool, true, false}
use mathlib.Core.List.{List, [], ◌∷◌, ◌++◌, map, append-nil, append_assoc}
use native.Mathlib.Nat.{sub-zero}
use native.Mathlib.Numerals.{add-one}
use native.Mathlib.Omega.{arith}
use borrow.Author.Tests.{le-leb, lt-leb, leb-true}
use lib.Dec.{leb, leb-zero, leb-suc-zero, leb-suc-suc}
use lib.ListN.{length, take}
use lib.Seq.{take_all}
use Rattle.rules.specs.declared.Judged.{Judged}
use Rattle.rules.specs.declared.Verdict.TheVariants.{Held}
use Rattle.rules.specs.Basics.{each}
use Rattle.rules.specs.Lists.{lists_of, lists_to}
use Rattle.rules.specs.Judging.{Ruling, broken, held, spent, First, at, nowhere, first, first_from, ruled_by, ruled_on, judged, judged_of}
use Rattle.rules.proofs.Firsts.{one_later, first-cons}
use Rattle.searcher.specs.Searching.{continued, going}

-- ---- continued rulings

pub continued-none : (v : Ruling) → continued 0 [] v ≡ v
unfolding continued
continued-none (broken m k) = ap (λ (n : ℕ). broken n k) (omega arith)
continued-none (held m) = ap held (omega arith)
continued-none (spent m) = ap spent (omega arith)

pub continued-twice : (n m : ℕ) (l k : List ℕ) (v : Ruling) → continued n l (continued m k v) ≡ continued (n + m) (l ++ k) v
unfolding continued
continued-twice n m l k (broken i j) = let z : n + (m + i) ≡ n + m + i = omega arith in rw (z, append_assoc)
continued-twice n m l k (held i) = ap held (omega arith)
continued-twice n m l k (spent i) = ap spent (omega arith)

-- ---- what a ruling says where the search has ended

pub all_tried : (v : Ruling) (n : ℕ) → going v ≡ Ok n → judged (Held n) [] ≡ judged_of v
unfolding going judged_of
all_tried (broken m k) n h = absurd cc
all_tried (held m) n h = let z : m ≡ n = cc in rw z
all_tried (spent m) n h = absurd cc

pub was-found : (v : Ruling) (j : Judged) → going v ≡ Err j → j ≡ judged_of v
unfolding going
was-found (broken m k) j h = cc
was-found (held m) j h = absurd cc
was-found (spent m) j h = cc

-- an error that is handed on
pub failed : (r : Result ℕ Judged) (j : Judged) → IsErrAnd r (λ i. i ≡ j) → r ≡ Err j
failed (Ok n) j h = absurd h
failed (Err i) j h = ap Err h

-- ---- a ruling, list by list

module _ (p : List ℕ → Bool) where
  ruled-nil : (k : ℕ) → ruled_on k p [] ≡ held 0
  unfolding ruled_on ruled_by first first_from
  ruled-nil zero = refl
  ruled-nil (suc k) = rw leb-zero

  ruled-zero : (x : List ℕ) (xs : List (List ℕ)) → ruled_on 0 p (x ∷ xs) ≡ spent 0
  unfolding ruled_on ruled_by first first_from
  ruled-zero x xs = rw leb-suc-zero

  ruled_by-one_later : (count k : ℕ) (f : First) → ruled_by (suc count) (suc k) (one_later f) ≡ continued 1 [] (ruled_by count k f)
  unfolding ruled_by one_later continued
  ruled_by-one_later count k (at n l) = ap (λ (m : ℕ). broken m l) (omega arith)
  ruled_by-one_later count k nowhere = rw leb-suc-suc (go (leb count k))
    where
      go : (b : Bool) → (if b then held (suc count) else spent (suc k)) ≡ continued 1 [] (if b then held count else spent k)
      go true = ap held (omega arith)
      go false = ap spent (omega arith)

  ruled-cons : (k : ℕ) (x : List ℕ) (xs : List (List ℕ)) → ruled_on (suc k) p (x ∷ xs) ≡ (if p x then broken 1 x else continued 1 [] (ruled_on k p xs))
  unfolding ruled_on ruled_by
  ruled-cons k x xs = rw first-cons (go (p x))
    where
      go : (b : Bool) → ruled_by (suc (length xs)) (suc k) (if b then at 1 x else one_later (first p (take k xs)))
          ≡ (if b then broken 1 x else continued 1 [] (ruled_by (length xs) k (first p (take k xs))))
      go true = refl
      go false = ruled_by-one_later (length xs) k (first p (take k xs))

-- ---- two parts

-- the ruling on a part, and where it holds that on the rest
and_then : Ruling → (ℕ → Ruling) → Ruling
and_then (broken n l) f = broken n l
and_then (held n) f = continued n [] (f n)
and_then (spent n) f = spent n

joined : (p : List ℕ → Bool) (xs ys : List (List ℕ)) (k : ℕ) → ruled_on k p (xs ++ ys) ≡ and_then (ruled_on k p xs) (λ n. ruled_on (k - n) p ys)
unfolding and_then continued
joined p [] ys k = rw (ruled-nil p k, sub-zero) (sym (continued-none (ruled_on k p ys)))
joined p (x ∷ xs) ys zero = rw (ruled-zero p x (xs ++ ys), ruled-zero p x xs)
joined p (x ∷ xs) ys (suc k) = rw (ruled-cons p k x (xs ++ ys), ruled-cons p k x xs) (go (p x) (joined p xs ys k))
  where
    later : (v : Ruling) → continued 1 [] (and_then v (λ n. ruled_on (k - n) p ys)) ≡ and_then (continued 1 [] v) (λ n. ruled_on (suc k - n) p ys)
    later (broken n l) = refl
    later (held n) =
        let z : suc k - (1 + n) ≡ k - n = omega arith in
        rw z (continued-twice 1 n [] [] (ruled_on (k - n) p ys))
    later (spent n) = refl

    go : (b : Bool) → ruled_on k p (xs ++ ys) ≡ and_then (ruled_on k p xs) (λ n. ruled_on (k - n) p ys)
        → (if b then broken 1 x else continued 1 [] (ruled_on k p (xs ++ ys)))
        ≡ and_then (if b then broken 1 x else continued 1 [] (ruled_on k p xs)) (λ n. ruled_on (suc k - n) p ys)
    go true h = refl
    go false h = rw h (later (ruled_on k p xs))

pub pushed : (p : List ℕ → Bool) (r k : ℕ) (xs : List (List ℕ))
    → ruled_on k p (map (λ l. r ∷ l) xs) ≡ continued 0 (r ∷ []) (ruled_on k (λ l. p (r ∷ l)) xs)
unfolding continued
pushed p r k [] = rw (ruled-nil p k, ruled-nil (λ l. p (r ∷ l)) k)
pushed p r zero (x ∷ xs) = rw (ruled-zero p (r ∷ x) (map (λ l. r ∷ l) xs), ruled-zero (λ l. p (r ∷ l)) x xs)
pushed p r (suc k) (x ∷ xs) =
    rw (ruled-cons p k (r ∷ x) (map (λ l. r ∷ l) xs), ruled-cons (λ l. p (r ∷ l)) k x xs) (go (p (r ∷ x)) (pushed p r k xs))
  where
    go : (b : Bool) → ruled_on k p (map (λ l. r ∷ l) xs) ≡ continued 0 (r ∷ []) (ruled_on k (λ l. p (r ∷ l)) xs)
        → (if b then broken 1 (r ∷ x) else continued 1 [] (ruled_on k p (map (λ l. r ∷ l) xs)))
        ≡ continued 0 (r ∷ []) (if b then broken 1 x else continued 1 [] (ruled_on k (λ l. p (r ∷ l)) xs))
    go true h = refl
    go false h =
        let v = ruled_on k (λ l. p (r ∷ l)) xs in
        rw h (continued-twice 1 0 [] (r ∷ []) v ∙ sym (continued-twice 0 1 (r ∷ []) [] v))

-- ---- the parts F i, F (i + 1), .. up to F (e - 1)

each_turn : (F : ℕ → List (List ℕ)) (i e : ℕ) → i < e → each F i (e - i) ≡ F i ++ each F (i + 1) (e - (i + 1))
unfolding each
each_turn F i e h =
    let d : e - i ≡ suc (e - (i + 1)) = omega arith in
    rw d (ap (λ (k : ℕ). F i ++ each F k (e - (i + 1))) (sym (add-one i)))

each_none : (F : ℕ → List (List ℕ)) (i e : ℕ) → e ≤ i → each F i (e - i) ≡ []
unfolding each
each_none F i e h = let d : e - i ≡ 0 = omega arith in rw d

-- the lists that begin with a row and have m more
abbrev pub behind : (count m i : ℕ) → List (List ℕ)
behind count m i = map (λ l. i ∷ l) (lists_of count m)

pub lists_of-each : (k left : ℕ) → (left ≡ 0 → ⊥) → lists_of k left ≡ each (behind k (left - 1)) 0 (k - 0)
unfolding lists_of
lists_of-each k left h =
    let d : left ≡ suc (left - 1) = omega arith in
    let z : k - 0 ≡ k = omega arith in
    ap (lists_of k) d ∙ rw z

pub lists_of-none : (k left : ℕ) → left ≡ 0 → lists_of k left ≡ [] ∷ []
unfolding lists_of
lists_of-none k left h = rw h

module _ (bound : ℕ) (p : List ℕ → Bool) (l : List ℕ) where
  -- the ruling on lists behind the rows l, after n others
  abbrev pub onward : ℕ → List (List ℕ) → Ruling
  onward n xs = continued n l (ruled_on (bound - n) p xs)

  -- lists behind one row more
  pub behind-row : (n r : ℕ) (q : List ℕ → Bool) (xs : List (List ℕ)) → ((m : List ℕ) → q m ≡ p (r ∷ m))
      → continued n (l ++ (r ∷ [])) (ruled_on (bound - n) q xs) ≡ onward n (map (λ m. r ∷ m) xs)
  behind-row n r q xs h =
      let z : n + 0 ≡ n = omega arith in
      let e : q ≡ (λ m. p (r ∷ m)) = fun_ext h in
      rw (pushed p r (bound - n) xs, continued-twice n 0 l (r ∷ []) (ruled_on (bound - n) (λ m. p (r ∷ m)) xs), z, e)

  went-on : (v : Ruling) (m : ℕ) → going v ≡ Ok m → v ≡ held m
  unfolding going
  went-on (broken n k) m h = absurd cc
  went-on (held n) m h = cc
  went-on (spent n) m h = absurd cc

  joined-held : (n m : ℕ) (xs ys : List (List ℕ)) → onward n xs ≡ held m → onward n (xs ++ ys) ≡ onward m ys
  unfolding continued and_then
  joined-held n m xs ys h = ap (continued n l) (joined p xs ys (bound - n)) ∙ go (ruled_on (bound - n) p xs) h
    where
      go : (v : Ruling) → continued n l v ≡ held m → continued n l (and_then v (λ j. ruled_on (bound - n - j) p ys)) ≡ onward m ys
      go (broken i k) h = absurd cc
      go (held i) h =
          let z : n + i ≡ m = cc in
          let w : bound - n - i ≡ bound - m = omega arith in
          continued-twice n i l [] (ruled_on (bound - n - i) p ys) ∙ rw (append-nil, z, w)
      go (spent i) h = absurd cc

  joined-ends : (n : ℕ) (xs ys : List (List ℕ)) → ((m : ℕ) → onward n xs ≡ held m → ⊥) → onward n (xs ++ ys) ≡ onward n xs
  unfolding continued and_then
  joined-ends n xs ys h = ap (continued n l) (joined p xs ys (bound - n) ∙ go (ruled_on (bound - n) p xs) h)
    where
      go : (v : Ruling) → ((m : ℕ) → continued n l v ≡ held m → ⊥) → and_then v (λ j. ruled_on (bound - n - j) p ys) ≡ v
      go (broken i k) h = refl
      go (held i) h = absurd (h (n + i) refl)
      go (spent i) h = refl

  module _ (F : ℕ → List (List ℕ)) (i e n : ℕ) where
    pub done : e ≤ i → onward n (each F i (e - i)) ≡ held n
    unfolding continued
    done h = rw (each_none F i e h, ruled-nil p (bound - n)) (ap held (omega arith))

    pub goes : (m : ℕ) → i < e → Ok m ≡ going (onward n (F i)) → onward n (each F i (e - i)) ≡ onward m (each F (i + 1) (e - (i + 1)))
    goes m h f = rw (each_turn F i e h) (joined-held n m (F i) (each F (i + 1) (e - (i + 1))) (went-on (onward n (F i)) m (sym f)))

    pub stops : (j : Judged) → i < e → Err j ≡ going (onward n (F i)) → Err j ≡ going (onward n (each F i (e - i)))
    unfolding going
    stops j h f =
        rw (each_turn F i e h)
        (f ∙ ap going (sym (joined-ends n (F i) (each F (i + 1) (e - (i + 1))) (λ m z. absurd (let w = ap going z in cc)))))

-- all the lists, by length
pub whole : (bound : ℕ) (p : List ℕ → Bool) (k depth : ℕ) → ruled_on bound p (lists_to k depth) ≡ onward bound p [] 0 (each (lists_of k) 0 (suc depth - 0))
unfolding lists_to
whole bound p k depth =
    let z : suc depth - 0 ≡ suc depth = omega arith in
    let b : bound - 0 ≡ bound = omega arith in
    rw (z, b) (sym (continued-none (ruled_on bound p (each (lists_of k) 0 (suc depth)))))

-- ---- the end of a list: the one list that is left is empty

module _ (bound : ℕ) (p : List ℕ → Bool) (l : List ℕ) (n : ℕ) where
  pub end-spent : bound ≤ n → onward bound p l n ([] ∷ []) ≡ spent n
  unfolding continued
  end-spent h = let z : bound - n ≡ 0 = omega arith in rw (z, ruled-zero p [] []) (ap spent (omega arith))

  end-next : n < bound → onward bound p l n ([] ∷ []) ≡ continued n l (if p [] then broken 1 [] else held 1)
  unfolding continued
  end-next h =
      let z : bound - n ≡ suc (bound - suc n) = omega arith in
      let w : ruled_on (bound - n) p ([] ∷ []) ≡ (if p [] then broken 1 [] else held 1) =
      rw (z, ruled-cons p (bound - suc n) [] [], ruled-nil p (bound - suc n)) in
      ap (continued n l) w

  pub end-broken : n < bound → p [] ≡ true → onward bound p l n ([] ∷ []) ≡ broken (n + 1) l
  unfolding continued
  end-broken h b = end-next h ∙ rw (b, append-nil)

-- the empty list alone, where it does not break the rule
pub one-held : (p : List ℕ → Bool) → p [] ≡ false → ruled_on 1 p ([] ∷ []) ≡ held 1
unfolding continued
one-held p b = rw (ruled-cons p 0 [] [], ruled-nil p 0, b)

-- ---- lists of which none breaks the rule, under another bound

module _ (p : List ℕ → Bool) where
  none_before : (xs : List (List ℕ)) (k : ℕ) → first p xs ≡ nowhere → first p (take k xs) ≡ nowhere
  unfolding first first_from one_later
  none_before xs zero h = refl
  none_before [] (suc k) h = h
  none_before (x ∷ xs) (suc k) h = first-cons p x (take k xs) ∙ go (p x) (first p xs) (sym (first-cons p x xs) ∙ h) (none_before xs k)
    where
      go : (b : Bool) (f : First) → (if b then at 1 x else one_later f) ≡ nowhere → (f ≡ nowhere → first p (take k xs) ≡ nowhere)
          → (if b then at 1 x else one_later (first p (take k xs))) ≡ nowhere
      go true f h g = absurd cc
      go false (at n l) h g = absurd cc
      go false nowhere h g = rw (g refl)

  module _ (xs : List (List ℕ)) (n : ℕ) where
    -- a held ruling's number is that of the lists
    all_held : (k : ℕ) → ruled_on k p xs ≡ held n → (length xs ≡ n) × (n ≤ k) × (first p xs ≡ nowhere)
    unfolding ruled_on ruled_by
    all_held k h = go (first p (take k xs)) (leb (length xs) k) refl refl h
      where
        go : (f : First) (b : Bool) → first p (take k xs) ≡ f → leb (length xs) k ≡ b → ruled_by (length xs) k f ≡ held n
            → (length xs ≡ n) × (n ≤ k) × (first p xs ≡ nowhere)
        go (at m l) b e d h = absurd cc
        go nowhere true e d h =
            let same : length xs ≡ n = let w = rw d at h in cc in
            let fits : length xs ≤ k = leb-true _ _ d in
            (same, omega arith, rw (take_all k xs fits) at e)
        go nowhere false e d h = absurd (let w = rw d at h in cc)

    -- none of the n lists breaks the rule: within a bound that they fit, and where it falls among them
    module _ (none : first p xs ≡ nowhere) (all : length xs ≡ n) (k : ℕ) where
      none-held : n ≤ k → ruled_on k p xs ≡ held n
      unfolding ruled_on ruled_by
      none-held less =
          let fits : length xs ≤ k = omega arith in
          rw (none_before xs k none, le-leb (length xs) k fits, all)

      none-spent : k < n → ruled_on k p xs ≡ spent k
      unfolding ruled_on ruled_by
      none-spent less =
          let over : k < length xs = omega arith in
          rw (none_before xs k none, lt-leb (length xs) k over)

-- n lists that were held, at once, after t others
module _ (bound : ℕ) (p : List ℕ → Bool) (l : List ℕ) (t n : ℕ) (xs : List (List ℕ)) (h : ruled_on n p xs ≡ held n) where
  pub at-once-held : n ≤ bound - t → onward bound p l t xs ≡ held (t + n)
  unfolding continued
  at-once-held less = let a = all_held p xs n n h in rw (none-held p xs n a.2 a.0 (bound - t) less)

  pub at-once-spent : bound - t < n → (m : ℕ) → m ≡ t + (bound - t) → onward bound p l t xs ≡ spent m
  unfolding continued
  at-once-spent less m e = let a = all_held p xs n n h in rw (none-spent p xs n a.2 a.0 (bound - t) less, e)

-- what was held after t others is held by itself
pub held-alone : (bound : ℕ) (p : List ℕ → Bool) (l : List ℕ) (t m : ℕ) (xs : List (List ℕ))
    → Ok m ≡ going (onward bound p l t xs) → (t ≤ m) × (ruled_on (m - t) p xs ≡ held (m - t))
unfolding continued
held-alone bound p l t m xs h = go (ruled_on (bound - t) p xs) refl (went-on bound p l (onward bound p l t xs) m (sym h))
  where
    go : (v : Ruling) → ruled_on (bound - t) p xs ≡ v → continued t l v ≡ held m → (t ≤ m) × (ruled_on (m - t) p xs ≡ held (m - t))
    go (broken i k) d h = absurd cc
    go (held i) d h =
        let z : t + i ≡ m = cc in
        let w : m - t ≡ i = omega arith in
        let a = all_held p xs i (bound - t) d in
        (omega arith, rw w (none-held p xs i a.2 a.0 i (omega arith)))
    go (spent i) d h = absurd cc

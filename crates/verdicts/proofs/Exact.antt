-- A ruling says exactly what "Rules and verdicts" says. First for any bound, any lists in any order and any p that says which
-- break the rule:
--     right        what `ruled_on` says is right
--     one_right    no other ruling is right
--     exact        it says v exactly when v is right
--     by-case      broken, held and spent, each exactly when
-- and then for an agreement's rule: verdicts-exact, verdicts-by-case.
use mathlib.Core.Path.{◌≡◌, refl, sym, ◌∙◌, ap, subst}
use Prim.Native.Nat.{ℕ, zero, suc, ◌≤◌, ◌<◌}
use native.Mathlib.Decide.{dec_lt}
use native.Mathlib.Omega.{arith}
use mathlib.Core.Bool.{Bool, true, false}
use mathlib.Core.List.{List, [], ◌∷◌}
use mathlib.Core.Logic.{◌↔◌}
use lib.Dec.{leb, leb-zero, leb-suc-zero, leb-suc-suc}
use lib.ListN.{length, take}
use Rattle.std.specs.Prelude.{if◌then◌else◌}
use Rattle.rules.specs.Lists.{At, here, there}
use Rattle.rules.specs.Judging.{Ruling, broken, held, spent, First, at, nowhere, first, first_from, ruled_by, ruled_on, ruling}
use Rattle.rules.specs.Judging.{breaking, lists_for}
use Rattle.rules.specs.Demands.{Right, VerdictsExact, VerdictsByCase}
use Rattle.laws.proofs.Basics.{clash}
use Rattle.rules.proofs.Firsts.{one_later, first-cons}

-- places are 1 and up to the number of lists, and a place has one list
pub at-pos : {ls : List (List ℕ)} {n : ℕ} {l : List ℕ} → At ls n l → 1 ≤ n
at-pos here = omega arith
at-pos (there a) = omega arith

pub at-fits : {ls : List (List ℕ)} {n : ℕ} {l : List ℕ} → At ls n l → n ≤ length ls
at-fits here = omega arith
at-fits (there a) = let h = at-fits a in omega arith

pub at_none : {n : ℕ} {l : List ℕ} → At [] n l → ⊥
at_none a = let p = at-pos a in let q = at-fits a in omega arith

pub at_same : {ls : List (List ℕ)} {n m : ℕ} {l k : List ℕ} → At ls n l → At ls m k → n ≡ m → l ≡ k
at_same here here e = refl
at_same here (there b) e = let q = at-pos b in absurd (omega arith)
at_same (there a) here e = let q = at-pos a in absurd (omega arith)
at_same (there a) (there b) e = at_same a b (omega arith)

-- what holds of the first list and of the others, with their places
at-cons : {x : List ℕ} {ls : List (List ℕ)} (P : ℕ → List ℕ → Type 0)
    → P 1 x → ((m : ℕ) (k : List ℕ) → At ls m k → P (suc m) k) → (m : ℕ) (k : List ℕ) → At (x ∷ ls) m k → P m k
at-cons P h t m k here = h
at-cons P h t m k (there {n = n} a) = t n k a

not-both : {b : Bool} → b ≡ true → b ≡ false → ⊥
not-both e f = clash (sym e ∙ f)

-- a list that does not break the rule, put before the others, moves each number by one
one_more : Ruling → Ruling
one_more (broken n l) = broken (suc n) l
one_more (held n) = held (suc n)
one_more (spent n) = spent (suc n)

ruled-more : (all B : ℕ) (f : First) → ruled_by (suc all) (suc B) (one_later f) ≡ one_more (ruled_by all B f)
unfolding one_more ruled_by one_later
ruled-more all B (at n l) = refl
ruled-more all B nowhere = rw leb-suc-suc (go (leb all B))
  where
    go : (b : Bool) → (if b then held (suc all) else spent (suc B)) ≡ one_more (if b then held all else spent B)
    go true = refl
    go false = refl

right-more : (B : ℕ) (p : List ℕ → Bool) (x : List ℕ) (ls : List (List ℕ)) (v : Ruling)
    → p x ≡ false → Right B p ls v → Right (suc B) p (x ∷ ls) (one_more v)
unfolding one_more
right-more B p x ls (broken n l) e r =
    (there r.0, omega arith, r.2, at-cons (λ m k. m < suc n → p k ≡ false) (λ h. e) (λ m k a h. r.3 m k a (omega arith)))
right-more B p x ls (held n) e r = (ap suc r.0, omega arith, at-cons (λ m k. p k ≡ false) e r.2)
right-more B p x ls (spent n) e r =
    (ap suc r.0, omega arith, at-cons (λ m k. m ≤ suc B → p k ≡ false) (λ h. e) (λ m k a h. r.2 m k a (omega arith)))

pub right : (B : ℕ) (p : List ℕ → Bool) (ls : List (List ℕ)) → Right B p ls (ruled_on B p ls)
unfolding ruled_on ruled_by first first_from
right zero p [] = (refl, omega arith, λ m k a. absurd (at_none a))
right (suc B) p [] = rw leb-zero (refl, omega arith, λ m k a. absurd (at_none a))
right zero p (x ∷ ls) = rw leb-suc-zero (refl, omega arith, λ m k a h. let q = at-pos a in absurd (omega arith))
right (suc B) p (x ∷ ls) = rw first-cons (go (p x) refl (right B p ls))
  where
    go : (b : Bool) → p x ≡ b → Right B p ls (ruled_on B p ls)
        → Right (suc B) p (x ∷ ls) (ruled_by (suc (length ls)) (suc B) (if b then at 1 x else one_later (first p (take B ls))))
    go true e r = (here, omega arith, e, λ m k a h. let q = at-pos a in absurd (omega arith))
    go false e r = rw ruled-more (right-more B p x ls (ruled_on B p ls) e r)

module _ (B : ℕ) (p : List ℕ → Bool) (ls : List (List ℕ)) where
  broken-not-held : {n m : ℕ} {l : List ℕ} → Right B p ls (broken n l) → Right B p ls (held m) → ⊥
  broken-not-held {n} {l = l} r s = not-both r.2 (s.2 n l r.0)

  broken-not-spent : {n m : ℕ} {l : List ℕ} → Right B p ls (broken n l) → Right B p ls (spent m) → ⊥
  broken-not-spent {n} {l = l} r s = not-both r.2 (s.2 n l r.0 r.1)

  pub one_right : (v w : Ruling) → Right B p ls v → Right B p ls w → v ≡ w
  one_right (broken n l) (broken m k) r s = go (dec_lt n m) (dec_lt m n)
    where
      go : Dec (n < m) → Dec (m < n) → broken n l ≡ broken m k
      go (yes h) d = absurd (not-both r.2 (s.3 n l r.0 h))
      go (no h) (yes g) = absurd (not-both s.2 (r.3 m k s.0 g))
      go (no h) (no g) =
          let e : n ≡ m = omega arith in
          let f : l ≡ k = at_same r.0 s.0 e in
          cc
  one_right (broken n l) (held m) r s = absurd (broken-not-held r s)
  one_right (broken n l) (spent m) r s = absurd (broken-not-spent r s)
  one_right (held n) (broken m k) r s = absurd (broken-not-held s r)
  one_right (held n) (held m) r s = ap held (r.0 ∙ sym s.0)
  one_right (held n) (spent m) r s = absurd (omega arith)
  one_right (spent n) (broken m k) r s = absurd (broken-not-spent s r)
  one_right (spent n) (held m) r s = absurd (omega arith)
  one_right (spent n) (spent m) r s = ap spent (r.0 ∙ sym s.0)

  pub exact : (v : Ruling) → (ruled_on B p ls ≡ v) ↔ Right B p ls v
  exact v = (λ e. subst (Right B p ls) e (right B p ls), λ r. one_right (ruled_on B p ls) v (right B p ls) r)

  -- some list whose place is at most the bound breaks the rule; all lists fit the bound, and none breaks the rule
  abbrev pub Some : Type 0
  Some = (n : ℕ) × (l : List ℕ) × At ls n l × (n ≤ B) × (p l ≡ true)

  abbrev pub None : Type 0
  None = (length ls ≤ B) × ((n : ℕ) (l : List ℕ) → At ls n l → p l ≡ false)

  -- the case that a ruling names
  abbrev pub Case : Ruling → Type 0
  Case (broken n l) = Some
  Case (held n) = None
  Case (spent n) = (Some → ⊥) × (None → ⊥)

  right-case : (v : Ruling) → Right B p ls v → Case v
  right-case (broken n l) r = (n, l, r.0, r.1, r.2)
  right-case (held n) r = (r.1, r.2)
  right-case (spent n) r = (λ b. not-both b.4 (r.2 b.0 b.1 b.2 b.3), λ k. omega arith)

  case : (v : Ruling) → ruled_on B p ls ≡ v → Case v
  case v e = right-case v ((exact v).0 e)

  pub by-case : (((n : ℕ) × (l : List ℕ) × (ruled_on B p ls ≡ broken n l)) ↔ Some)
      × ((ruled_on B p ls ≡ held (length ls)) ↔ None)
      × ((ruled_on B p ls ≡ spent B) ↔ ((Some → ⊥) × (None → ⊥)))
  by-case = (
    (λ e. case (broken e.0 e.1) e.2, λ b. is-broken b _ refl),
    (case (held (length ls)), λ h. (exact (held (length ls))).1 (refl, h.0, h.1)),
    (case (spent B), λ h. is-spent h _ refl),
  )
    where
      is-broken : Some → (v : Ruling) → ruled_on B p ls ≡ v → (n : ℕ) × (l : List ℕ) × (ruled_on B p ls ≡ broken n l)
      is-broken b (broken n l) e = (n, l, e)
      is-broken b (held n) e = absurd (not-both b.4 ((case (held n) e).1 b.0 b.1 b.2))
      is-broken b (spent n) e = absurd ((case (spent n) e).0 b)

      is-spent : (Some → ⊥) × (None → ⊥) → (v : Ruling) → ruled_on B p ls ≡ v → ruled_on B p ls ≡ spent B
      is-spent h (broken n l) e = absurd (h.0 (case (broken n l) e))
      is-spent h (held n) e = absurd (h.1 (case (held n) e))
      is-spent h (spent n) e = e ∙ ap spent ((exact (spent n)).0 e).0

pub verdicts-exact : VerdictsExact
unfolding ruling
verdicts-exact a r = exact a.fields.bound (breaking a r) (lists_for a)

pub verdicts-by-case : VerdictsByCase
unfolding ruling
verdicts-by-case a r = by-case a.fields.bound (breaking a r) (lists_for a)

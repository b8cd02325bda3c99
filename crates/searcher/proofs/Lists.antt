-- The rows that a verdict shows, and the rows that are read.
use Rattle.std.specs.Prelude.{Result, Ok, Err, MatchResult, IsErrAnd}
use Prim.Native.Nat.{ℕ, ◌+◌, ◌-◌, ◌≤◌}
use mathlib.Core.Path.{◌≡◌, refl, sym, ap, subst, ◌∙◌}
use mathlib.Core.List.{List, [], ◌∷◌, ◌++◌, append_assoc}
use native.Mathlib.Omega.{arith}
use lib.ListN.{length, set, replicate, length-append, length-replicate, replicate-append-replicate}
use lib.Seq.{set_at, append_snoc}
use Rattle.rules.specs.declared.Judged.{Judged}
use Rattle.rules.specs.declared.Verdict.TheVariants.{Broken}
use Rattle.rules.specs.Basics.{padded}
use Rattle.rules.specs.Judging.{Ruling, broken, held, spent, judged, judged_of}
use Rattle.access.specs.declared.Layout.{Layout}
use Rattle.access.specs.Places.{Laid}
use Rattle.access.proofs.Using.{counts, tree-bounds}
use Rattle.searcher.specs.Searching.{continued, going}

-- ---- the rows that a verdict shows: zeros, until each is put in

zeros-padded : (n : ℕ) → n ≤ 8 → padded 8 [] ≡ padded 8 (replicate n 0)
unfolding padded
zeros-padded n h =
    let z : 8 ≡ n + (8 - n) = omega arith in
    rw length-replicate (ap (λ (k : ℕ). replicate k 0) z ∙ sym (replicate-append-replicate n (8 - n) 0))

pub zeros-shown : (m n : ℕ) → n ≤ 8 → judged (Broken m n) [] ≡ judged_of (broken m (replicate n 0))
unfolding judged_of judged
zeros-shown m n h = rw (length-replicate, zeros-padded n h)

set-padded : (p : List ℕ) (x v : ℕ) (k : List ℕ) → set (padded 8 (p ++ (x ∷ k))) (length p) v ≡ padded 8 (p ++ (v ∷ k))
unfolding padded
set-padded p x v k = simp (length-append, append_assoc) (set_at p x _ v (length p) refl)

module _ (at row : ℕ) where
  zero-last : (k : List ℕ) → replicate (at + 1) 0 ++ k ≡ replicate at 0 ++ (0 ∷ k)
  zero-last k = rw (← replicate-append-replicate {A = ℕ} at 1 0) (append_snoc (replicate at 0) 0 k)

  row_put : (k : List ℕ) → set (padded 8 (replicate (at + 1) 0 ++ k)) at row ≡ padded 8 (replicate at 0 ++ (row ∷ []) ++ k)
  row_put k =
      let p : List ℕ = replicate at 0 in
      rw (zero-last k, append_snoc p row k)
      (subst (λ (i : ℕ). set (padded 8 (p ++ (0 ∷ k))) i row ≡ padded 8 (p ++ (row ∷ k))) (length-replicate at 0) (set-padded p 0 row k))

  same_length : (k : List ℕ) → length (replicate (at + 1) 0 ++ k) ≡ length (replicate at 0 ++ (row ∷ []) ++ k)
  same_length k = rw (zero-last k, append_snoc (replicate at 0) row k, length-append, length-append)

  module _ (n : ℕ) (f : Judged) where
    -- a broken list's row is put in
    pub row-shown : (v : Ruling) → going (continued n (replicate (at + 1) 0) v) ≡ Err f → {i j : ℕ} → f.verdict ≡ Broken i j
        → going (continued n (replicate at 0 ++ (row ∷ [])) v) ≡ Err (record { verdict = f.verdict; rows = set f.rows at row })
    unfolding going continued judged_of judged
    row-shown (broken m k) e h = let w : judged_of (broken (n + m) (replicate (at + 1) 0 ++ k)) ≡ f = cc in rw (← w, row_put k, same_length k)
    row-shown (held m) e h = absurd cc
    row-shown (spent m) e h = absurd (let w : judged_of (spent (n + m)) ≡ f = cc in cc)

    -- no other verdict depends on the rows
    pub row-unshown : (v : Ruling) → going (continued n (replicate (at + 1) 0) v) ≡ Err f → ((i j : ℕ) → f.verdict ≡ Broken i j → ⊥)
        → going (continued n (replicate at 0 ++ (row ∷ [])) v) ≡ Err f
    unfolding going continued judged_of judged
    row-unshown (broken m k) e h = absurd (let w : judged_of (broken (n + m) (replicate (at + 1) 0 ++ k)) ≡ f = cc in h _ _ (ap (λ (f : Judged). f.verdict) (sym w)))
    row-unshown (held m) e h = absurd cc
    row-unshown (spent m) e h = e

  -- a row is put in where a list breaks the rule, and else nothing
  pub row-behind : (n : ℕ) (v : Ruling) {P : Judged → Judged → Type 0} {r s : Result ℕ Judged}
      → ((f g : Judged) → P f g → going (continued n (replicate (at + 1) 0) v) ≡ Err f → going (continued n (replicate at 0 ++ (row ∷ [])) v) ≡ Err g)
      → MatchResult r (λ x. s ≡ Ok x) (λ f. IsErrAnd s (P f)) → r ≡ going (continued n (replicate (at + 1) 0) v)
      → s ≡ going (continued n (replicate at 0 ++ (row ∷ [])) v)
  unfolding going continued
  row-behind n (broken m k) {r = Ok x} puts e h = absurd cc
  row-behind n (held m) {r = Ok x} puts e h = e ∙ h
  row-behind n (spent m) {r = Ok x} puts e h = absurd cc
  row-behind n v {r = Err f} {s = Ok x} puts e h = absurd e
  row-behind n v {r = Err f} {s = Err g} puts e h = sym (puts f g e (sym h))

-- ---- the rows that are read

pub few_rows : {file : List ℕ} {l : Layout} → Laid file l → l.rows.count ≤ 16
few_rows h = omega (arith, (counts h h.read).1, (tree-bounds h.read).rows)

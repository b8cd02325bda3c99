-- The layout of a file that was read, as the code finds it.
use Prim.Native.Nat.{ℕ, ◌+◌, ◌*◌, ◌≤◌}
use mathlib.Core.Path.{◌≡◌, sym, ap, subst, ◌∙◌}
use mathlib.Core.List.{List}
use native.Mathlib.Omega.{arith}
use lib.ListN.{length, get_or, take, drop}
use Rattle.rules.specs.declared.Fields.{Fields}
use Rattle.rules.specs.Basics.{number}
use Rattle.rules.specs.Reading.{Reader, size_of}
use Rattle.grammar.proofs.Keeping.{Stored}
use Rattle.access.specs.declared.Group.{Group}
use Rattle.access.specs.Trees.{TreeRead}
use Rattle.access.specs.Places.{past, Children}
use Rattle.access.proofs.Groups.{Items, children}
use Rattle.access.proofs.Trees.{Parts, found, tree-parts}

-- what the search for a group's children answers
abbrev Answered : (kind : ℕ) (file : List ℕ) (at : ℕ) → Group → Type 0
Answered kind file at r = (c : Children kind file at) → r ≡ record { at = at; count = c.count; end = past file at c.count }

-- it is the group of the tree, and so the next one begins at its end
module _
    {A : Type 0} {P : ℕ → A → ℕ → Type 0} {most kind : ℕ} {body : Reader A} {file : List ℕ} {g : Group} {xs : List A}
    (h : Items P most kind body file g xs) {at : ℕ} {r : Group} (e : at ≡ g.at) (k : Answered kind file at r)
  where
    pub group-is : r ≡ g
    unfolding children
    group-is = subst (λ (i : ℕ). Answered kind file i r → r ≡ g) (sym e) here k
      where
        here : Answered kind file g.at r → r ≡ g
        here k = let n = sym h.ends in k (children h) ∙ (λ i. record { at = g.at; count = g.count; end = n i })

    pub group-end : r.end ≡ g.end
    group-end = ap (λ (g : Group). g.end) group-is

-- where the record ends that begins at b and has n bytes
next : {A : Type 0} {r : Reader A} {file : List ℕ} {at to : ℕ} {a : A} → Stored file r at a to
    → (b n : ℕ) → b ≡ at → n ≡ number (take 2 (drop b file)) → b + n ≡ to
unfolding size_of
next {file = file} h b n e m = let z = ap (λ (k : ℕ). number (take 2 (drop k file))) e in omega (arith, h.size)

module _ {file : List ℕ} (t : TreeRead file) where
  p : Parts file t.tree (found t)
  p = tree-parts t

  pub twenty : 20 ≤ length file
  twenty = omega (arith, p.head.goes, p.head.fits, p.head.bounded.some-account)

  -- from k, the number of accounts
  module _ {k : ℕ} (e : k ≡ get_or file 6 0) where
    accounts : t.tree.fields.accounts ≡ k
    accounts = ap (λ (f : Fields). f.accounts) p.head.is ∙ sym e

    pub balances : (k ≤ 8) × (16 + 4 * k ≤ length file)
    balances = (omega (arith, accounts, p.head.bounded.few-accounts), omega (arith, accounts, p.head.goes, p.head.fits))

    pub initial-is : (16 + 4 * k ≡ (found t).initial) × (16 + 4 * k + 4 ≤ length file)
    initial-is = (omega (arith, p.head.goes, accounts), omega (arith, p.head.goes, accounts, p.initial.four, p.initial.fits))

    module _ {n : ℕ} (i : n ≡ number (take 2 (drop (16 + 4 * k) file))) where
      pub fallback-is : (16 + 4 * k + n ≡ (found t).fallback) × (16 + 4 * k + n + 4 ≤ length file)
      fallback-is = let z = next p.initial _ n initial-is.0 i in (z, omega (arith, p.fallback.four, p.fallback.fits))

      pub transitions-at : {m : ℕ} → m ≡ number (take 2 (drop (16 + 4 * k + n) file))
          → (16 + 4 * k + n + m ≡ (found t).transitions.at) × (16 + 4 * k + n + m ≤ length file)
      transitions-at j = let z = next p.fallback _ _ fallback-is.0 j in (z, omega (arith, p.fallback.fits))

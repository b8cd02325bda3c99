-- What a parsed file keeps, and an accepted one: that the tree was read and which layout and how many steps it has.
use Prim.Native.Nat.{ℕ, ◌+◌, ◌≤◌, ◌<◌}
use mathlib.Core.Path.{◌≡◌, refl, ap, subst, ◌∙◌}
use mathlib.Core.List.{List}
use mathlib.Core.Logic.{∥∥₁_elim}
use native.Mathlib.Omega.{arith}
use Rattle.std.proofs.Math.Nat.{ℕ_set}
use Rattle.std.proofs.Props.{props}
use lib.ListN.{length, take, drop}
use Rattle.rules.specs.Basics.{number}
use Rattle.rules.specs.Syntax.{Agreement}
use Rattle.rules.specs.Reading.{Reading, refused, read, size_of, read_tree}
use Rattle.rules.specs.Expanding.{expansion}
use Rattle.rules.specs.Accepting.{File, bad, good, file_of}
use Rattle.access.specs.declared.Layout.{Layout}
use Rattle.access.specs.Trees.{TreeRead, AcceptedFile, HasSteps}
use Rattle.access.specs.Places.{past, LaidOut, Laid}
use Rattle.access.proofs.Trees.{Parts, found, tree-parts, layout-one, laid, parts}
use Rattle.access.proofs.Using.{same-accepted, few-steps}
use Rattle.access.proofs.Layouts.{twenty}
use Rattle.access.proofs.Groups.{stands}

-- what a parsed file keeps, where a proof wants the tree itself: it is the file's
pub laid-of : {file : List ℕ} {l : Layout} → ∥ Laid file l ∥₁ → Laid file l
laid-of {file} {l} h = go (read_tree file) refl
  where
    go : (r : Reading Agreement) → read_tree file ≡ r → Laid file l
    go (refused n p) e = absurd (∥∥₁_elim h (λ x y. absurd x) (λ w. let k = w.read.is in cc))
    go (read t to left) e =
        let a : TreeRead file = record { tree = t; to = to; left = left; is = e } in
        let o = (tree-parts a).out in
        let same : found a ≡ l = ∥∥₁_elim h (hlevel props) (λ w. layout-one o (laid w a)) in
        record { read = a; out = subst (LaidOut file t) same o }

pub read-of : {file : List ℕ} {l : Layout} → ∥ Laid file l ∥₁ → TreeRead file
read-of h = (laid-of h).read

pub parts-of : {file : List ℕ} {l : Layout} (h : ∥ Laid file l ∥₁) → Parts file (read-of h).tree l
parts-of h = parts (laid-of h) (read-of h)

-- what an accepted file keeps, likewise
pub accepted-of : {file : List ℕ} {n : ℕ} → ∥ HasSteps file n ∥₁ → HasSteps file n
accepted-of {file} {n} h = go (file_of file) refl
  where
    go : (f : File) → file_of file ≡ f → HasSteps file n
    go (bad r) e = absurd (∥∥₁_elim h (λ x y. absurd x) (λ w. let k = w.0.is in cc))
    go (good t) e =
        let a : AcceptedFile file = record { tree = t; is = e } in
        (a, ∥∥₁_elim h (ℕ_set _ _) (λ w. w.1 ∙ ap (λ (t : Agreement). length (expansion t)) (same-accepted w.0 a)))

-- the number of steps of every tree that the file was accepted as
pub steps-are : {file : List ℕ} {n : ℕ} → HasSteps file n → (a : AcceptedFile file) → n ≡ length (expansion a.tree)
steps-are p a = p.1 ∙ ap (λ (t : Agreement). length (expansion t)) (same-accepted p.0 a)

pub few_of : {file : List ℕ} {n : ℕ} → ∥ HasSteps file n ∥₁ → n ≤ 1024
few_of h = let p = accepted-of h in omega (arith, p.1, few-steps p.0)

-- ---- the same bytes are read and accepted alike

abbrev pub read-moved : {file other : List ℕ} → other ≡ file → TreeRead file → TreeRead other
read-moved e t = record { tree = t.tree; to = t.to; left = t.left; is = ap read_tree e ∙ t.is }

abbrev pub accepted-moved : {file other : List ℕ} → other ≡ file → AcceptedFile file → AcceptedFile other
accepted-moved e a = record { tree = a.tree; is = ap file_of e ∙ a.is }

-- ---- the bounds that follow

module _ {file : List ℕ} {l : Layout} (h : ∥ Laid file l ∥₁) where
  pub twenty_of : 20 ≤ length file
  twenty_of = twenty (read-of h)

  module _ (i : ℕ) where
    pub row_in : i < l.rows.count → past file l.rows.at i + 28 ≤ length file
    row_in less = ((parts-of h).rows.item i less).is.fits

    pub rule_in : i < l.rules.count → past file l.rules.at i + 8 ≤ length file
    rule_in less = ((parts-of h).rules.item i less).is.fits

    pub transition_in : i < l.transitions.count → past file l.transitions.at i + 12 ≤ length file
    transition_in less = ((parts-of h).transitions.item i less).is.fits

    pub transition_last :
        i < l.transitions.count →
        past file l.transitions.at i + number (take 2 (drop (past file l.transitions.at i) file)) ≤ length file
    unfolding size_of
    transition_last less = (stands ((parts-of h).transitions.item i less).stored).high

pub ruleset transition_bounds = (transition_in, transition_last)

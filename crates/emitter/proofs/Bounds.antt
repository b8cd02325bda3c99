-- Where the parts of a record end and how many nodes and steps it has, for the arithmetic of the functions that expand it.
use Prim.Native.Nat.{ℕ, ◌+◌, ◌≤◌, ◌<◌}
use mathlib.Core.Path.{◌≡◌, refl}
use mathlib.Core.List.{List}
use native.Mathlib.Omega.{arith}
use lib.ListN.{length, take, drop}
use Rattle.rules.specs.Basics.{number}
use Rattle.rules.specs.Syntax.{Stmt}
use Rattle.rules.specs.Reading.{kind_of}
use Rattle.rules.specs.Expanding.{made}
use Rattle.records.specs.Counting.{step_count}
use Rattle.records.specs.Acceptance.{Good}
use Rattle.records.proofs.Goods.{sized, else-tree, for-tree}
use Rattle.emitter.specs.declared.Ends.{Ends}
use Rattle.emitter.specs.Writing.{GoesBack}
use Rattle.emitter.proofs.Counts.{size_is, made-few}
use Rattle.emitter.proofs.Fits.{guarded-tree, else-made, else-steps, for-made, for-steps}

pub makes_few : (t : Stmt) → made t < step_count t
makes_few = made-few

-- of a record whose length and kind were read
module _ {s : List ℕ} (a : Good s) where
  pub good_length : 4 ≤ length s
  good_length = let x = sized refl a in omega (arith, x.0, x.1)

  pub record_fits : (4 ≤ number (take 2 (drop 0 s))) × (number (take 2 (drop 0 s)) ≤ length s)
  record_fits = sized (size_is s refl) a

-- of an if or a while
module _ {s : List ℕ} (a : Good s) {back : ℕ} {e : Ends} (k : GoesBack back e s) where
  pub part_first :
      (8 ≤ number (take 2 (drop 0 s))) × (number (take 2 (drop 0 s)) ≤ length s)
      × (4 + number (take 2 (drop 4 s)) ≤ number (take 2 (drop 0 s)))
  part_first = let x = guarded-tree (size_is s refl) a k _ refl in (x.eight, (sized (size_is s refl) a).1, x.fits)

  pub part_makes : (1 ≤ made a.tree) × (2 ≤ step_count a.tree)
  part_makes = let x = guarded-tree (size_is s refl) a k _ refl in (omega (arith, x.nodes), omega (arith, x.steps))

-- of an if-else
module _ {s : List ℕ} (a : Good s) (k : kind_of s ≡ 34) where
  pub else_first :
      (8 ≤ number (take 2 (drop 0 s))) × (number (take 2 (drop 0 s)) ≤ length s)
      × (4 + number (take 2 (drop 4 s)) + 4 ≤ number (take 2 (drop 0 s)))
  else_first = let x = else-tree (size_is s refl) a k _ _ refl refl in (x.eight, (sized (size_is s refl) a).1, x.mid)

  pub else_fits : 4 + number (take 2 (drop 4 s)) + number (take 2 (drop (4 + number (take 2 (drop 4 s))) s)) ≤ number (take 2 (drop 0 s))
  else_fits = (else-tree (size_is s refl) a k _ _ refl refl).fits

  pub else_makes : (2 ≤ made a.tree) × (2 ≤ step_count a.tree)
  else_makes = let x = else-tree (size_is s refl) a k _ _ refl refl in (omega (arith, else-made x), omega (arith, else-steps x))

-- of a for
module _ {s : List ℕ} (a : Good s) (k : kind_of s ≡ 36) where
  pub for_first :
      (8 ≤ number (take 2 (drop 0 s))) × (number (take 2 (drop 0 s)) ≤ length s)
      × (4 + number (take 2 (drop 4 s)) + 4 ≤ number (take 2 (drop 0 s)))
  for_first = let x = for-tree (size_is s refl) a k _ _ _ refl refl refl in (x.eight, (sized (size_is s refl) a).1, x.second)

  pub for_third : 4 + number (take 2 (drop 4 s)) + number (take 2 (drop (4 + number (take 2 (drop 4 s))) s)) + 4 ≤ number (take 2 (drop 0 s))
  for_third = (for-tree (size_is s refl) a k _ _ _ refl refl refl).third

  pub for_fits :
      (q p : ℕ) → q ≡ number (take 2 (drop 4 s)) → p ≡ number (take 2 (drop (4 + q) s)) →
      4 + q + p + number (take 2 (drop (4 + q + p) s)) ≤ number (take 2 (drop 0 s))
  for_fits q p hq hp = (for-tree (size_is s refl) a k q p _ hq hp refl).fits

  pub for_makes : (3 ≤ made a.tree) × (4 ≤ step_count a.tree)
  for_makes = let x = for-tree (size_is s refl) a k _ _ _ refl refl refl in (omega (arith, for-made x), omega (arith, for-steps x))

pub ruleset statement_bounds = (makes_few, good_length, record_fits)

pub ruleset else_bounds = (good_length, else_first, else_fits, else_makes)

pub ruleset for_bounds = (good_length, for_first, for_third, for_fits, for_makes)

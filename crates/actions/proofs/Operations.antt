-- An expression with parts: how long its record and its parts are, and its value from theirs.
use Rattle.std.proofs.Common.{◌≡◌, ℕ, ◌+◌, ◌≤◌, List, length, take, drop, refl}
use Rattle.std.specs.Prelude.{Some, None}
use Rattle.rules.specs.Basics.{number, part}
use Rattle.rules.specs.Values.{Value, View, evaluate, apply, negated, both, on_value}
use Rattle.records.specs.Acceptance.{Accepted}
use Rattle.records.proofs.Accepts as laws
use Rattle.records.proofs.Accepts.{Binary, Negation}
use Rattle.actions.proofs.Fields.{long_is, kind_is}
use Rattle.actions.proofs.Leaves.{kind, kind_read, accepted_len}

-- the record's length, and its left operand's, as the code reads them
abbrev pub size : List ℕ → ℕ
size s = number (take 2 (drop 0 s))

abbrev pub left_size : List ℕ → ℕ
left_size s = number (take 2 (drop 6 s))

pub size_low : (s : List ℕ) → Accepted s → 4 ≤ size s
size_low s a = (laws.sized (long_is s refl) a).0

pub size_high : (s : List ℕ) → Accepted s → size s ≤ length s
size_high s a = (laws.sized (long_is s refl) a).1

pub binary_is : (s : List ℕ) (a : Accepted s) → kind s ≡ 80 → Binary (size s) (left_size s) s a.tree
binary_is s a k = laws.binary-tree (long_is s refl) a (kind_is s refl k) _ refl

pub not_is : (s : List ℕ) (a : Accepted s) → kind s ≡ 81 → Negation (size s) s a.tree
not_is s a k = laws.not-tree (long_is s refl) a (kind_is s refl k)

pub binary_low : (s : List ℕ) → Accepted s → kind s ≡ 80 → 10 ≤ size s
binary_low s a k = (binary_is s a k).ten

pub binary_fits : (s : List ℕ) → Accepted s → kind s ≡ 80 → 6 + left_size s ≤ size s
binary_fits s a k = (binary_is s a k).fits

pub left_is : {s : List ℕ} → Accepted s → kind s ≡ 80 → Accepted (part 6 (size s) s)
left_is {s} a k = (binary_is s a k).left

pub right_is : {s : List ℕ} → Accepted s → kind s ≡ 80 → Accepted (part (6 + left_size s) (size s) s)
right_is {s} a k = (binary_is s a k).right

pub operand_is : {s : List ℕ} → Accepted s → kind s ≡ 81 → Accepted (part 4 (size s) s)
operand_is {s} a k = (not_is s a k).child

pub ruleset operations = (kind_read, accepted_len, size_low, size_high, binary_low, binary_fits, left_is, right_is, operand_is)

-- the value: both parts have one, or one of them failed
module _ (w : View) {s : List ℕ} {n q : ℕ} (long : n ≡ size s) (mid : q ≡ left_size s) (is : kind s ≡ 80) where
  parts : (a : Accepted s) → Binary n q s a.tree
  parts a = laws.binary-tree (long_is s long) a (kind_is s refl is) _ mid

  pub left_failed : ((l : Accepted (part 6 n s)) → None ≡ evaluate w l.tree) → (a : Accepted s) → None ≡ evaluate w a.tree
  unfolding evaluate both on_value
  left_failed h a = let p = parts a in rw (p.is, ← h p.left)

  pub right_failed : {x : ℕ} → ((l : Accepted (part 6 n s)) → Some x ≡ evaluate w l.tree)
      → ((r : Accepted (part (6 + q) n s)) → None ≡ evaluate w r.tree) → (a : Accepted s) → None ≡ evaluate w a.tree
  unfolding evaluate both on_value
  right_failed h g a = let p = parts a in rw (p.is, ← h p.left, ← g p.right)

  pub applied : {x y o : ℕ} → ((l : Accepted (part 6 n s)) → Some x ≡ evaluate w l.tree)
      → ((r : Accepted (part (6 + q) n s)) → Some y ≡ evaluate w r.tree) → o ≡ number (take 2 (drop 4 s))
      → (a : Accepted s) → apply o x y ≡ evaluate w a.tree
  unfolding evaluate both on_value
  applied h g e a = let p = parts a in rw (p.is, ← h p.left, ← g p.right, e)

module _ (w : View) {s : List ℕ} {n : ℕ} (long : n ≡ size s) (is : kind s ≡ 81) where
  operand : (a : Accepted s) → Negation n s a.tree
  operand a = laws.not-tree (long_is s long) a (kind_is s refl is)

  pub not_applied : {v : Value} → ((e : Accepted (part 4 n s)) → v ≡ evaluate w e.tree) → (a : Accepted s) → on_value negated v ≡ evaluate w a.tree
  unfolding evaluate
  not_applied h a = let p = operand a in rw (p.is, ← h p.child)

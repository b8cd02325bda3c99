-- An expression with no parts: how long its record is, which place it names, and its value.
use Rattle.std.proofs.Common.{◌≡◌, ℕ, ◌≤◌, ◌<◌, List, length, get_or, take, drop, refl, arith}
use Rattle.std.specs.Prelude.{Some, None}
use Rattle.rules.specs.Basics.{number}
use Rattle.rules.specs.Values.{View, evaluate}
use Rattle.rules.specs.Reading.{kind_of}
use Rattle.records.specs.Acceptance.{Accepted}
use Rattle.records.proofs.KindLaws.{done, ◌&◌, others}
use Rattle.records.proofs.Accepts as laws
use Rattle.actions.proofs.Fields.{kind_is}

-- the kind, as the code reads it
abbrev pub kind : List ℕ → ℕ
kind s = number (take 2 (drop 2 s))

pub accepted_len : (s : List ℕ) → Accepted s → 4 ≤ length s
accepted_len s a = let h = laws.sized refl a in omega (arith, h)

pub constant_len : (s : List ℕ) → Accepted s → kind s ≡ 64 → 8 ≤ length s
constant_len s a k = let t = laws.constant-tree refl a (kind_is s refl k) in omega (arith, t.0, laws.sized refl a)

pub variable_len : (s : List ℕ) → Accepted s → kind s ≡ 65 → 6 ≤ length s
variable_len s a k = let t = laws.variable-tree refl a (kind_is s refl k) in omega (arith, t.0, laws.sized refl a)

pub local_len : (s : List ℕ) → Accepted s → kind s ≡ 66 → 6 ≤ length s
local_len s a k = let t = laws.local-tree refl a (kind_is s refl k) in omega (arith, t.0, laws.sized refl a)

pub argument_len : (s : List ℕ) → Accepted s → kind s ≡ 67 → 6 ≤ length s
argument_len s a k = let t = laws.argument-tree refl a (kind_is s refl k) in omega (arith, t.0, laws.sized refl a)

pub context_len : (s : List ℕ) → Accepted s → kind s ≡ 68 → 6 ≤ length s
context_len s a k = let t = laws.context-tree refl a (kind_is s refl k) in omega (arith, t.0, laws.sized refl a)

pub variable_place : (s : List ℕ) → Accepted s → kind s ≡ 65 → number (take 2 (drop 4 s)) < 16
variable_place s a k = (laws.variable-tree refl a (kind_is s refl k)).1

pub local_place : (s : List ℕ) → Accepted s → kind s ≡ 66 → number (take 2 (drop 4 s)) < 8
local_place s a k = (laws.local-tree refl a (kind_is s refl k)).1

pub argument_place : (s : List ℕ) → Accepted s → kind s ≡ 67 → number (take 2 (drop 4 s)) < 4
argument_place s a k = (laws.argument-tree refl a (kind_is s refl k)).1

pub context_place : (s : List ℕ) → Accepted s → kind s ≡ 68 → number (take 2 (drop 4 s)) < 4
context_place s a k = (laws.context-tree refl a (kind_is s refl k)).1

pub constant_value : (w : View) {s : List ℕ} (a : Accepted s) → kind s ≡ 64 → evaluate w a.tree ≡ Some (number (take 4 (drop 4 s)))
unfolding evaluate
constant_value w {s} a k = rw (laws.constant-tree refl a (kind_is s refl k)).1

pub variable_value : (w : View) {s : List ℕ} (a : Accepted s) → kind s ≡ 65 → evaluate w a.tree ≡ Some (get_or w.variables (number (take 2 (drop 4 s))) 0)
unfolding evaluate
variable_value w {s} a k = rw (laws.variable-tree refl a (kind_is s refl k)).2

pub local_value : (w : View) {s : List ℕ} (a : Accepted s) → kind s ≡ 66 → evaluate w a.tree ≡ Some (get_or w.locals (number (take 2 (drop 4 s))) 0)
unfolding evaluate
local_value w {s} a k = rw (laws.local-tree refl a (kind_is s refl k)).2

pub argument_value : (w : View) {s : List ℕ} (a : Accepted s) → kind s ≡ 67 → evaluate w a.tree ≡ Some (get_or w.arguments (number (take 2 (drop 4 s))) 0)
unfolding evaluate
argument_value w {s} a k = rw (laws.argument-tree refl a (kind_is s refl k)).2

pub context_value : (w : View) {s : List ℕ} (a : Accepted s) → kind s ≡ 68 → evaluate w a.tree ≡ Some (get_or w.context (number (take 2 (drop 4 s))) 0)
unfolding evaluate
context_value w {s} a k = rw (laws.context-tree refl a (kind_is s refl k)).2

-- there is no other kind with no parts
pub other_value : (w : View) {s : List ℕ} (a : Accepted s) → (kind s ≡ 64 → ⊥) → (kind s ≡ 65 → ⊥) → (kind s ≡ 66 → ⊥)
    → (kind s ≡ 67 → ⊥) → (kind s ≡ 68 → ⊥) → (kind s ≡ 80 → ⊥) → (kind s ≡ 81 → ⊥) → evaluate w a.tree ≡ None
unfolding kind_of
other_value w {s} a b c d e f g h = absurd (laws.other-tree refl a (others (b & c & d & e & f & g & h & done)))

pub kind_read : (s : List ℕ) → kind_of s ≡ kind s
unfolding kind_of
kind_read s = refl

pub ruleset leaf_bounds = (accepted_len, constant_len, variable_len, local_len, argument_len, context_len, variable_place, local_place, argument_place, context_place)

pub ruleset leaves = (leaf_bounds, constant_value, variable_value, local_value, argument_value, context_value, other_value, kind_read)

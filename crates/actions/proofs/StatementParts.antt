-- A statement's record: how long it and its parts are, and what its parts hold.
use Rattle.std.proofs.Common.{◌≡◌, ℕ, ◌+◌, ◌≤◌, List, length, take, drop, refl, arith}
use Rattle.rules.specs.Basics.{number, part}
use Rattle.rules.specs.Syntax.{if_then, while}
use Rattle.rules.specs.Reading.{kind_of}
use Rattle.records.specs.Acceptance.{Accepted, GoodSimple, Good, GoodAll}
use Rattle.records.proofs.KindLaws.{Others, part_kinds}
use Rattle.records.proofs.Goods as laws
use Rattle.records.proofs.Goods.{OneStep, Conditional, Alternative, Repetition, set-step}
use Rattle.actions.proofs.Fields.{long_is, kind_is}
use Rattle.actions.proofs.Leaves.{kind, kind_read}
use Rattle.actions.proofs.Operations.{size}
use Rattle.actions.proofs.Simples.{first}

-- the second part's size and the third's, after a first of q bytes and a second of p
abbrev pub second : (q : ℕ) → List ℕ → ℕ
second q s = number (take 2 (drop (4 + q) s))

abbrev pub third : (q p : ℕ) → List ℕ → ℕ
third q p s = number (take 2 (drop (4 + q + p) s))

pub statement_low : (s : List ℕ) → Good s → 4 ≤ size s
statement_low s a = (laws.sized (long_is s refl) a).0

pub statement_high : (s : List ℕ) → Good s → size s ≤ length s
statement_high s a = (laws.sized (long_is s refl) a).1

pub statement_len : (s : List ℕ) → Good s → 4 ≤ length s
statement_len s a = omega (arith, statement_low s a, statement_high s a)

-- ---- the parts of each kind

pub block_is : {s : List ℕ} (a : Good s) → kind s ≡ 32 → GoodAll (part 4 (size s) s)
block_is {s} a k = (laws.block-tree (long_is s refl) a (kind_is s refl k)).inner

pub if_is : (s : List ℕ) (a : Good s) → kind_of s ≡ 33 → Conditional if_then (size s) (first s) s a.at a.tree
if_is s a k = laws.if-tree (long_is s refl) a k _ refl

pub if_low : (s : List ℕ) → Good s → kind_of s ≡ 33 → 8 ≤ size s
if_low s a k = (if_is s a k).eight

pub if_fits : (s : List ℕ) → Good s → kind_of s ≡ 33 → 4 + first s ≤ size s
if_fits s a k = (if_is s a k).fits

pub if_test : {s : List ℕ} → Good s → kind_of s ≡ 33 → Accepted (part 4 (size s) s)
if_test {s} a k = (if_is s a k).test

pub if_body : {s : List ℕ} → Good s → kind_of s ≡ 33 → Good (part (4 + first s) (size s) s)
if_body {s} a k = (if_is s a k).body

pub while_is : (s : List ℕ) (a : Good s) → kind_of s ≡ 35 → Conditional while (size s) (first s) s a.at a.tree
while_is s a k = laws.while-tree (long_is s refl) a k _ refl

pub while_low : (s : List ℕ) → Good s → kind_of s ≡ 35 → 8 ≤ size s
while_low s a k = (while_is s a k).eight

pub while_fits : (s : List ℕ) → Good s → kind_of s ≡ 35 → 4 + first s ≤ size s
while_fits s a k = (while_is s a k).fits

pub while_test : {s : List ℕ} → Good s → kind_of s ≡ 35 → Accepted (part 4 (size s) s)
while_test {s} a k = (while_is s a k).test

pub while_body : {s : List ℕ} → Good s → kind_of s ≡ 35 → Good (part (4 + first s) (size s) s)
while_body {s} a k = (while_is s a k).body

pub else_is : (s : List ℕ) (a : Good s) → kind_of s ≡ 34 → Alternative (size s) (first s) (second (first s) s) s a.at a.tree
else_is s a k = laws.else-tree (long_is s refl) a k _ _ refl refl

pub else_low : (s : List ℕ) → Good s → kind_of s ≡ 34 → 8 ≤ size s
else_low s a k = (else_is s a k).eight

pub else_mid : (s : List ℕ) → Good s → kind_of s ≡ 34 → 4 + first s + 4 ≤ size s
else_mid s a k = (else_is s a k).mid

pub else_fits : (s : List ℕ) → Good s → kind_of s ≡ 34 → 4 + first s + second (first s) s ≤ size s
else_fits s a k = (else_is s a k).fits

pub else_test : {s : List ℕ} → Good s → kind_of s ≡ 34 → Accepted (part 4 (size s) s)
else_test {s} a k = (else_is s a k).test

pub else_yes : {s : List ℕ} → Good s → kind_of s ≡ 34 → Good (part (4 + first s) (size s) s)
else_yes {s} a k = (else_is s a k).yes

pub else_no : {s : List ℕ} → Good s → kind_of s ≡ 34 → Good (part (4 + first s + second (first s) s) (size s) s)
else_no {s} a k = (else_is s a k).no

pub for_is : (s : List ℕ) (a : Good s) → kind_of s ≡ 36
    → Repetition (size s) (first s) (second (first s) s) (third (first s) (second (first s) s) s) s a.at a.tree
for_is s a k = laws.for-tree (long_is s refl) a k _ _ _ refl refl refl

pub for_low : (s : List ℕ) → Good s → kind_of s ≡ 36 → 8 ≤ size s
for_low s a k = (for_is s a k).eight

pub for_second : (s : List ℕ) → Good s → kind_of s ≡ 36 → 4 + first s + 4 ≤ size s
for_second s a k = (for_is s a k).second

pub for_third : (s : List ℕ) → Good s → kind_of s ≡ 36 → 4 + first s + second (first s) s + 4 ≤ size s
for_third s a k = (for_is s a k).third

pub for_fits : (s : List ℕ) → Good s → kind_of s ≡ 36 → 4 + first s + second (first s) s + third (first s) (second (first s) s) s ≤ size s
for_fits s a k = (for_is s a k).fits

pub for_initial : {s : List ℕ} → Good s → kind_of s ≡ 36 → GoodSimple (part 4 (size s) s)
for_initial {s} a k = (set-step (for_is s a k).initial).step

pub for_test : {s : List ℕ} → Good s → kind_of s ≡ 36 → Accepted (part (4 + first s) (size s) s)
for_test {s} a k = (for_is s a k).test

pub for_closing : {s : List ℕ} → Good s → kind_of s ≡ 36 → GoodSimple (part (4 + first s + second (first s) s) (size s) s)
for_closing {s} a k = (set-step (for_is s a k).closing).step

pub for_body : {s : List ℕ} → Good s → kind_of s ≡ 36
    → Good (part (4 + first s + second (first s) s + third (first s) (second (first s) s) s) (size s) s)
for_body {s} a k = (for_is s a k).body

pub ruleset sizes = (kind_read, statement_low, statement_high, statement_len)

pub ruleset ifs = (sizes, if_low, if_fits, if_test, if_body)

pub ruleset elses = (sizes, else_low, else_mid, else_fits, else_test, else_yes, else_no)

pub ruleset whiles = (sizes, while_low, while_fits, while_test, while_body)

pub ruleset fors = (sizes, for_low, for_second, for_third, for_fits, for_initial, for_test, for_closing, for_body)

-- a statement of another kind than those with parts is of one step
pub one_step : {s : List ℕ} {k : ℕ} (a : Good s) → k ≡ kind s → Others k part_kinds → OneStep s a.at a.tree
one_step {s} a e h = laws.one-step refl a (rw (← kind_is s e refl) at h)

pub ruleset kinds = (sizes, block_is)

-- A set, transfer, require or return: how long its record and its parts are, and what it does.
use Rattle.std.proofs.Common.{◌≡◌, ℕ, ◌+◌, ◌≤◌, Bool, true, false, ltb, List, length, take, drop, refl, arith}
use Rattle.rules.specs.Basics.{number, part}
use Rattle.records.specs.Acceptance.{Accepted, GoodSimple}
use Rattle.records.proofs.KindLaws.{Others, step_kinds}
use Rattle.records.proofs.Simples as laws
use mathlib.Core.Logic.{inl, inr}
use borrow.Author.Tests.{ltb-true, ltb-false}
use Rattle.machine.specs.Runs.{Target}
use Rattle.actions.proofs.Fields.{long_is, kind_is}
use Rattle.actions.proofs.Leaves.{kind}
use Rattle.actions.proofs.Operations.{size}

-- the first 16-bit field, as the code reads it: a set's target, or the size of a transfer's account
abbrev pub first : List ℕ → ℕ
first s = number (take 2 (drop 4 s))

pub simple_low : (s : List ℕ) → GoodSimple s → 4 ≤ size s
simple_low s a = (laws.sized (long_is s refl) a).0

pub simple_high : (s : List ℕ) → GoodSimple s → size s ≤ length s
simple_high s a = (laws.sized (long_is s refl) a).1

pub simple_len : (s : List ℕ) → GoodSimple s → 4 ≤ length s
simple_len s a = omega (arith, simple_low s a, simple_high s a)

pub set_is : (s : List ℕ) (a : GoodSimple s) → kind s ≡ 16 → laws.SetTree (size s) s a.tree
set_is s a k = laws.set-tree (long_is s refl) a (kind_is s refl k)

pub transfer_is : (s : List ℕ) (a : GoodSimple s) → kind s ≡ 17 → laws.TransferTree (size s) (first s) s a.tree
transfer_is s a k = laws.transfer-tree (long_is s refl) a (kind_is s refl k) _ refl

pub set_low : (s : List ℕ) → GoodSimple s → kind s ≡ 16 → 10 ≤ size s
set_low s a k = (set_is s a k).ten

pub set_value : {s : List ℕ} → GoodSimple s → kind s ≡ 16 → Accepted (part 6 (size s) s)
set_value {s} a k = (set_is s a k).child

pub set_target : (s : List ℕ) → GoodSimple s → kind s ≡ 16 → Target (first s)
set_target s a k = go (ltb (first s) 256) refl
  where
    p : laws.SetTree (size s) s a.tree
    p = set_is s a k

    go : (b : Bool) → ltb (first s) 256 ≡ b → Target (first s)
    go true e = inl (p.variable (ltb-true _ 256 e))
    go false e = inr (ltb-false _ 256 e, p.local)

pub transfer_low : (s : List ℕ) → GoodSimple s → kind s ≡ 17 → 8 ≤ size s
transfer_low s a k = (transfer_is s a k).eight

pub transfer_fits : (s : List ℕ) → GoodSimple s → kind s ≡ 17 → 4 + first s ≤ size s
transfer_fits s a k = (transfer_is s a k).fits

pub account_is : {s : List ℕ} → GoodSimple s → kind s ≡ 17 → Accepted (part 4 (size s) s)
account_is {s} a k = (transfer_is s a k).account

pub amount_is : {s : List ℕ} → GoodSimple s → kind s ≡ 17 → Accepted (part (4 + first s) (size s) s)
amount_is {s} a k = (transfer_is s a k).amount

pub required_is : {s : List ℕ} → GoodSimple s → kind s ≡ 18 → Accepted (part 4 (size s) s)
required_is {s} a k = (laws.require-tree (long_is s refl) a (kind_is s refl k)).child

pub returned_is : {s : List ℕ} → GoodSimple s → kind s ≡ 19 → Accepted (part 4 (size s) s)
returned_is {s} a k = (laws.return-tree (long_is s refl) a (kind_is s refl k)).child

-- there is no other kind
pub no_other : {s : List ℕ} {k : ℕ} → GoodSimple s → k ≡ kind s → Others k step_kinds → ⊥
no_other {s} a e h = laws.other-tree refl a (rw (← kind_is s e refl) at h)

pub ruleset simples = (simple_len, simple_low, simple_high, set_low, set_value, set_target, transfer_low, transfer_fits, account_is, amount_is, required_is, returned_is)

-- Laws of a list of tests, of which the first that holds names the refusal.
use mathlib.Core.Path.{◌≡◌, refl}
use Prim.Native.Nat.{ℕ}
use mathlib.Core.Bool.{Bool, true, false}
use mathlib.Core.List.{List, [], ◌∷◌, ◌++◌}
use mathlib.Core.Option.{none, some}
use Rattle.std.specs.Prelude.{if◌then◌else◌}
use Rattle.rules.specs.Basics.{first_of, given}

-- no test holds
abbrev pub AllPassed : List (Bool × ℕ) → Type 0
AllPassed [] = Unit {0}
AllPassed (t ∷ ts) = (t.0 ≡ false) × AllPassed ts

pub none-passed : (ts : List (Bool × ℕ)) → first_of ts ≡ none → AllPassed ts
unfolding first_of
none-passed [] e = tt
none-passed (t ∷ ts) e = go (t.0) (none-passed ts) e
  where
    go : (b : Bool) → (first_of ts ≡ none → AllPassed ts) → (if b then some (t.1) else first_of ts) ≡ none → (b ≡ false) × AllPassed ts
    go true h e = absurd cc
    go false h e = (refl, h e)

pub passed-none : (ts : List (Bool × ℕ)) → AllPassed ts → first_of ts ≡ none
unfolding first_of
passed-none [] p = refl
passed-none (t ∷ ts) p = rw (p.0, passed-none ts p.1)

-- tests, and then others
pub first-joined : (ts rest : List (Bool × ℕ)) → first_of (ts ++ rest) ≡ given some (λ _. first_of rest) (first_of ts)
unfolding first_of given
first-joined [] rest = refl
first-joined (t ∷ ts) rest = go (t.0) (first-joined ts rest)
  where
    go : (b : Bool) → first_of (ts ++ rest) ≡ given some (λ _. first_of rest) (first_of ts)
        → (if b then some (t.1) else first_of (ts ++ rest)) ≡ given some (λ _. first_of rest) (if b then some (t.1) else first_of ts)
    go true e = refl
    go false e = e

pub first-before : (ts rest : List (Bool × ℕ)) {n : ℕ} → first_of ts ≡ some n → first_of (ts ++ rest) ≡ some n
unfolding given
first-before ts rest e = rw (first-joined ts rest, e)

-- others behind tests of which none holds
pub first-behind : (ts rest : List (Bool × ℕ)) → AllPassed ts → first_of (ts ++ rest) ≡ first_of rest
unfolding first_of
first-behind [] rest p = refl
first-behind (t ∷ ts) rest p = rw (p.0, first-behind ts rest p.1)

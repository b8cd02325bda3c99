-- A record's length and kind, as the code reads them.
use Prim.Native.Nat.{ℕ}
use mathlib.Core.Path.{◌≡◌, sym, ◌∙◌}
use mathlib.Core.List.{List}
use lib.ListN.{take, drop}
use Rattle.rules.specs.Basics.{number}
use Rattle.rules.specs.Reading.{size_of, kind_of}

pub long_is : (s : List ℕ) {n : ℕ} → n ≡ number (take 2 (drop 0 s)) → n ≡ size_of s
unfolding size_of
long_is s e = e

pub kind_is : (s : List ℕ) {k : ℕ} → k ≡ number (take 2 (drop 2 s)) → {n : ℕ} → k ≡ n → kind_of s ≡ n
unfolding kind_of
kind_is s was h = sym was ∙ h

-- A cache is sound: at first, and after an entry was written; and what an entry that is found says.
use Prim.Native.Nat.{ℕ}
use mathlib.Core.Path.{◌≡◌, sym, subst}
use mathlib.Core.Logic.{inl, inr}
use mathlib.Core.List.{List, []}
use native.Mathlib.Omega.{arith}
use lib.ListN.{replicate, get_or}
use Rattle.std.specs.Prelude.{◌<◌, All}
use Rattle.std.proofs.lemmas.List.Elements.{All-set, All-replicate}
use Rattle.searcher.specs.declared.cache.Entry.{Entry}
use Rattle.searcher.specs.declared.cache.Key.{Key}
use Rattle.searcher.specs.declared.plan.Search.{Search}
use Rattle.searcher.specs.Plans.{NoneBreaksFrom, Sound}
use Rattle.searcher.specs.Caching.{Cached, StoredOrNot}

module _ (s : Search) where
  abbrev Holds : Entry → Type 0
  Holds e = (e.number ≡ 0 → ⊥) → NoneBreaksFrom s e.number e.key

  pub empty-sound : (n : ℕ) (e : Entry) → e.number ≡ 0 → Sound s (replicate n (replicate 2 e))
  empty-sound n e z = All-replicate (All Holds) n (replicate 2 e) (All-replicate Holds 2 e (λ some. absurd (some z)))

  pub found_none : (cache : List (List Entry)) (n : ℕ) (k : Key) → Sound s cache → 0 < n
      → Cached cache (record { number = n; key = k }) → NoneBreaksFrom s n k
  found_none cache n k sound some (pair, (i, within, are), (j, less, is)) =
      subst Holds is (subst (All Holds) are (sound i _ within) j _ less) (λ z. omega (arith, some, z))

  pub stored-sound : {before after : List (List Entry)} {e : Entry} → StoredOrNot before after e → NoneBreaksFrom s e.number e.key
      → Sound s before → Sound s after
  stored-sound {e = e} (inl same) none sound = subst (Sound s) (sym same) sound
  stored-sound {before} {e = e} (inr w) none sound =
      subst (Sound s) (sym w.is)
      (All-set (All Holds) before w.pair _ (All-set Holds (get_or before w.pair []) w.place e (λ some. none) (sound w.pair [] w.within)) sound)

-- What expanding answers, and the words after it, in each case.
use Rattle.std.specs.Prelude.{Ok, Err}
use Prim.Native.Nat.{ℕ, ◌*◌, ◌≤◌, ◌<◌}
use mathlib.Core.Path.{◌≡◌, refl}
use mathlib.Core.Bool.{Bool, true, false}
use mathlib.Core.List.{List, [], ◌∷◌}
use lib.ListN.{length}
use borrow.Author.Tests.{lt-ltb, le-ltb}
use Rattle.rules.specs.declared.Refusal.{Refusal}
use Rattle.rules.specs.Basics.{given, first_of}
use Rattle.rules.specs.Syntax.{Agreement}
use Rattle.rules.specs.Expanding.{expansion, table}
use Rattle.rules.specs.Stepping.{begins_with, lent_tests}
use Rattle.rules.specs.Accepting.{bad, refusal, refused_by, file_of, on_file, lent, too_few, written, expand_file}
use Rattle.access.specs.Trees.{AcceptedFile}

-- ---- what is asked of lent words

-- the room, as it was tested
pub room-refused : (b : Bool) {r : Refusal} → Err r ≡ refused_by (first_of ((b, 11) ∷ [])) → (b ≡ true) × (r ≡ refusal 11)
unfolding first_of given
room-refused true {r} h = let z : r ≡ refusal 11 = cc in (refl, z)
room-refused false h = absurd cc

pub room-found : (b : Bool) → Ok tt ≡ refused_by (first_of ((b, 11) ∷ [])) → b ≡ false
unfolding first_of given
room-found true h = absurd cc
room-found false h = refl

module _ (a : Agreement) (ws : List ℕ) where
  pub few-words : length ws < 5 * length (expansion a) → Err (refusal 11) ≡ refused_by (first_of ((too_few a ws, 11) ∷ []))
  unfolding too_few first_of given
  few-words h = rw (lt-ltb (length ws) (5 * length (expansion a)) h)

  pub enough-words : 5 * length (expansion a) ≤ length ws → Ok tt ≡ refused_by (first_of ((too_few a ws, 11) ∷ []))
  unfolding too_few first_of given
  enough-words h = rw (le-ltb (length ws) (5 * length (expansion a)) h)

  pub words-refused : {r : Refusal} → Err r ≡ refused_by (first_of ((too_few a ws, 11) ∷ [])) → Err r ≡ refused_by (first_of (lent_tests a ws))
  unfolding lent_tests first_of given
  words-refused h = let x = room-refused _ h in rw (x.0, x.1)

  module _ (h : Ok tt ≡ refused_by (first_of ((too_few a ws, 11) ∷ []))) where
    pub words-other : false ≡ begins_with ws (table (expansion a)) → Err (refusal 12) ≡ refused_by (first_of (lent_tests a ws))
    unfolding lent_tests first_of given
    words-other e = rw (room-found _ h, ← e)

    pub words-good : true ≡ begins_with ws (table (expansion a)) → Ok tt ≡ refused_by (first_of (lent_tests a ws))
    unfolding lent_tests first_of given
    words-good e = rw (room-found _ h, ← e)

-- ---- expanding

pub expand-refused : (file ws : List ℕ) (r : Refusal) → file_of file ≡ bad r → lent (Err r) ws ≡ expand_file file ws
unfolding expand_file on_file
expand-refused file ws r e = rw e

module _ {file : List ℕ} (a : AcceptedFile file) (ws : List ℕ) where
  pub expand-few : {r : Refusal} → Err r ≡ refused_by (first_of ((too_few a.tree ws, 11) ∷ [])) → lent (Err r) ws ≡ expand_file file ws
  unfolding expand_file on_file
  expand-few h = let x = room-refused _ h in rw (a.is, x.0, x.1)

  pub expand-written :
      Ok tt ≡ refused_by (first_of ((too_few a.tree ws, 11) ∷ [])) → {n : ℕ} {vs : List ℕ} → n ≡ length (expansion a.tree) → vs ≡ written a.tree ws →
      lent (Ok n) vs ≡ expand_file file ws
  unfolding expand_file on_file
  expand-written h e f = rw (a.is, room-found _ h, e, f)

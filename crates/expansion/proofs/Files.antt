-- Words with room for the expansion of an accepted file.
use Prim.Native.Nat.{ℕ, ◌*◌, ◌≤◌}
use mathlib.Core.Path.{subst}
use native.Mathlib.Omega.{arith}
use mathlib.Core.List.{List}
use lib.ListN.{length}
use Rattle.rules.specs.Syntax.{Agreement}
use Rattle.rules.specs.Expanding.{expansion}
use Rattle.access.specs.declared.parsed.Parsed.{Parsed}
use Rattle.access.specs.Places.{Laid}
use Rattle.access.specs.Trees.{AcceptedFile, HasSteps}
use Rattle.access.proofs.Kept.{laid-of}
use Rattle.access.proofs.Using.{same-accepted}
use Rattle.expansion.specs.Writing.{Writable}

-- words with room for so many steps
pub writable : {file ws : List ℕ} {n : ℕ} → HasSteps file n → 5 * n ≤ length ws → Writable file ws
writable p room = record { accepted = p.0; room = omega (arith, p.1) }

-- a parsed file is laid out, and words have room for its steps
pub laid-out : (x : Parsed) {ws : List ℕ} → Writable x.file.now ws → Laid x.file.now x.layout × Writable x.file.now ws
laid-out x w = (laid-of x.laid, w)

-- words with room for the expansion have it, whatever the file was accepted as
pub has_room : {file ws : List ℕ} → Writable file ws → (a : AcceptedFile file) → 5 * length (expansion a.tree) ≤ length ws
has_room {ws = ws} p a = subst (λ (t : Agreement). 5 * length (expansion t) ≤ length ws) (same-accepted p.accepted a) p.room

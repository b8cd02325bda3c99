-- What is left of the number has so many digits or fewer, and some as long as none is stored or it is not 0.
use mathlib.Core.Path.{◌≡◌}
use Rattle.texts.proofs.Texts.{Left}
use Rattle.texts.proofs.page.Page.put_number.Given as goal

abbrev pub invariant-loop-i : goal.invariant-loop-i
invariant-loop-i l = (l.self ≡ l.fn.self) × ((l.m ≡ 0) → l.i ≡ 10) × Left l.n l.i l.m l.digits

-- A verdict as numbers, entry by entry.
use mathlib.Core.Path.{◌≡◌, refl, ap, ◌∙◌}
use mathlib.Core.List.{List, ◌++◌}
use Prim.Native.Nat.{ℕ}
use lib.ListN.{length}
use mir.Syntax.{w8}
use mir.Val.{Val}
use denote.Laws.{Is}
use denote.Struct.Declared as D
use borrow.Kind.Array.{e_int, good_length}
use Rattle.rules.specs.declared.Judged.{Judged}
use Rattle.rules.specs.declared.Verdict.{Verdict}
use Rattle.rules.specs.declared.Verdict.TheVariants.{Broken, Held, Spent, Refused}
use Rattle.rules.specs.Answers.{verdict_numbers, judged_numbers}
use Rattle.rules.specs.contracts.Judged as Judgeds
use Rattle.runner.proofs.Numbers.{entries, entries-all}

-- the rows of a verdict that a function is given are eight
pub judged-rows : (j : Judged) (vs : List Val) → Is (D.row Judgeds.the_type) j vs → length j.rows ≡ 8
judged-rows j vs p = good_length (e_int w8) 8 j.rows _ p.1.1.1.0

five : (v : Verdict) → length (verdict_numbers v) ≡ 5
unfolding verdict_numbers
five (Broken n k) = refl
five (Held n) = refl
five (Spent n) = refl
five (Refused r) = refl

pub judged-is : (j : Judged) (v : List ℕ) → length j.rows ≡ 8 → v ≡ verdict_numbers j.verdict → entries 5 0 v ++ entries 8 0 j.rows ≡ judged_numbers j
unfolding judged_numbers
judged-is j v rows e =
    ap (λ (l : List ℕ). l ++ entries 8 0 j.rows) (entries-all 5 v (ap length e ∙ five j.verdict) ∙ e) ∙ ap (λ (l : List ℕ). verdict_numbers j.verdict ++ l) (entries-all 8 j.rows rows)

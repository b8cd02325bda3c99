-- `check_words` meets its contract: the room first, and then the words.
use mathlib.Core.Path.{sym, ◌∙◌}
use Rattle.std.proofs.lemmas.Result.{err_from_is_err_and}
use Rattle.expansion.proofs.ExpandAnswers.{words-refused, words-other, words-good}
use Rattle.expansion.proofs.lent.check_words.Goals as goal

pub returns-in_err-check_room-clause-is : goal.returns-in_err-check_room-clause-is
returns-in_err-check_room-clause-is c =
    let p = err_from_is_err_and c.from_residual.result c.from_residual.ensures.1 in
    λ a. rw (p.1, p.2) (words-refused a.tree _ (sym c.in_err-check_room.was ∙ c.check_room.ensures.is a))

pub returns-then-is_expansion-clause-is : goal.returns-then-is_expansion-clause-is
returns-then-is_expansion-clause-is c =
    λ a. words-good a.tree _ (sym c.in_ok-check_room.was ∙ c.check_room.ensures.is a) (sym c.if-is_expansion.true ∙ c.is_expansion.ensures a)

pub returns-else-is_expansion-clause-is : goal.returns-else-is_expansion-clause-is
returns-else-is_expansion-clause-is c =
    λ a.
    rw c.placeless.ensures
    (words-other a.tree _ (sym c.in_ok-check_room.was ∙ c.check_room.ensures.is a) (sym c.if-is_expansion.false ∙ c.is_expansion.ensures a))

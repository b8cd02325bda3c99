-- A ruling's verdict is the one that ended the search, or that all lists held.
use mathlib.Core.Path.{sym, ◌∙◌}
use Rattle.searcher.proofs.Rulings.{all_tried, was-found}
use Rattle.searcher.proofs.search.answered.Goals as goal

pub returns-in-Ok : goal.returns-in-Ok
returns-in-Ok c = λ v h. c.unshown.ensures ∙ all_tried v _ (sym h ∙ c.in-Ok.is)

pub returns-in-Err : goal.returns-in-Err
returns-in-Err c = λ v h. was-found v _ (sym h ∙ c.in-Err.is)

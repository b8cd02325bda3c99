-- What the verdict answers, whatever it leaves in the words.
use mathlib.Core.Path.{ap}
use Rattle.rules.specs.declared.Judged.{Judged}
use Rattle.rules.specs.Accepting.{Lent}
use Rattle.texts.proofs.judged.Goals as goal

pub returns : goal.returns
returns c = ap (λ (l : Lent Judged). l.answer) c.verdict.ensures

-- `agreement_verdict` meets its contract: the verdict, as numbers.
use mathlib.Core.Path.{ap, ◌∙◌}
use Rattle.rules.specs.declared.Judged.{Judged}
use Rattle.rules.specs.Accepting.{Lent}
use Rattle.rules.specs.Answers.{judged_numbers}
use Rattle.searcher.proofs.interface.agreement_verdict.Goals as goal

pub returns : goal.returns
returns c =
    let e = c.verdict-j.ensures in
    record {
      words_are = ap (λ (l : Lent Judged). l.words) e;
      answer-is = c.judged_words.ensures ∙ ap (λ (l : Lent Judged). judged_numbers l.answer) e;
    }

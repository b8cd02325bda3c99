-- The verdict's numbers, then the rows.
use Rattle.searcher.proofs.Numbers.{judged-is, judged-rows}
use Rattle.searcher.proofs.interface.judged_words.Goals as goal

pub returns : goal.returns
returns c =
    rw (c.from-8.ensures, c.from-7.ensures, c.from-6.ensures, c.from-5.ensures, c.from-4.ensures, c.from-3.ensures, c.from-2.ensures, c.from.ensures)
    (judged-is c.args.j c.verdict_words-v.result (judged-rows c.args.j _ c.well_formed.0) c.verdict_words-v.ensures)

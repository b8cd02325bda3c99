-- A broken list's row is stored at its place. Another verdict shows no rows.
use Rattle.searcher.proofs.Lists.{row-shown, row-unshown}
use Rattle.searcher.proofs.search.with_row.Goals as goal

pub returns-in-Broken : goal.returns-in-Broken
returns-in-Broken c = λ n v e.
    let a = c.args in
    rw c.from.ensures (row-shown a.at a.row n a.judged v e c.in-Broken.is)

pub returns-in_default : goal.returns-in_default
returns-in_default c = λ n v e. let a = c.args in row-unshown a.at a.row n a.judged v e c.in_default.not-Broken

-- The verdict that a client gets is the ruling (verdict-is-ruling), so what is shown of rulings is shown of verdicts.
use mathlib.Core.Path.{◌≡◌}
use mathlib.Core.Bool.{true}
use Rattle.rules.specs.Basics.{first_of, given}
use Rattle.rules.specs.Accepting.{on_file}
use Rattle.rules.specs.Calling.{start_tree, start}
use Rattle.rules.specs.Judging.{is_completed, verdict_tests, judge, verdict}
use Rattle.rules.specs.Demands.{VerdictIsRuling}

pub verdict-is-ruling : VerdictIsRuling
unfolding verdict judge verdict_tests first_of given on_file start
verdict-is-ruling file words i a r e g few c =
    let done : is_completed (start_tree a).answer ≡ true = rw e at c in
    rw (e, g, few, done)

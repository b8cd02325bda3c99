use Rattle.std.specs.Prelude.{is_err}
use mathlib.Core.Path.{◌≡◌}
use mathlib.Core.Option.{none}
use lib.ListN.{drop}
use Rattle.rules.specs.Calling.{known, transition_of}
use Rattle.access.specs.Trees.{TreeRead}
use Rattle.access.specs.Places.{past}
use Rattle.access.specs.FoundAnswers.{found_of}
use Rattle.access.proofs.Finding.{Left}
use Rattle.access.proofs.parsed.Parsed.find_transition.Given as goal

abbrev pub invariant-loop : goal.invariant-loop
invariant-loop l =
    (l.at ≡ past l.file l.initial.at l.counter)
    × (found_of (is_err l.answer) none ≡ l.answer)
    × ((a : TreeRead l.file)
    → found_of (known a.tree l.name) (transition_of a.tree l.name l.state) ≡ Left (is_err l.answer) l.name l.state (drop l.counter a.tree.transitions))

-- A search that has come some way.
use Rattle.std.specs.Prelude.{ℕ, ◌+◌, Bool, List, ◌++◌, Result, Ok, Err}
use Rattle.rules.specs.declared.Judged.{Judged}
use Rattle.rules.specs.Syntax.{Rule, Agreement}
use Rattle.rules.specs.Calling.{call_tree, calls_from}
use Rattle.rules.specs.Judging.{events_in, rows_at, Ruling, broken, held, spent, judged_of}
use Rattle.searcher.specs.declared.Position.{Position}
use Rattle.searcher.specs.Standing.{breaks_after}

-- a ruling on lists that come after n others, each behind the rows l
unfoldable pub continued : (tried : ℕ) (rows : List ℕ) → Ruling → Ruling
continued n l (broken m k) = broken (n + m) (l ++ k)
continued n l (held m) = held (n + m)
continued n l (spent m) = spent (n + m)

-- what a ruling on some of a search's lists means for it: held, it goes on with the number tried; else that is its verdict
unfoldable pub going : Ruling → Result ℕ Judged
going (broken n l) = Err (judged_of (broken n l))
going (held n) = Ok n
going (spent n) = Err (judged_of (spent n))

-- whether a rule is broken by the end of the rows at these positions, called one after another, from where a search stands
unfoldable pub breaks_from : Agreement → Rule → Position → List ℕ → Bool
breaks_from a rule p l = breaks_after rule p.status (events_in (rows_at a l) (calls_from (call_tree a) p.state (rows_at a l)))

-- `is_named` meets its contract.
use borrow.Author.Tests.{eq-eqb, ne_eqb}
use Rattle.rules.specs.Reading.{named}
use Rattle.files.proofs.names.is_named.Goals as goal

pub returns-then-kind-eq1 : goal.returns-then-kind-eq1
unfolding named
returns-then-kind-eq1 c = rw (eq-eqb _ _ c.if-kind-eq1.true)

pub returns-else-kind-eq1 : goal.returns-else-kind-eq1
unfolding named
returns-else-kind-eq1 c = rw (ne_eqb _ _ c.if-kind-eq1.false) c.is_name.ensures

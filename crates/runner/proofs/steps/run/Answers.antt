-- `run` meets its contract: at the step that was found or at the fallback's entry.
use Rattle.std.specs.Prelude.{Ok}
use mathlib.Core.Path.{ap, subst}
use Rattle.rules.specs.Expanding.{expansion}
use Rattle.walker.specs.Tables.{EntryFound}
use Rattle.runner.proofs.Lent.{from-fallback}
use Rattle.runner.proofs.steps.run.Goals as goal

pub enter-requires : goal.enter-requires
enter-requires c =
    (λ a. let x = subst (EntryFound (expansion a.tree) _ _) (ap Ok c.in-Some.is) (c.requires.1 a) in (x.0, x.1), c.requires.0)

pub returns-in-Some : goal.returns-in-Some
returns-in-Some c = λ a.
    let x = subst (EntryFound (expansion a.tree) _ _) (ap Ok c.in-Some.is) (c.requires.1 a) in
    rw x.2 (c.enter.ensures a x.0 x.1.here)

pub returns-in-None : goal.returns-in-None
returns-in-None c = λ a.
    let x = subst (EntryFound (expansion a.tree) _ _) (ap Ok c.in-None.is) (c.requires.1 a) in
    from-fallback _ a.tree _ _ c.from.ensures (c.walk.ensures a) x.1

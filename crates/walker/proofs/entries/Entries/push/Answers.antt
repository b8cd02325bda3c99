use native.Mathlib.Omega.{arith}
use mathlib.Core.Path.{◌≡◌, ap}
use lib.ListN.{length}
use Rattle.walker.proofs.Zeros.{one-more}
use Rattle.walker.proofs.entries.Entries.push.Goals as goal

pub invariant_of-self : goal.invariant_of-self
invariant_of-self c =
    let h = c.self.invariant in
    let full : length c.self.inside.places ≡ 1024 = omega arith in
    one-more h full c.args.place (omega (arith, h.counts, ap length c.self.view_is, c.requires))

use native.Mathlib.Omega.{arith}
use mathlib.Core.Path.{ap, ◌≡◌}
use lib.ListN.{length}
use lib.Seq.{length-take-le}
use Rattle.texts.proofs.Texts.{filled-put}
use Rattle.texts.proofs.page.Page.put.Goals as goal

pub invariant_of-self : goal.invariant_of-self
invariant_of-self c =
    let s = c.self.inside in
    let full : length s.bytes ≡ 1024 = omega arith in
    let l = length-take-le s.length s.bytes (omega (arith, c.self.invariant.fits)) in
    rw c.copy_from_slice.ensures.after
    (filled-put s.length s.bytes c.args.text.now c.self.invariant full (omega (arith, l, ap length c.self.view_is, c.requires)))

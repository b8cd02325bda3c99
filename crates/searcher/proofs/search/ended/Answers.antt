-- The rule is broken within the bound; or the bound is met; or the list is the one that ended, and does not break the rule.
use Prim.Native.Nat.{ℕ, ◌+◌}
use mathlib.Core.Path.{sym, ◌∙◌, ap, refl}
use mathlib.Core.Bool.{Bool, false}
use mathlib.Core.List.{List, [], ◌∷◌}
use lib.ListN.{replicate}
use Rattle.searcher.specs.Searching.{going}
use Rattle.searcher.proofs.Rulings.{end-spent, end-broken, one-held}
use Rattle.searcher.proofs.Lists.{zeros-shown}
use Rattle.searcher.proofs.search.ended.Goals as goal
use Rattle.searcher.proofs.search.ended.Goals.{else-broken-via-then-broken+else-tried-bound, else-broken-via-else-broken}

pub returns-then-tried-bound : goal.returns-then-tried-bound
unfolding going
returns-then-tried-bound c = λ p b.
    let a = c.args in
    rw (end-broken a.bound p (replicate a.length 0) a.tried c.if-tried-bound.true (sym b ∙ c.if-broken.true), c.unshown.ensures, zeros-shown (a.tried + 1) a.length c.requires)

pub returns : goal.returns
returns c = λ p b.
    let a = c.args in
    let l = replicate a.length 0 in
    elim c.else-broken.branch [
      | else-broken-via-then-broken+else-tried-bound w ↦
          let never : List ℕ → Bool = λ _. false in
          c.all_ended.ensures never ([] ∷ []) l (one-held never refl)
          ∙ ap going (end-spent a.bound never l a.tried w.if-tried-bound.false ∙ sym (end-spent a.bound p l a.tried w.if-tried-bound.false))
      | else-broken-via-else-broken w ↦ c.all_ended.ensures p ([] ∷ []) l (one-held p (sym b ∙ w.if-broken.false))
    ]

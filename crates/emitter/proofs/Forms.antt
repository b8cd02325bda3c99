-- The expansion of each form of statement, from the writing of its parts.
use Prim.Native.Nat.{ℕ, ◌+◌}
use mathlib.Core.Path.{◌≡◌, refl, sym, ap, subst, ◌∙◌}
use mathlib.Core.List.{List, [], ◌∷◌}
use native.Mathlib.Omega.{arith}
use Rattle.rules.specs.Basics.{any}
use Rattle.rules.specs.Syntax.{Simple, Stmt, simple}
use Rattle.rules.specs.Reading.{size_of, kind_of}
use Rattle.rules.specs.Expanding.{step, step_kind, target_of, step_of, made, expand}
use Rattle.records.specs.Acceptance.{GoodSimple, GoodSet, Good}
use Rattle.records.proofs.KindLaws.{Others, part_kinds}
use Rattle.records.proofs.StepCounts.{expand-length}
use Rattle.records.proofs.Simples.{set-tree, transfer-tree, require-tree, return-tree}
use Rattle.records.proofs.Goods.{Alternative, Repetition, set-step, one-step}
use Rattle.emitter.specs.declared.Ends.{Ends}
use Rattle.emitter.specs.declared.Next.{Next}
use Rattle.emitter.specs.Writing.{Wrote, Emitted, Fit}
use Rattle.emitter.proofs.Words.{rebased, as-statement, wrote_then, then-expanded}
use Rattle.emitter.proofs.Fits.{Guarded, else-steps, for-steps}

-- ---- statements of one step

written :
    {tree : Stmt} {found at k target : ℕ} {x : Simple} {e : Ends} {y r : Next} {ws vs : List ℕ} →
    tree ≡ simple found x → found ≡ at → (step_kind x ≡ k) × (target_of x e.d e.r ≡ target) →
    Wrote (step e.o target k 0 at ∷ []) 0 y ws vs r → Emitted tree e y ws vs r
unfolding expand made step_of
written p q h w = rw (p, q) (as-statement (rw (h.0, h.1) w))

module _ {s : List ℕ} {m : ℕ} (long : m ≡ size_of s) (a : Good s) {at : ℕ} {e : Ends} {y r : Next} {ws vs : List ℕ} (here : a.at ≡ at) where
  one-expanded :
      {k target : ℕ} {form : GoodSimple s → Simple} → Others (kind_of s) part_kinds → ((x : GoodSimple s) → x.tree ≡ form x) →
      ((x : GoodSimple s) → (step_kind (form x) ≡ k) × (target_of (form x) e.d e.r ≡ target)) →
      Wrote (step e.o target k 0 at ∷ []) 0 y ws vs r → Emitted a.tree e y ws vs r
  one-expanded h is does = let x = one-step long a h in written (x.is ∙ ap (simple a.at) (is x.step)) here (does x.step)

  pub set-expanded : kind_of s ≡ 16 → Wrote (step e.o e.d 4 0 at ∷ []) 0 y ws vs r → Emitted a.tree e y ws vs r
  unfolding step_kind target_of any
  set-expanded k = one-expanded (rw k refl) (λ x. (set-tree long x k).is) (λ x. (refl, refl))

  pub transfer-expanded : kind_of s ≡ 17 → Wrote (step e.o e.d 5 0 at ∷ []) 0 y ws vs r → Emitted a.tree e y ws vs r
  unfolding step_kind target_of any
  transfer-expanded k = one-expanded (rw k refl) (λ x. (transfer-tree long x k _ refl).is) (λ x. (refl, refl))

  pub require-expanded : kind_of s ≡ 18 → Wrote (step e.o e.d 6 0 at ∷ []) 0 y ws vs r → Emitted a.tree e y ws vs r
  unfolding step_kind target_of any
  require-expanded k = one-expanded (rw k refl) (λ x. (require-tree long x k).is) (λ x. (refl, refl))

  pub return-expanded : kind_of s ≡ 19 → Wrote (step e.o e.r 7 0 at ∷ []) 0 y ws vs r → Emitted a.tree e y ws vs r
  unfolding step_kind target_of any
  return-expanded k = one-expanded (rw k refl) (λ x. (return-tree long x k).is) (λ x. (refl, refl))

-- a loop's set
pub loop-set-step : {s : List ℕ} (a : GoodSet s) (at o d r : ℕ) → step o d 4 0 at ≡ step_of at a.tree o d r
unfolding step_of step_kind target_of
loop-set-step {s} a at o d r =
    let x = set-step a in
    let y = set-tree refl x.step x.kind in
    sym (ap (λ z. step_of at z o d r) (x.is ∙ y.is))

-- ---- conditions

pub guarded-expanded :
    {m q : ℕ} {s : List ℕ} {tree : Stmt} {found at back : ℕ} {e b : Ends} {x v y z : Next} {ws vs us : List ℕ} →
    (p : Guarded m q s found tree e back) → Fit tree found at x s ws →
    v.node ≡ x.node + 1 → v.step ≡ x.step → b ≡ record { o = x.node; d = back; r = e.r } →
    Wrote (step e.o x.node 2 0 (at + 4) ∷ step e.o e.d 3 0 (at + 4) ∷ []) 0 v ws vs y →
    Emitted p.body.tree b y vs us z →
    Emitted tree e x ws us z
guarded-expanded {tree = tree} {e = e} {x = x} {z = z} {ws} {us = us} p f n h is w v =
    let k = p.steps in
    let steps = then-expanded (x.node + 1) (omega arith) (omega (arith, f.room)) w (rw is at v) in
    as-statement (rw (p.is x.node, p.nodes, f.here) (rebased h (omega arith) steps))

pub else-expanded :
    {m q p : ℕ} {s : List ℕ} {tree : Stmt} {found at : ℕ} {e yes no : Ends} {x v y z w : Next} {ws vs us zs : List ℕ} →
    (a : Alternative m q p s found tree) → Fit tree found at x s ws →
    v.node ≡ x.node + 2 → v.step ≡ x.step →
    yes ≡ record { o = x.node; d = e.d; r = e.r } → no ≡ record { o = x.node + 1; d = e.d; r = e.r } →
    Wrote (step e.o yes.o 2 0 (at + 4) ∷ step e.o no.o 3 0 (at + 4) ∷ []) 0 v ws vs y →
    Emitted a.yes.tree yes y vs us z →
    Emitted a.no.tree no z us zs w →
    Emitted tree e x ws zs w
unfolding expand made
else-expanded {e = e} {yes} {no} {x} a f hn hs hy hz c t u =
    let h = f.room in
    let k = else-steps a in
    let l = expand-length a.yes.tree x.node e.d e.r (x.node + 2) in
    let first = then-expanded (x.node + 2) (omega arith) (omega arith) (rw (hy, hz) at c) (rw hy at t) in
    let both = then-expanded (x.node + 2 + made a.yes.tree) (omega arith) (omega arith) first (rw hz at u) in
    rw (a.is, f.here) (as-statement (rebased hs (omega arith) both))

-- ---- loops

pub for-expanded :
    {m q p r : ℕ} {s : List ℕ} {tree : Stmt} {found at : ℕ} {e b : Ends} {x u v y z w : Next} {ws vs us zs ys : List ℕ} →
    (f : Repetition m q p r s found tree) → Fit tree found at x s ws →
    u.node ≡ x.node + 3 → u.step ≡ x.step → b ≡ record { o = x.node + 1; d = x.node + 2; r = e.r } →
    Wrote (step e.o x.node 4 0 (at + 4) ∷ []) 0 u ws vs v →
    Wrote (step x.node b.o 2 0 (at + (4 + q)) ∷ step x.node e.d 3 0 (at + (4 + q)) ∷ []) 0 v vs us y →
    Emitted f.body.tree b y us zs z →
    Wrote (step b.d x.node 4 0 (at + (4 + q + p)) ∷ []) 0 z zs ys w →
    Emitted tree e x ws ys w
unfolding expand made
for-expanded {q = q} {p = p} {at = at} {e = e} {b} {x} {u} {v} {z = z} {w = w} {ws = ws} {vs = vs} {zs = zs} {ys = ys} f g hn hs hb first test body last =
    let h = g.room in
    let k = for-steps f in
    let n = x.node in
    let l = expand-length f.body.tree (n + 1) (n + 2) e.r (n + 3) in
    let begin = subst (λ s. Wrote (s ∷ []) 0 u ws vs v) (loop-set-step f.initial (at + 4) e.o n e.r) first in
    let end = subst (λ s. Wrote (s ∷ []) 0 z zs ys w) (loop-set-step f.closing (at + (4 + q + p)) (n + 2) n e.r) (rw hb at last) in
    let tested = wrote_then (omega arith) begin (rw hb at test) in
    let done = then-expanded (n + 3) (omega arith) (omega arith) tested (rw hb at body) in
    rw (f.is, g.here) (as-statement (rebased hs (omega arith) (wrote_then (omega arith) done end)))

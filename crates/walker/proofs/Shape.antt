-- The form of an expansion: the two steps of a condition stand side by side, and every step's record is there.
use Prim.Native.Nat.{ℕ, ◌+◌, ◌≤◌}
use mathlib.Core.Path.{◌≡◌, refl}
use mathlib.Core.List.{List, [], ◌∷◌, ◌++◌}
use mathlib.Core.Option.{some}
use Rattle.rules.specs.Syntax.{Expr, Simple, Transition, Agreement}
use Rattle.rules.specs.Syntax.{Stmt, simple, block, if_then, if_else, while, for, Stmts, last, ◌then◌}
use Rattle.rules.specs.Reading.{expr_at, simple_at}
use Rattle.rules.specs.Expanding.{Step, step, step_of, joints, made, expand, expand_all, expand_transitions, expansion}
use Rattle.rules.specs.Demands.{All}
use Rattle.forms.proofs.Lookups.{kind-high}
use Rattle.forms.proofs.Accepted.{Reads, ReadsAll, Sound, Good}

module _ (file : List ℕ) (vars : ℕ) where
  pub data Shaped : List Step → Type 0 where
    end : Shaped []
    guard : {s : Step} {l : List Step} (e : Expr) → s.kind ≡ 1 → expr_at file vars s.at ≡ some e → Shaped l → Shaped (s ∷ l)
    one : {s : Step} {l : List Step} (x : Simple) → 4 ≤ s.kind → simple_at file vars s.at ≡ some x → Shaped l → Shaped (s ∷ l)
    two : {o y z at : ℕ} {l : List Step} (e : Expr) → expr_at file vars at ≡ some e → Shaped l → Shaped (step o y 2 0 at ∷ step o z 3 0 at ∷ l)

  both : {a b : List Step} → Shaped a → Shaped b → Shaped (a ++ b)
  both end k = k
  both (guard e q r h) k = guard e q r (both h k)
  both (one x q r h) k = one x q r (both h k)
  both (two e r h) k = two e r (both h k)

  single : (at : ℕ) (x : Simple) (o d r : ℕ) {l : List Step} → simple_at file vars at ≡ some x → Shaped l → Shaped (step_of at x o d r ∷ l)
  unfolding step_of
  single at x o d r q h = one x (kind-high x) q h

  mutual
    unfolding expand expand_all

    shaped : (s : Stmt) (o d r n : ℕ) → Reads file vars s → Shaped (expand s o d r n)
    shaped (simple at x) o d r n q = single at x o d r q end
    shaped (block ss) o d r n q = all-shaped ss o n d r (n + joints ss) q
    shaped (if_then at e s) o d r n q = two e q.0 (shaped s n d r (n + 1) q.1)
    shaped (if_else at e s t) o d r n q = two e q.0 (both (shaped s n d r (n + 2) q.1) (shaped t (n + 1) d r (n + 2 + made s) q.2))
    shaped (while at e s) o d r n q = two e q.0 (shaped s n o r (n + 1) q.1)
    shaped (for a x at e b y s) o d r n q =
        single a x o n r q.0 (two e q.1 (both (shaped s (n + 1) (n + 2) r (n + 3) q.3) (single b y (n + 2) n r q.2 end)))

    all-shaped : (ss : Stmts) (o j d r n : ℕ) → ReadsAll file vars ss → Shaped (expand_all ss o j d r n)
    all-shaped (last s) o j d r n q = shaped s o d r n q
    all-shaped (s then ss) o j d r n q = both (shaped s o j r n q.0) (all-shaped ss j (j + 1) d r (n + made s) q.1)

  transitions-shaped : {S : ℕ} (ts : List Transition) (n : ℕ) → All (Sound file vars S) ts → Shaped (expand_transitions ts n)
  unfolding expand_transitions
  transitions-shaped [] n h = end
  transitions-shaped (t ∷ ts) n (All.more h hs) =
      guard t.guard refl h.guard-reads
      (both (shaped t.action n t.to t.to (n + 1) h.action-reads) (transitions-shaped ts (n + 1 + made t.action) hs))

pub expansion-shaped : (file : List ℕ) (a : Agreement) → Good file a → Shaped file a.fields.variables (expansion a)
unfolding expansion
expansion-shaped file a h =
    let v = a.fields.variables in
    let S = a.fields.states in
    let s = a.fields.start in
    let n = S + 3 + made a.initial in
    both file v
    (both file v (shaped file v a.initial (S + 2) s s (S + 3) h.initial-reads) (shaped file v a.fallback (S + 1) S S n h.fallback-reads))
    (transitions-shaped file v a.transitions (n + made a.fallback) h.sound)

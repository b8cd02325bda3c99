-- What the check makes of a statement record's body, by its kind, and of its parts.
use Prim.Native.Nat.{ℕ, ◌+◌, ◌≤◌}
use mathlib.Core.Path.{◌≡◌, refl, sym, ap, ◌∙◌}
use mathlib.Core.Bool.{false}
use mathlib.Core.Logic.{◌⊎◌, inl, inr}
use mathlib.Core.List.{List}
use native.Mathlib.Omega.{arith}
use lib.ListN.{length}
use Rattle.rules.specs.Basics.{choose, any}
use Rattle.rules.specs.Syntax.{Expr, Simple, set, transfer, require, return, Stmt, simple, block, if_then, if_else, while}
use Rattle.rules.specs.Reading.{Reading, read, Reader, after, ◌>>=◌, pure, refuse, statements, expression, placed, set_body, simples, statement_body, loop_set, statement}
use Rattle.std.specs.Prelude.{Ok}
use Rattle.records.specs.declared.answers.Checked.{Checked}
use Rattle.records.specs.declared.part.Part.{Part}
use Rattle.records.specs.Checking.{Answer, of_part, outcome, found, refused_at, no_steps, counted, added, checked_on, ranged, pair}
use Rattle.records.specs.Counting.{step_count, block_count, target, for_head}
use Rattle.records.proofs.Readers.{Steady, Reached, reaches, steady-pair, steady-ranged, then-pure, then_same, counts, counts-more, then-onward, pair-onward, pair_then, ranged-then}
use Rattle.records.proofs.ExpressionLaws.{expression-pays, steady-expression}
use Rattle.records.proofs.StatementLaws.{loop-set-pays, steady-loop-set, steady-statement}
use Rattle.records.proofs.KindLaws.{Others, choose-none, statement_kinds}
use Rattle.records.proofs.StepCounts.{count-simple, count-if, count-else, count-while, count-for}

abbrev two : {A : Type 0} → A → ℕ
two a = 2

abbrev four : {A : Type 0} → A → ℕ
four a = 4

one-step : (at : ℕ) (q : Reading Simple) → outcome step_count (after q (λ x m l. read (simple at x) m l)) ≡ added 1 (outcome no_steps q)
one-step at q = then-pure step_count (simple at) q ∙ counts (λ x. step_count (simple at x)) 1 q (count-simple at) ∙ counts-more 1 q

module _ (vars levels start at : ℕ) (s : List ℕ) where
  abbrev e : Reader Expr
  e = expression vars false levels

  abbrev l : Reader Simple
  l = loop_set vars levels

  abbrev st : Reader Stmt
  st = statement vars levels

  -- an expression pays for up to four steps, and so does a loop's set
  he : (c : ℕ) → c ≤ 4 → Steady 0 (λ _. c) e
  he = expression-pays vars false levels

  hl : (c : ℕ) → c ≤ 4 → Steady 0 (λ _. c) l
  hl = loop-set-pays vars levels

  pub set-onward : outcome no_steps (set_body vars e start at s) ≡ checked_on no_steps e start at s (outcome no_steps (ranged (target vars) start at s))
  unfolding set_body
  set-onward =
      ap (outcome no_steps) (ranged-then (target vars) (λ t. e >>= λ x. pure (set t x)) start at s)
      ∙ then-onward (steady-ranged {k = 0} (target vars)) e no_steps no_steps set (λ a b. refl) start at s

  pub transfer-onward : outcome no_steps (pair e e start at s) ≡ checked_on no_steps e start at s (outcome no_steps (e start at s))
  transfer-onward = pair-onward (he 0 (omega arith)) (he 0 (omega arith)) start at s

  -- a condition, which pays for the two steps that are not a statement's
  condition : outcome two (e start at s) ≡ counted 2 (outcome no_steps (e start at s))
  condition = counts two 2 (e start at s) λ _. refl

  -- what stands before a for's body pays for the four steps that are not the body's
  for-steady : Steady 0 four (for_head vars levels)
  for-steady = steady-pair (steady-pair (hl 4 (omega arith)) (he 0 (omega arith))) (hl 0 (omega arith))

  pub for-head : outcome no_steps (for_head vars levels start at s) ≡ checked_on no_steps l start at s (checked_on no_steps e start at s (outcome no_steps (l start at s)))
  for-head =
      let i = hl 0 (omega arith) in
      let h = he 0 (omega arith) in
      pair-onward (steady-pair i h) i start at s ∙ ap (checked_on no_steps l start at s) (pair-onward i h start at s)

  -- ---- what the check makes of each kind

  abbrev answer : (kind : ℕ) → Answer
  answer kind = outcome step_count (statement_body vars e l st kind start at s)

  pub set_is : {kind : ℕ} → kind ≡ 16 → answer kind ≡ added 1 (outcome no_steps (set_body vars e start at s))
  unfolding statement_body simples placed choose
  set_is k = rw k (one-step start (set_body vars e start at s))

  pub transfer-is : {kind : ℕ} → kind ≡ 17 → answer kind ≡ added 1 (outcome no_steps (pair e e start at s))
  unfolding statement_body simples placed choose pair
  transfer-is k =
      let one : Expr → (m : ℕ) (b : List ℕ) → Reading Simple = λ x m b. after (e start m b) (λ y m b. read (transfer x y) m b) in
      let two : Expr → (m : ℕ) (b : List ℕ) → Reading (Expr × Expr) = λ x m b. after (e start m b) (λ y m b. read (x, y) m b) in
      rw k
      (one-step start ((e >>= λ x. e >>= λ y. pure (transfer x y)) start at s)
      ∙ ap (added 1) (then_same (e start at s) one two no_steps no_steps λ x m b. then-pure no_steps (transfer x) (e start m b) ∙ sym (then-pure no_steps (λ y. (x, y)) (e start m b))))

  -- a require and a return
  pub value-is : {kind : ℕ} → (kind ≡ 18) ⊎ (kind ≡ 19) → answer kind ≡ added 1 (outcome no_steps (e start at s))
  unfolding statement_body simples placed choose
  value-is (inl k) = rw k (one-step start ((e >>= λ x. pure (require x)) start at s) ∙ ap (added 1) (then-pure no_steps require (e start at s)))
  value-is (inr k) = rw k (one-step start ((e >>= λ x. pure (return x)) start at s) ∙ ap (added 1) (then-pure no_steps return (e start at s)))

  pub block-is : {kind : ℕ} → kind ≡ 32 → answer kind ≡ outcome block_count (statements (length s) st start at s)
  unfolding statement_body simples placed choose
  block-is k = rw k (then-pure step_count block (statements (length s) st start at s))

  -- a statement after c
  abbrev next : Answer → Answer
  next = checked_on step_count st start at s

  -- an if and a while
  pub if-is : {kind : ℕ} → (kind ≡ 33) ⊎ (kind ≡ 35) → answer kind ≡ next (counted 2 (outcome no_steps (e start at s)))
  unfolding statement_body simples placed choose
  if-is (inl k) = rw k (then-onward (he 2 (omega arith)) st step_count step_count (if_then at) (count-if at) start at s ∙ ap next condition)
  if-is (inr k) = rw k (then-onward (he 2 (omega arith)) st step_count step_count (while at) (count-while at) start at s ∙ ap next condition)

  pub else_is : {kind : ℕ} → kind ≡ 34 → answer kind ≡ next (next (counted 2 (outcome no_steps (e start at s))))
  unfolding statement_body simples placed choose
  else_is k =
      let h = he 2 (omega arith) in
      let i = steady-statement vars levels in
      rw k
      (ap (outcome step_count) (pair_then e st (λ x y. st >>= λ z. pure (if_else at x y z)) start at s)
      ∙ then-onward (steady-pair h i) st step_count step_count (λ p z. if_else at p.0 p.1 z) (λ p z. count-else at p.0 p.1 z) start at s
      ∙ ap next (pair-onward h i start at s ∙ ap next condition))

  pub for-is : {kind : ℕ} → kind ≡ 36 → answer kind ≡ next (counted 4 (outcome no_steps (for_head vars levels start at s)))
  unfolding statement_body simples placed choose
  for-is k =
      let more : Stmt → ℕ = λ y. 4 + step_count y in
      let body : (m : ℕ) (b : List ℕ) → Reading Stmt = λ m b. after (st start m b) (λ y m b. read y m b) in
      let closing : (m : ℕ) (b : List ℕ) → Reading Stmt = λ m b. after (l start m b) (λ _. body) in
      let condition : (m : ℕ) (b : List ℕ) → Reading Stmt = λ m b. after (e start m b) (λ _. closing) in
      rw k
      (then_same (l start at s) _ (λ _. condition) step_count more (λ i m b.
      then_same (e start m b) _ (λ _. closing) step_count more λ x n c.
      then_same (l start n c) _ (λ _. body) step_count more λ k o d.
      then_same (st start o d) _ (λ y m b. read y m b) step_count more λ y p f. ap (found p) (count-for at i m x n k y))
      ∙ ap (outcome more) (pair_then l e (λ i x. l >>= λ k. st >>= λ y. pure y) start at s ∙ pair_then (pair l e) l (λ p k. st >>= λ y. pure y) start at s)
      ∙ then-onward for-steady st step_count more (λ p y. y) (λ p y. refl) start at s ∙ ap next (counts four 4 (for_head vars levels start at s) λ _. refl))

  pub other-is : (kind : ℕ) → Others kind statement_kinds → answer kind ≡ refused_at 3 start
  unfolding statement_body simples placed refuse any
  other-is kind h = rw (choose-none kind _ h)

-- how far a for's head goes, and where an if ends
pub steady-head : (vars levels : ℕ) → Steady 0 no_steps (for_head vars levels)
steady-head vars levels = steady-pair (steady-pair (steady-loop-set vars levels) (steady-expression vars false levels)) (steady-loop-set vars levels)

pub if-reaches : (vars levels : ℕ) (p : Part) {c : Checked} → let next : Answer → Answer = checked_on step_count (statement vars levels) p.start p.at p.bytes.now in
    Ok c ≡ next (counted 2 (outcome no_steps (of_part (expression vars false levels) p))) → Reached p c
if-reaches vars levels p h =
    let x = expression-pays vars false levels 2 (omega arith) in
    let y = steady-statement vars levels in
    let next : Answer → Answer = checked_on step_count (statement vars levels) p.start p.at p.bytes.now in
    reaches (steady-pair x y) p (h ∙ ap next (sym (condition vars levels p.start p.at p.bytes.now)) ∙ sym (pair-onward x y p.start p.at p.bytes.now))

-- A walk through a block's statements.
use Prim.Native.Nat.{ℕ, ◌+◌, ◌≤◌, ◌<◌}
use mathlib.Core.Path.{◌≡◌, refl, sym, ap, ap₂, subst, ◌∙◌}
use mathlib.Core.List.{List}
use native.Mathlib.Omega.{arith}
use native.Mathlib.Decide.{dec_le}
use lib.ListN.{length, length-append, take, drop}
use Rattle.rules.specs.Basics.{number}
use Rattle.rules.specs.Syntax.{Stmt, block, Stmts, last, ◌then◌}
use Rattle.rules.specs.Expanding.{joints, made, made_all, expand, expand_all, table}
use Rattle.records.specs.Checking.{from}
use Rattle.records.specs.Counting.{step_count}
use Rattle.records.specs.Acceptance.{GoodAll}
use Rattle.grammar.proofs.Bytes.{part-all}
use Rattle.records.proofs.Parts.{from-length}
use Rattle.records.proofs.StepCounts.{expand-length, count-last, count-more}
use Rattle.records.proofs.GoodBlocks.{moved, Turn, turn}
use Rattle.emitter.specs.declared.Ends.{Ends}
use Rattle.emitter.specs.declared.Next.{Next}
use Rattle.emitter.specs.Writing.{over, Emitted, Fit}
use Rattle.emitter.proofs.Counts.{size_is, joints-last, joints-more}
use Rattle.emitter.proofs.Words.{steps-over}

-- ---- a block's nodes and steps

pub made_block : (ss : Stmts) → made (block ss) ≡ joints ss + made_all ss
unfolding made
made_block ss = refl

made-last : (s : Stmt) {ss : Stmts} → ss ≡ last s → made_all ss ≡ made s
unfolding made_all
made-last s h = ap made_all h

made_more : (s : Stmt) (rest : Stmts) {ss : Stmts} → ss ≡ s then rest → made_all ss ≡ made s + made_all rest
unfolding made_all
made_more s rest h = ap made_all h

steps-last : (s : Stmt) {ss : Stmts} → ss ≡ last s → step_count (block ss) ≡ step_count s
steps-last s h = ap (λ z. step_count (block z)) h ∙ count-last s

steps-more : (s : Stmt) (rest : Stmts) {ss : Stmts} → ss ≡ s then rest → step_count (block ss) ≡ step_count s + step_count (block rest)
steps-more s rest h = ap (λ z. step_count (block z)) h ∙ count-more s rest

-- it does not matter which nodes lie between the statements
pub all-length : (ss : Stmts) (o j d r n : ℕ) → length (expand_all ss o j d r n) ≡ step_count (block ss)
unfolding expand_all
all-length (last s) o j d r n = expand-length s o d r n ∙ sym (count-last s)
all-length (s then ss) o j d r n =
    length-append (expand s o j r n) (expand_all ss j (j + 1) d r (n + made s))
    ∙ ap₂ (λ a b. a + b) (expand-length s o j r n) (all-length ss j (j + 1) d r (n + made s))
    ∙ sym (count-more s ss)

-- ---- the walk

-- After k bytes of a block: o and j are the nodes before and after the next statement. Expanding the statements that are left gives
-- what expanding all gives.
pub record Left (ss : Stmts) (at : ℕ) (e : Ends) (x : Next) (s before : List ℕ) (k o j : ℕ) (next : Next) (words : List ℕ) : Type 0 where
  pub left : GoodAll (from k s)
  pub left_at : left.at ≡ at + k
  pub joint : j + joints left.tree ≡ x.node + joints ss
  pub nodes : next.node + made_all left.tree ≡ x.node + made (block ss)
  pub steps : next.step + step_count (block left.tree) ≡ x.step + step_count (block ss)
  pub same : over next.step (table (expand_all left.tree o j e.d e.r next.node)) words ≡ over x.step (table (expand (block ss) e.o e.d e.r x.node)) before

pub starts :
    {s : List ℕ} (a : GoodAll s) {at : ℕ} {e : Ends} {x y : Next} {c : ℕ} {ws : List ℕ} → a.at ≡ at → c ≡ joints a.tree →
    y.node ≡ x.node + c → y.step ≡ x.step →
    Left a.tree at e x s ws 0 e.o x.node y ws
unfolding expand
starts {s} a h g n p =
    record {
      left = moved (sym (part-all 0 s)) a;
      left_at = omega arith;
      joint = refl;
      nodes = omega (arith, made_block a.tree);
      steps = omega arith;
      same = rw (n, p, g);
    }

-- a turn, where the statement's length was read
pub next-turn : (k : ℕ) (s : List ℕ) {q : ℕ} → q ≡ number (take 2 (drop 0 (from k s))) → (b : GoodAll (from k s)) → Turn k q s b.at b.tree
next-turn k s e b = turn k _ s (size_is (from k s) e) b

-- After k bytes of a block so many joints have been counted: one more stands before each statement that is left.
pub record Counted {s : List ℕ} (a : GoodAll s) (k count : ℕ) : Type 0 where
  pub more : k < length s → (b : GoodAll (from k s)) × (joints a.tree ≡ count + 1 + joints b.tree)
  pub done : length s ≤ k → joints a.tree ≡ count

-- the statement after k bytes, which ends after n, is passed
pub counted-more :
    {s : List ℕ} (a : GoodAll s) (k n count : ℕ) {q : ℕ} → n ≡ k + q → (b : GoodAll (from k s)) → q ≡ number (take 2 (drop 0 (from k s))) →
    joints a.tree ≡ count + joints b.tree → (n ≤ length s) × (k + 4 ≤ n) × Counted a n count
counted-more {s} a k n count {q} z b e h =
    let t = next-turn k s e b in
    let passed : Counted a (k + q) count =
    record {
      more = λ l. let g = t.goes l in (g.0, omega (arith, joints-more t.first.tree g.0.tree g.2));
      done = λ l. omega (arith, joints-last t.first.tree (t.ends l));
    } in
    (omega (arith, t.fits), omega (arith, t.low), subst (λ (m : ℕ). Counted a m count) (sym z) passed)

-- the next statement, q bytes long
module _
    {ss : Stmts} {found at : ℕ} {e : Ends} {x : Next} {s ws : List ℕ} {k o j : ℕ} {next : Next} {vs : List ℕ}
    (f : Fit (block ss) found at x s ws) (l : Left ss at e x s ws k o j next vs)
    {q : ℕ} (t : Turn k q s l.left.at l.left.tree)
  where
    within : (made t.first.tree ≤ made_all l.left.tree) × (step_count t.first.tree ≤ step_count (block l.left.tree))
    within = go (dec_le (length s) (k + q))
      where
        go : Dec (length s ≤ k + q) → (made t.first.tree ≤ made_all l.left.tree) × (step_count t.first.tree ≤ step_count (block l.left.tree))
        go (yes h) = let p = t.ends h in (omega (arith, made-last t.first.tree p), omega (arith, steps-last t.first.tree p))
        go (no h) =
            let g = t.goes (omega arith) in
            (omega (arith, made_more t.first.tree g.0.tree g.2), omega (arith, steps-more t.first.tree g.0.tree g.2))

    -- whether others follow, by the joints that are left
    pub last-ends : joints l.left.tree ≡ 0 → length s ≤ k + q
    last-ends h = go (dec_le (length s) (k + q))
      where
        go : Dec (length s ≤ k + q) → length s ≤ k + q
        go (yes e) = e
        go (no e) = let g = t.goes (omega arith) in absurd (omega (arith, joints-more t.first.tree g.0.tree g.2))

    pub more-follow : 1 ≤ joints l.left.tree → k + q < length s
    more-follow h = go (dec_le (length s) (k + q))
      where
        go : Dec (length s ≤ k + q) → k + q < length s
        go (yes e) = absurd (omega (arith, joints-last t.first.tree (t.ends e)))
        go (no e) = omega arith

    pub first-fit : length vs ≡ length ws → Fit t.first.tree t.first.at (at + k) next (from k s) vs
    first-fit h =
        record {
          here = t.first_at ∙ l.left_at;
          offsets = omega (arith, f.offsets, from-length k s, t.fits, t.low);
          nodes = omega (arith, f.nodes, l.nodes, within.0);
          room = omega (arith, f.room, l.steps, within.1);
        }

    -- it is the last
    pub ends-block :
        {us : List ℕ} {b : Ends} {r : Next} → length s ≤ k + q → b ≡ record { o = o; d = e.d; r = e.r } →
        Emitted t.first.tree b next vs us r →
        Emitted (block ss) e x ws us r
    unfolding expand_all
    ends-block h g v =
        let w = rw g at v in
        let p = t.ends h in
        record {
          words = w.words ∙ ap (λ z. over next.step (table (expand_all z o j e.d e.r next.node)) vs) (sym p) ∙ l.same;
          node = omega (arith, w.node, l.nodes, made-last t.first.tree p);
          step = omega (arith, w.step, l.steps, steps-last t.first.tree p);
        }

    -- others follow
    pub goes_on :
        {us : List ℕ} {m : Ends} {r : Next} → length vs ≡ length ws → k + q < length s → m ≡ record { o = o; d = j; r = e.r } →
        Emitted t.first.tree m next vs us r →
        Left ss at e x s ws (k + q) j (j + 1) r us
    unfolding expand_all joints
    goes_on {us} {r = r} same h is v =
        let w = rw is at v in
        let g = t.goes h in
        let first = t.first.tree in
        let rest = g.0.tree in
        let a = expand first o j e.r next.node in
        let b = expand_all rest j (j + 1) e.d e.r (next.node + made first) in
        let y : length a ≡ step_count first = expand-length first o j e.r next.node in
        let z : length b ≡ step_count (block rest) = all-length rest j (j + 1) e.d e.r (next.node + made first) in
        let c = steps-more first rest g.2 in
        let st : r.step ≡ next.step + length a = w.step ∙ ap (λ m. next.step + m) (sym y) in
        record {
          left = g.0;
          left_at = omega (arith, g.1, l.left_at);
          joint = omega (arith, l.joint, ap joints g.2);
          nodes = omega (arith, w.node, l.nodes, made_more first rest g.2);
          steps = omega (arith, w.step, l.steps);
          same = rw (w.node, st, w.words) (steps-over next.step a b vs (omega (arith, f.room, l.steps))
              ∙ ap (λ m. over next.step (table (expand_all m o j e.d e.r next.node)) vs) (sym g.2) ∙ l.same);
        }

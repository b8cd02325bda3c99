-- Statements that can be expanded: from a statement to its parts.
use Prim.Native.Nat.{ℕ, ◌+◌, ◌≤◌}
use mathlib.Core.Path.{◌≡◌, refl, ap, ◌∙◌}
use mathlib.Core.List.{List, ◌∷◌}
use native.Mathlib.Omega.{arith}
use lib.ListN.{length, take, drop}
use Rattle.rules.specs.Basics.{part, number}
use Rattle.rules.specs.Syntax.{Expr, Simple, Stmt, block, if_else, for}
use Rattle.rules.specs.Reading.{size_of}
use Rattle.rules.specs.Expanding.{Step, step, made, expand}
use Rattle.records.specs.Counting.{step_count}
use Rattle.grammar.proofs.Bytes.{part_length}
use Rattle.records.proofs.StepCounts.{count-if, count-while, count-else, count-for}
use Rattle.records.specs.Acceptance.{Good}
use Rattle.records.proofs.Goods.{Block, Conditional, Alternative, Repetition, if-tree, while-tree}
use Rattle.emitter.specs.declared.Ends.{Ends}
use Rattle.emitter.specs.declared.Next.{Next}
use Rattle.emitter.specs.Writing.{Fit, GoesBack, of_if, of_while}

-- a statement t in the record, after so many nodes and steps of the whole
pub part-fit :
    {tree t : Stmt} {found at place : ℕ} {x y : Next} {s ws vs : List ℕ} →
    Fit tree found at x s ws →
    (b m : ℕ) → b ≤ m → m ≤ length s → place ≡ found + b →
    (nodes steps : ℕ) → y.node ≡ x.node + nodes → y.step ≡ x.step + steps → nodes + made t ≤ made tree → steps + step_count t ≤ step_count tree →
    length vs ≡ length ws →
    Fit t place (at + b) y (part b m s) vs
part-fit {s = s} f b m l h p nodes steps e g n k z =
    record {
      here = omega (arith, f.here);
      offsets = omega (arith, f.offsets, part_length b m s h);
      nodes = omega (arith, f.nodes);
      room = omega (arith, f.room);
    }

-- ---- nodes of each form

-- the steps of an if or a while, whose part goes on to `back`
abbrev pub guarded : (at : ℕ) (part : Stmt) (e : Ends) (back n : ℕ) → List Step
guarded at s e back n = step e.o n 2 0 at ∷ step e.o e.d 3 0 at ∷ expand s n back e.r (n + 1)

-- a record of one of the two; m is the record's length
pub record Guarded (m q : ℕ) (s : List ℕ) (found : ℕ) (tree : Stmt) (e : Ends) (back : ℕ) : Type 0 where
  pub body : Good (part (4 + q) m s)
  pub body_at : body.at ≡ found + (4 + q)
  pub eight : 8 ≤ m
  pub fits : 4 + q ≤ m
  pub nodes : made tree ≡ 1 + made body.tree
  pub steps : step_count tree ≡ 2 + step_count body.tree
  pub is : (n : ℕ) → expand tree e.o e.d e.r n ≡ guarded (found + 4) body.tree e back n

guarded-form :
    {form : ℕ → Expr → Stmt → Stmt} {m q back : ℕ} {s : List ℕ} {found : ℕ} {tree : Stmt} {e : Ends} →
    ((at : ℕ) (c : Expr) (s : Stmt) → made (form at c s) ≡ 1 + made s) →
    ((at : ℕ) (c : Expr) (s : Stmt) → step_count (form at c s) ≡ 2 + step_count s) →
    ((at : ℕ) (c : Expr) (s : Stmt) (n : ℕ) → expand (form at c s) e.o e.d e.r n ≡ guarded at s e back n) →
    Conditional form m q s found tree → Guarded m q s found tree e back
guarded-form makes counts goes x =
    record {
      body = x.body;
      body_at = x.body_at;
      eight = x.eight;
      fits = x.fits;
      nodes = ap made x.is ∙ makes _ _ _;
      steps = ap step_count x.is ∙ counts _ _ _;
      is = λ n. rw (x.is, goes) refl;
    }

pub guarded-tree :
    {m back : ℕ} {s : List ℕ} {e : Ends} → m ≡ size_of s → (a : Good s) → GoesBack back e s → (q : ℕ) → q ≡ number (take 2 (drop 4 s)) →
    Guarded m q s a.at a.tree e back
unfolding made expand
guarded-tree long a (of_if k g) q h = guarded-form (λ at c s. refl) count-if (λ at c s n. rw g refl) (if-tree long a k q h)
guarded-tree long a (of_while k g) q h = guarded-form (λ at c s. refl) count-while (λ at c s n. rw g refl) (while-tree long a k q h)

pub made-else : (at : ℕ) (c : Expr) (s t : Stmt) → made (if_else at c s t) ≡ 2 + made s + made t
unfolding made
made-else at c s t = refl

pub made-for : (a : ℕ) (i : Simple) (at : ℕ) (c : Expr) (b : ℕ) (k : Simple) (s : Stmt) → made (for a i at c b k s) ≡ 3 + made s
unfolding made
made-for a i at c b k s = refl

module _ {m q p : ℕ} {s : List ℕ} {found : ℕ} {tree : Stmt} (x : Alternative m q p s found tree) where
  pub else-made : made tree ≡ 2 + made x.yes.tree + made x.no.tree
  else-made = ap made x.is ∙ made-else (found + 4) x.test.tree x.yes.tree x.no.tree

  pub else-steps : step_count tree ≡ 2 + step_count x.yes.tree + step_count x.no.tree
  else-steps = ap step_count x.is ∙ count-else (found + 4) x.test.tree x.yes.tree x.no.tree

module _ {m q p r : ℕ} {s : List ℕ} {found : ℕ} {tree : Stmt} (x : Repetition m q p r s found tree) where
  pub for-made : made tree ≡ 3 + made x.body.tree
  for-made = ap made x.is ∙ made-for (found + 4) x.initial.tree (found + (4 + q)) x.test.tree (found + (4 + q + p)) x.closing.tree x.body.tree

  pub for-steps : step_count tree ≡ 4 + step_count x.body.tree
  for-steps = ap step_count x.is ∙ count-for (found + 4) x.initial.tree (found + (4 + q)) x.test.tree (found + (4 + q + p)) x.closing.tree x.body.tree

-- ---- the parts of each form; m is the record's length

module _ {m : ℕ} {s : List ℕ} (high : m ≤ length s) {tree : Stmt} {found at : ℕ} {x : Next} {ws : List ℕ} (f : Fit tree found at x s ws) where
  pub block_fit : 4 ≤ m → (p : Block m s found tree) → Fit (block p.inner.tree) p.inner.at (at + 4) x (part 4 m s) ws
  block_fit low p =
      part-fit f 4 m low high p.inner_at 0 0 (omega arith) (omega arith) (omega (arith, ap made p.is)) (omega (arith, ap step_count p.is)) refl

  pub guarded-fit :
      {q back : ℕ} {e : Ends} {y : Next} {vs : List ℕ} → (p : Guarded m q s found tree e back) → y.node ≡ x.node + 1 → y.step ≡ x.step + 2 →
      length vs ≡ length ws → Fit p.body.tree p.body.at (at + (4 + q)) y (part (4 + q) m s) vs
  guarded-fit {q} p h g =
      part-fit f (4 + q) m p.fits high p.body_at 1 2 h g (omega (arith, p.nodes)) (omega (arith, p.steps))

  module _ {q p : ℕ} (z : Alternative m q p s found tree) where
    pub yes-fit :
        {y : Next} {vs : List ℕ} → y.node ≡ x.node + 2 → y.step ≡ x.step + 2 → length vs ≡ length ws →
        Fit z.yes.tree z.yes.at (at + (4 + q)) y (part (4 + q) m s) vs
    yes-fit e g =
        part-fit f (4 + q) m (omega (arith, z.mid)) high z.yes_at 2 2 e g (omega (arith, else-made z)) (omega (arith, else-steps z))

    pub no-fit :
        {y : Next} {vs : List ℕ} → y.node ≡ x.node + (2 + made z.yes.tree) → y.step ≡ x.step + (2 + step_count z.yes.tree) → length vs ≡ length ws →
        Fit z.no.tree z.no.at (at + (4 + q + p)) y (part (4 + q + p) m s) vs
    no-fit e g =
        part-fit f (4 + q + p) m z.fits high z.no_at (2 + made z.yes.tree) (2 + step_count z.yes.tree) e g (omega (arith, else-made z)) (omega (arith, else-steps z))

  module _ {q p r : ℕ} (z : Repetition m q p r s found tree) where
    pub body-fit :
        {y : Next} {vs : List ℕ} → y.node ≡ x.node + 3 → y.step ≡ x.step + 3 → length vs ≡ length ws →
        Fit z.body.tree z.body.at (at + (4 + q + p + r)) y (part (4 + q + p + r) m s) vs
    body-fit e g =
        part-fit f (4 + q + p + r) m z.fits high z.body_at 3 3 e g (omega (arith, for-made z)) (omega (arith, for-steps z))

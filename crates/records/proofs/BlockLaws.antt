-- Laws of a block's statements in a row: the whole from what is left of it.
use Prim.Native.Nat.{ℕ, zero, suc, ◌+◌, ◌-◌, ◌≤◌, ◌<◌}
use mathlib.Core.Path.{◌≡◌, refl, sym, ap, ◌∙◌}
use mathlib.Core.Bool.{true, false}
use mathlib.Core.List.{List}
use native.Mathlib.Omega.{arith}
use lib.ListN.{length}
use Rattle.rules.specs.Syntax.{Stmt, Stmts, ◌then◌}
use Rattle.rules.specs.Reading.{Reading, refused, read, Reader, after, is_empty, statements, statement}
use Rattle.grammar.proofs.Bytes.{part-all}
use Rattle.grammar.proofs.Keeping.{embedded}
use Rattle.grammar.proofs.Statements.{statement-keeps}
use Rattle.records.specs.Checking.{Answer, outcome, found, added, from}
use Rattle.records.specs.Counting.{step_count, block_count}
use Rattle.std.specs.Prelude.{Ok, Err}
use Rattle.records.specs.declared.fault.Fault.{Fault}
use Rattle.records.specs.declared.answers.Checked.{Checked}
use Rattle.records.proofs.Parts.{from-length, empty, not-empty}
use Rattle.records.proofs.Readers.{came, gone, added_twice}
use Rattle.records.proofs.StatementLaws.{statement-pays}
use Rattle.records.proofs.StepCounts.{count-last, count-more}

-- ---- one statement

pub record Read (vars levels start at : ℕ) (s : List ℕ) (c : Checked) : Type 0 where
  pub tree : Stmt
  pub reads : statement vars levels start at s ≡ read tree c.end (from (c.end - at) s)
  pub steps : step_count tree ≡ c.steps
  pub low : at + 4 ≤ c.end
  pub high : c.end ≤ at + length s
  pub pays : at + c.steps ≤ c.end

pub statement-read : (vars levels start at : ℕ) (s : List ℕ) {c : Checked} → outcome step_count (statement vars levels start at s) ≡ Ok c → Read vars levels start at s c
statement-read vars levels start at s {c} h =
    let q = came step_count (statement vars levels start at s) h in
    let x = embedded (λ file end. statement-keeps file vars levels start at end) q.2 in
    record {
      tree = q.0;
      reads = q.2 ∙ ap (read q.0 c.end) (x.leaves ∙ sym (part-all (c.end - at) s));
      steps = q.3;
      low = x.has.0.four;
      high = x.high;
      pays = omega (arith, statement-pays x.has.1, q.3);
    }

-- ---- statements in a row

module _ (st : Reader Stmt) (start at : ℕ) (s : List ℕ) where
  row-refuses : (f : ℕ) {e : Fault} → outcome step_count (st start at s) ≡ Err e → outcome block_count (statements f st start at s) ≡ Err e
  unfolding statements
  row-refuses zero h = rw (gone step_count (st start at s) h)
  row-refuses (suc f) h = rw (gone step_count (st start at s) h)

  module _ {x : Stmt} {m : ℕ} {l : List ℕ} (e : st start at s ≡ read x m l) where
    row_ends : (f : ℕ) → is_empty l ≡ true → outcome block_count (statements f st start at s) ≡ found m (step_count x)
    unfolding statements
    row_ends zero h = rw e (ap (found m) (count-last x))
    row_ends (suc f) h = rw (e, h) (ap (found m) (count-last x))

    row_goes : (f : ℕ) → is_empty l ≡ false → outcome block_count (statements (suc f) st start at s) ≡ added (step_count x) (outcome block_count (statements f st start m l))
    unfolding statements
    row_goes f h = rw (e, h) (go (statements f st start m l))
      where
        go : (q : Reading Stmts) → outcome block_count (after q (λ xs m l. read (x then xs) m l)) ≡ added (step_count x) (outcome block_count q)
        go (refused n p) = refl
        go (read xs m l) = ap (found m) (count-more x xs)

-- the answer on a block from the steps of its first statements and what is left after them
abbrev pub Rest : (vars levels start : ℕ) (whole : Answer) (at : ℕ) (s : List ℕ) (steps : ℕ) → Type 0
Rest vars levels start whole at s steps =
    (f : ℕ) × (length s ≤ f) × (whole ≡ added steps (outcome block_count (statements f (statement vars levels) start at s)))

module _ (vars levels start : ℕ) (whole : Answer) (at : ℕ) (s : List ℕ) (steps : ℕ) (rest : Rest vars levels start whole at s steps) where
  pub rest-refuses : {e : Fault} → outcome step_count (statement vars levels start at s) ≡ Err e → Err e ≡ whole
  rest-refuses h = sym (rest.2 ∙ ap (added steps) (row-refuses (statement vars levels) start at s rest.0 h))

  module _ {c : Checked} (h : outcome step_count (statement vars levels start at s) ≡ Ok c) where
    pub rest-ends : at + length s ≤ c.end → found c.end (steps + c.steps) ≡ whole
    rest-ends e =
        let x = statement-read vars levels start at s h in
        let l : length (from (c.end - at) s) ≡ 0 = from-length (c.end - at) s ∙ omega arith in
        sym (rest.2 ∙ ap (added steps) (row_ends (statement vars levels) start at s x.reads rest.0 (empty (from (c.end - at) s) l) ∙ ap (found c.end) x.steps))

    pub rest_goes : c.end < at + length s → Rest vars levels start whole c.end (from (c.end - at) s) (steps + c.steps)
    rest_goes e =
        let x = statement-read vars levels start at s h in
        let left = from (c.end - at) s in
        let l : length left ≡ length s - (c.end - at) = from-length (c.end - at) s in
        let some : 0 < length left = omega (arith, x.low) in
        let o : suc (rest.0 - 1) ≡ rest.0 = omega (arith, rest.1, x.low) in
        let next = outcome block_count (statements (rest.0 - 1) (statement vars levels) start c.end left) in
        let v : outcome block_count (statements rest.0 (statement vars levels) start at s) ≡ added c.steps next =
        ap (λ (f : ℕ). outcome block_count (statements f (statement vars levels) start at s)) (sym o)
        ∙ row_goes (statement vars levels) start at s x.reads (rest.0 - 1) (not-empty left some)
        ∙ ap (λ (k : ℕ). added k next) x.steps in
        (rest.0 - 1, omega (arith, rest.1, x.low), rest.2 ∙ ap (added steps) v ∙ added_twice steps c.steps next)

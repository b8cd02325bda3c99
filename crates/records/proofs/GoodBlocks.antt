-- What is known of a block's statements that the reading accepts: the first one, and what is left after it.
use Rattle.std.specs.Prelude.{if◌then◌else◌}
use Prim.Native.Nat.{ℕ, zero, suc, ◌+◌, ◌-◌, ◌≤◌, ◌<◌}
use mathlib.Core.Path.{◌≡◌, refl, sym, ap, subst, subst₂, ◌∙◌}
use mathlib.Core.Bool.{Bool}
use mathlib.Core.List.{List}
use native.Mathlib.Omega.{arith}
use lib.ListN.{length}
use Rattle.rules.specs.Syntax.{Stmt, Stmts, last, ◌then◌}
use Rattle.rules.specs.Reading.{read, Reader, ◌>>=◌, pure, at_end, size_of, statements, statement}
use Rattle.records.specs.Checking.{from}
use Rattle.records.specs.Acceptance.{Good, GoodAll}
use Rattle.grammar.proofs.Bytes.{part-all}
use Rattle.grammar.proofs.Readings.{then-read}
use Rattle.records.proofs.Parts.{from-length, from-from, empty, not-empty}
use Rattle.records.proofs.Accepts.{accepted_by}
use Rattle.records.proofs.StatementLaws.{ends-statement}

-- the first statement, q bytes long, and the others
pub record More (bytes : List ℕ) (q at : ℕ) (tree : Stmts) : Type 0 where
  pub first : Good bytes
  pub first_at : first.at ≡ at
  pub low : 4 ≤ q
  pub fits : q ≤ length bytes
  pub ends : length bytes ≤ q → tree ≡ last first.tree
  pub goes : q < length bytes → (others : GoodAll (from q bytes)) × (others.at ≡ at + q) × (tree ≡ first.tree then others.tree)

more_of :
    (fuel levels vars start at : ℕ) (bytes : List ℕ) {tree : Stmts} {to : ℕ} {rest : List ℕ} →
    vars ≤ 16 →
    length bytes ≤ fuel →
    statements fuel (statement vars levels) start at bytes ≡ read tree to rest →
    More bytes (size_of bytes) at tree
unfolding statements
more_of zero levels vars start at bytes few enough h =
    let x = then-read (statement vars levels) (λ x. pure (last x)) start at bytes h in
    let y = (ends-statement vars levels).ends start at bytes x.here in
    absurd (omega (arith, y.low, y.high))
more_of (suc fuel) levels vars start at bytes {tree} {to} {rest} few enough h =
    let st : Reader Stmt = statement vars levels in
    let q = size_of bytes in
    let others : Stmt → Reader Stmts = λ x. statements fuel st >>= λ xs. pure (x then xs) in
    let x = then-read st (λ x. at_end >>= λ e. if e then pure (last x) else others x) start at bytes h in
    let y = (ends-statement vars levels).ends start at bytes x.here in
    let m : x.mid ≡ at + q = y.goes in
    let l : x.left ≡ from q bytes = y.leaves ∙ sym (part-all q bytes) in
    let p : length x.left ≡ length bytes - q = ap length l ∙ from-length q bytes in
    let after : Bool → Type 0 = λ b. (if b then pure (last x.value) else others x.value) start x.mid x.left ≡ read tree to rest in
    record {
      first = accepted_by levels start at few x.here;
      first_at = refl;
      low = y.low;
      fits = y.high;
      ends = λ w. let z = subst after (empty x.left (omega arith)) x.next in cc;
      goes = λ w.
          let z = then-read (statements fuel st) (λ xs. pure (x.value then xs)) start x.mid x.left (subst after (not-empty x.left (omega arith)) x.next) in
          let u = z.next in (
            record {
              fuel = fuel;
              levels = levels;
              vars = vars;
              start = start;
              at = at + q;
              tree = z.value;
              to = z.mid;
              rest = z.left;
              few = few;
              enough = omega (arith, from-length q bytes, y.low);
              reads = subst₂ (λ (i : ℕ) (b : List ℕ). statements fuel st start i b ≡ read z.value z.mid z.left) m l z.here;
            },
            refl,
            cc,
          );
    }

pub all_more : {bytes : List ℕ} (a : GoodAll bytes) (q : ℕ) → q ≡ size_of bytes → More bytes q a.at a.tree
all_more {bytes} a q e =
    subst (λ (i : ℕ). More bytes i a.at a.tree) (sym e) (more_of a.fuel a.levels a.vars a.start a.at bytes a.few a.enough a.reads)

-- the same, of equal bytes
abbrev pub moved : {x y : List ℕ} → x ≡ y → GoodAll x → GoodAll y
moved e b =
    record {
      fuel = b.fuel;
      levels = b.levels;
      vars = b.vars;
      start = b.start;
      at = b.at;
      tree = b.tree;
      to = b.to;
      rest = b.rest;
      few = b.few;
      enough = subst (λ (z : List ℕ). length z ≤ b.fuel) e b.enough;
      reads = subst (λ (z : List ℕ). statements b.fuel (statement b.vars b.levels) b.start b.at z ≡ read b.tree b.to b.rest) e b.reads;
    }

-- one turn of a walk through s: at i stands a statement of q bytes
pub record Turn (i q : ℕ) (s : List ℕ) (at : ℕ) (tree : Stmts) : Type 0 where
  pub first : Good (from i s)
  pub first_at : first.at ≡ at
  pub low : 4 ≤ q
  pub fits : i + q ≤ length s
  pub ends : length s ≤ i + q → tree ≡ last first.tree
  pub goes : i + q < length s → (others : GoodAll (from (i + q) s)) × (others.at ≡ at + q) × (tree ≡ first.tree then others.tree)

pub turn : (i q : ℕ) (s : List ℕ) → q ≡ size_of (from i s) → (b : GoodAll (from i s)) → Turn i q s b.at b.tree
turn i q s e b =
    let m = all_more b q e in
    let l = from-length i s in
    let z : from q (from i s) ≡ from (i + q) s = part-all q (from i s) ∙ from-from i q s in
    record {
      first = m.first;
      first_at = m.first_at;
      low = m.low;
      fits = omega (arith, m.fits, m.low);
      ends = λ w. m.ends (omega arith);
      goes = λ w. let g = m.goes (omega arith) in (moved z g.0, g.1, g.2);
    }

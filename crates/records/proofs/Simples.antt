-- What is known of a record of one step that the reading accepts: one law for each kind, from the tree to its parts.
-- n is the record's length, as its first field says; a child's length is what stands at the child's start.
use Prim.Native.Nat.{ℕ, ◌+◌, ◌≤◌, ◌<◌}
use mathlib.Core.Path.{◌≡◌, refl}
use mathlib.Core.Bool.{Bool, true, false, ◌&&◌, ◌||◌}
use mathlib.Core.List.{List, []}
use native.Mathlib.Omega.{arith}
use lib.Dec.{ltb, leb}
use lib.ListN.{length, take, drop}
use borrow.Author.Tests.{ltb-true, leb-true}
use Rattle.rules.specs.Basics.{choose, any, part, number}
use Rattle.rules.specs.Syntax.{Expr, Simple, set, transfer, require, return}
use Rattle.rules.specs.Reading.{read, Reader, ◌>>=◌, pure, refuse, size_of, kind_of, simples, set_body, expression}
use Rattle.records.specs.Counting.{target}
use Rattle.records.specs.Acceptance.{Accepted, GoodSimple, simple_record}
use Rattle.laws.proofs.Basics.{both-true}
use Rattle.grammar.proofs.Readings.{unread}
use Rattle.records.proofs.KindLaws.{Others, choose-none, step_kinds}
use Rattle.records.proofs.Inversion.{Inside, within, child-at, field_at}
use Rattle.records.proofs.ExpressionLaws.{ends-expression}
use Rattle.records.proofs.Accepts.{first, accepted}

-- the body's reader by the kind
abbrev body_of : (vars levels kind : ℕ) → Reader Simple
body_of vars levels kind = choose kind (simples vars (expression vars false levels)) (refuse 3)

-- a target is a variable or a local
pub record SetTree (n : ℕ) (s : List ℕ) (tree : Simple) : Type 0 where
  pub child : Accepted (part 6 n s)
  pub ten : 10 ≤ n
  pub variable : first s < 256 → first s < 16
  pub local : first s < 264
  pub is : tree ≡ set (first s) child.tree

pub record TransferTree (n q : ℕ) (s : List ℕ) (tree : Simple) : Type 0 where
  pub account : Accepted (part 4 n s)
  pub amount : Accepted (part (4 + q) n s)
  pub eight : 8 ≤ n
  pub fits : 4 + q ≤ n
  pub is : tree ≡ transfer account.tree amount.tree

-- a require or a return
pub record OneTree (form : Expr → Simple) (n : ℕ) (s : List ℕ) (tree : Simple) : Type 0 where
  pub child : Accepted (part 4 n s)
  pub eight : 8 ≤ n
  pub is : tree ≡ form child.tree

placed : (vars t : ℕ) → vars ≤ 16 → target vars t ≡ true → (t < 256 → t < 16) × (t < 264)
placed vars t few h = go (ltb t vars) refl h
  where
    go : (b : Bool) → ltb t vars ≡ b → (b || leb 256 t && ltb t 264) ≡ true → (t < 256 → t < 16) × (t < 264)
    go true i e = let q : t < vars = ltb-true _ _ i in (λ _. omega arith, omega arith)
    go false i e =
        let p = both-true (leb 256 t) (ltb t 264) e in
        let q : 256 ≤ t = leb-true _ _ p.0 in
        let r : t < 264 = ltb-true _ _ p.1 in
        (λ w. absurd (omega arith), r)

module _ {n : ℕ} {s : List ℕ} (long : n ≡ size_of s) (a : GoodSimple s) where
  step : {kind : ℕ} → kind_of s ≡ kind → Inside (body_of a.vars) n kind s a.at a.tree a.to
  unfolding simple_record
  step k = within long k _ a.levels a.reads

  pub sized : (4 ≤ n) × (n ≤ length s)
  sized = let t = step refl in (t.low, t.high)

  pub set-tree : kind_of s ≡ 16 → SetTree n s a.tree
  unfolding simples choose set_body
  set-tree k =
      let t = step k in
      let e : Reader Expr = expression a.vars false t.left in
      let f = field_at (target a.vars) (λ t. e >>= λ x. pure (set t x)) a.at a.at n s t.high t.reads in
      let x = child-at a.at a.at n s t.high (ends-expression a.vars false t.left) (λ x. pure (set (first s) x)) 6 (number (take 2 (drop 6 s))) refl f.next in
      let z = x.next in
      let p = placed a.vars (first s) a.few f.passes in
      record { child = accepted _ _ _ _ a.few x.here; ten = x.low; variable = p.0; local = p.1; is = cc }

  pub transfer-tree : kind_of s ≡ 17 → (q : ℕ) → q ≡ number (take 2 (drop 4 s)) → TransferTree n q s a.tree
  unfolding simples choose
  transfer-tree k q hq =
      let t = step k in
      let e : Reader Expr = expression a.vars false t.left in
      let h = ends-expression a.vars false t.left in
      let x = child-at a.at a.at n s t.high h (λ x. e >>= λ y. pure (transfer x y)) 4 q hq t.reads in
      let y = child-at a.at a.at n s t.high h (λ y. pure (transfer x.value y)) (4 + q) (number (take 2 (drop (4 + q) s))) refl x.next in
      let z = y.next in
      record { account = accepted _ _ _ _ a.few x.here; amount = accepted _ _ _ _ a.few y.here; eight = x.low; fits = x.fits; is = cc }

  one-tree :
      (form : Expr → Simple) (levels : ℕ) → n ≤ length s →
      (expression a.vars false levels >>= λ x. pure (form x)) a.at (a.at + 4) (part 4 n s) ≡ read a.tree a.to [] →
      OneTree form n s a.tree
  one-tree form levels high h =
      let x = child-at a.at a.at n s high (ends-expression a.vars false levels) (λ x. pure (form x)) 4 (number (take 2 (drop 4 s))) refl h in
      let z = x.next in
      record { child = accepted _ _ _ _ a.few x.here; eight = x.low; is = cc }

  pub require-tree : kind_of s ≡ 18 → OneTree require n s a.tree
  unfolding simples choose
  require-tree k = let t = step k in one-tree require t.left t.high t.reads

  pub return-tree : kind_of s ≡ 19 → OneTree return n s a.tree
  unfolding simples choose
  return-tree k = let t = step k in one-tree return t.left t.high t.reads

  pub other-tree : Others (kind_of s) step_kinds → ⊥
  unfolding simples refuse any
  other-tree h = unread (rw (choose-none _ _ h) at (step refl).reads)

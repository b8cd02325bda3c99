-- In a table that has a statement's steps, and no other step from its nodes, a lookup finds them.
use mathlib.Core.Path.{◌≡◌, refl, ◌∙◌, ap}
use mathlib.Core.Logic.{◌≢◌}
use Prim.Native.Nat.{ℕ, ◌+◌, ◌-◌, min, ◌≤◌, ◌<◌}
use native.Mathlib.Omega.{arith}
use mathlib.Core.Bool.{Bool, true, false, ◌&&◌}
use mathlib.Core.Option.{Option, some}
use mathlib.Core.List.{List, [], ◌∷◌, ◌++◌, append-nil}
use lib.Dec.{eqb}
use borrow.Author.Tests.{eq-eqb, ne_eqb}
use Rattle.std.specs.Prelude.{if◌then◌else◌}
use Rattle.rules.specs.Basics.{find}
use Rattle.rules.specs.Syntax.{Simple, set, transfer, require, return}
use Rattle.rules.specs.Syntax.{Stmt, simple, block, if_then, if_else, while, for, Stmts, last, ◌then◌}
use Rattle.rules.specs.Expanding.{Step, step, step_of, step_kind, joints, made, made_all, expand, expand_all}
use Rattle.rules.specs.Stepping.{leaving, step_from, target_in}
use Rattle.rules.specs.Demands.{All, none, more}
use Rattle.laws.proofs.Each.{weaken}
pub use Rattle.laws.proofs.Each.{all_append}

-- ---- the steps that leave a node

pub from : ℕ → List Step → List Step
from p [] = []
from p (s ∷ l) = if eqb s.origin p then s ∷ from p l else from p l

hit : (s : Step) (l : List Step) → from s.origin (s ∷ l) ≡ s ∷ from s.origin l
unfolding from
hit s l = rw (eq-eqb s.origin s.origin refl)

miss : (p : ℕ) (s : Step) (l : List Step) → s.origin ≢ p → from p (s ∷ l) ≡ from p l
unfolding from
miss p s l h = rw (ne_eqb s.origin p h)

from-append : (p : ℕ) (a b : List Step) → from p (a ++ b) ≡ from p a ++ from p b
unfolding from
from-append p [] b = refl
from-append p (s ∷ a) b = go (eqb s.origin p) _ (from p a) (from p b) (from-append p a b)
  where
    go : (t : Bool) (x y z : List Step) → x ≡ y ++ z → (if t then s ∷ x else x) ≡ (if t then s ∷ y else y) ++ z
    go true x y z e = ap (λ (l : List Step). s ∷ l) e
    go false x y z e = e

-- to find among the steps that leave a node
find-from : (p : ℕ) (t : Bool → Step → Bool) → ((s : Step) → t false s ≡ false) → (l : List Step)
    → find (λ (s : Step). t (eqb s.origin p) s) l ≡ find (t true) (from p l)
unfolding find from
find-from p t h [] = refl
find-from p t h (s ∷ l) = go (eqb s.origin p) (find-from p t h l)
  where
    go : (b : Bool) → find (λ (s : Step). t (eqb s.origin p) s) l ≡ find (t true) (from p l)
        → (if t b s then some s else find (λ (s : Step). t (eqb s.origin p) s) l) ≡ find (t true) (if b then s ∷ from p l else from p l)
    go true e = ap (λ (o : Option Step). if t true s then some s else o) e
    go false e = rw (h s) e

-- no step of the list leaves p
abbrev pub Away : ℕ → List Step → Type 0
Away p = All (λ (s : Step). s.origin ≢ p)

none_from : (p : ℕ) (l : List Step) → Away p l → from p l ≡ []
unfolding from
none_from p l none = refl
none_from p l (more {x = s} {xs = k} e h) = miss p s k e ∙ none_from p k h

-- the kinds of one-step statements' steps, and so none is a guard
pub kind-high : (x : Simple) → 4 ≤ step_kind x
unfolding step_kind
kind-high (set t e) = omega arith
kind-high (transfer k e) = omega arith
kind-high (require e) = omega arith
kind-high (return e) = omega arith

no-guard : (x : Simple) → eqb (step_kind x) 1 ≡ false
no-guard x = ne_eqb (step_kind x) 1 (omega (arith, kind-high x))

-- how far p is from the k nodes from n on: 0 at each of them
abbrev pub gap : (p n k : ℕ) → ℕ
gap p n k = n - p + (p + 1 - (n + k))

abbrev pub Outside : (p n k : ℕ) → Type 0
Outside p n k = 1 ≤ gap p n k

-- p is the entry o or one of k nodes from n on
abbrev pub Near : (p o n k : ℕ) → Type 0
Near p o n k = min (gap p o 1) (gap p n k) ≡ 0

-- no step of a statement leaves a node that is neither its entry nor new, and none is a guard
abbrev Clear : ℕ → List Step → Type 0
Clear p = All (λ (s : Step). (s.origin ≢ p) × (eqb s.kind 1 ≡ false))

mutual
  unfolding expand made step_of joints

  clear : (s : Stmt) (o d r n p : ℕ) → o ≢ p → Outside p n (made s) → Clear p (expand s o d r n)
  clear (simple at x) o d r n p h out = more (h, no-guard x) none
  clear (block ss) o d r n p h out = clears ss o n d r (n + joints ss) p h (omega arith) (omega arith)
  clear (if_then at e s) o d r n p h out = more (h, refl) (more (h, refl) (clear s n d r (n + 1) p (omega arith) (omega arith)))
  clear (if_else at e s t) o d r n p h out =
      more (h, refl) (more (h, refl) (all_append (expand s n d r (n + 2)) _
      (clear s n d r (n + 2) p (omega arith) (omega arith)) (clear t (n + 1) d r (n + 2 + made s) p (omega arith) (omega arith))))
  clear (while at e s) o d r n p h out = more (h, refl) (more (h, refl) (clear s n o r (n + 1) p (omega arith) (omega arith)))
  clear (for a x at e b y s) o d r n p h out =
      let q : n ≢ p = omega arith in
      more (h, no-guard x) (more (q, refl) (more (q, refl) (all_append (expand s (n + 1) (n + 2) r (n + 3)) _
      (clear s (n + 1) (n + 2) r (n + 3) p (omega arith) (omega arith)) (more (omega arith, no-guard y) none))))

  clears : (ss : Stmts) (o j d r n p : ℕ) → o ≢ p → Outside p j (joints ss) → Outside p n (made_all ss) → Clear p (expand_all ss o j d r n)
  clears (last s) o j d r n p h mid out = clear s o d r n p h out
  clears (s then ss) o j d r n p h mid out =
      all_append (expand s o j r n) _ (clear s o j r n p h (omega arith))
      (clears ss j (j + 1) d r (n + made s) p (omega arith) (omega arith) (omega arith))

pub away : (s : Stmt) (o d r n p : ℕ) → o ≢ p → Outside p n (made s) → Away p (expand s o d r n)
away s o d r n p h out = weaken (λ _ x. x.0) (clear s o d r n p h out)

aways : (ss : Stmts) (o j d r n p : ℕ) → o ≢ p → Outside p j (joints ss) → Outside p n (made_all ss) → Away p (expand_all ss o j d r n)
aways ss o j d r n p h mid out = weaken (λ _ x. x.0) (clears ss o j d r n p h mid out)

abbrev pub Quiet : List Step → Type 0
Quiet = All (λ (s : Step). eqb s.kind 1 ≡ false)

pub quiet : (s : Stmt) (o d r n : ℕ) → Quiet (expand s o d r n)
quiet s o d r n = weaken (λ _ x. x.1) (clear s o d r n (o + n + made s + 1) (omega arith) (omega arith))

module _ (steps : List Step) where
  -- the table has the steps from p that the list has
  abbrev pub Same : List Step → ℕ → Type 0
  Same l p = from p steps ≡ from p l

  pub same_first : (a b : List Step) (p : ℕ) → Away p b → Same (a ++ b) p → Same a p
  same_first a b p h e = e ∙ from-append p a b ∙ ap (λ (l : List Step). from p a ++ l) (none_from p _ h) ∙ append-nil (from p a)

  pub same_second : (a b : List Step) (p : ℕ) → Away p a → Same (a ++ b) p → Same b p
  same_second a b p h e = e ∙ from-append p a b ∙ ap (λ (l : List Step). l ++ from p b) (none_from p _ h)

  pub same-tail : (s : Step) (l : List Step) (p : ℕ) → s.origin ≢ p → Same (s ∷ l) p → Same l p
  same-tail s l p h e = e ∙ miss p s l h

-- ---- a statement is wired into a table: the steps that leave its nodes begin with its own

module _ (steps : List Step) (S : ℕ) where
  -- the steps that leave p begin with these, and p is no end
  abbrev pub Held : ℕ → List Step → Type 0
  Held p l = (S < p) × (rest : List Step) × (from p steps ≡ l ++ rest)

  -- a one-step statement's step, and a condition's two
  abbrev pub One : (at : ℕ) → Simple → (o d r : ℕ) → Type 0
  One at x o d r = Held o (step_of at x o d r ∷ [])

  abbrev pub Two : (at o y z : ℕ) → Type 0
  Two at o y z = Held o (step o y 2 0 at ∷ step o z 3 0 at ∷ [])

  pub leaving-held : (p : ℕ) (s : Step) (l : List Step) → Held p (s ∷ l) → leaving steps p ≡ some s
  unfolding leaving find
  leaving-held p s l h = find-from p (λ b _. b) (λ _. refl) steps ∙ ap (find (λ _. true)) h.2

  kind-held : (k at o y z : ℕ) (h : Two at o y z)
      → step_from steps o k ≡ find (λ (s : Step). eqb s.kind k) (step o y 2 0 at ∷ step o z 3 0 at ∷ h.1)
  unfolding step_from
  kind-held k at o y z h = find-from o (λ b s. b && eqb s.kind k) (λ _. refl) steps ∙ ap (find (λ (s : Step). eqb s.kind k)) h.2

  -- where a condition's value leads
  pub branch_held : (at o y z : ℕ) → Two at o y z → (b : Bool) → target_in (step_from steps o (if b then 2 else 3)) ≡ (if b then y else z)
  unfolding target_in find
  branch_held at o y z h true = ap target_in (kind-held 2 at o y z h)
  branch_held at o y z h false = ap target_in (kind-held 3 at o y z h)

  abbrev mutual
    pub Wired : Stmt → (o d r n : ℕ) → Type 0
    Wired (simple at x) o d r n = One at x o d r
    Wired (block ss) o d r n = Wireds ss o n d r (n + joints ss)
    Wired (if_then at e s) o d r n = Two at o n d × Wired s n d r (n + 1)
    Wired (if_else at e s t) o d r n = Two at o n (n + 1) × Wired s n d r (n + 2) × Wired t (n + 1) d r (n + 2 + made s)
    Wired (while at e s) o d r n = Two at o n d × Wired s n o r (n + 1)
    Wired (for a x at e b y s) o d r n = One a x o n r × Two at n (n + 1) d × Wired s (n + 1) (n + 2) r (n + 3) × One b y (n + 2) n r

    pub Wireds : Stmts → (o j d r n : ℕ) → Type 0
    Wireds (last s) o j d r n = Wired s o d r n
    Wireds (s then ss) o j d r n = Wired s o j r n × Wireds ss j (j + 1) d r (n + made s)

  one : (s : Step) (l : List Step) → S < s.origin → Same steps (s ∷ l) s.origin → Held s.origin (s ∷ [])
  one s l h e = (h, _, e ∙ hit s l)

  two : (at o y z : ℕ) (l : List Step) → S < o → Same steps (step o y 2 0 at ∷ step o z 3 0 at ∷ l) o → Two at o y z
  two at o y z l h e = (h, _, e ∙ hit (step o y 2 0 at) _ ∙ ap (λ (k : List Step). step o y 2 0 at ∷ k) (hit (step o z 3 0 at) l))

  -- past a condition's two steps
  past : (at o y z : ℕ) (l : List Step) (p : ℕ) → o ≢ p → Same steps (step o y 2 0 at ∷ step o z 3 0 at ∷ l) p → Same steps l p
  past at o y z l p h e = same-tail steps (step o z 3 0 at) l p h (same-tail steps (step o y 2 0 at) _ p h e)

  -- a condition for one part, from the new node n to t
  branch-wired : (at o d t r n : ℕ) (s : Stmt) → S < o → o < n
      → (S < n → n < n + 1 → ((p : ℕ) → Near p n (n + 1) (made s) → Same steps (expand s n t r (n + 1)) p) → Wired s n t r (n + 1))
      → ((p : ℕ) → Near p o n (1 + made s) → Same steps (step o n 2 0 at ∷ step o d 3 0 at ∷ expand s n t r (n + 1)) p)
      → Two at o n d × Wired s n t r (n + 1)
  branch-wired at o d t r n s g f part same =
      (two at o n d _ g (same o (omega arith)), part (omega arith) (omega arith) (λ p i. past at o n d _ p (omega arith) (same p (omega arith))))

  mutual
    unfolding expand made step_of joints

    pub wired : (s : Stmt) (o d r n : ℕ) → S < o → o < n → ((p : ℕ) → Near p o n (made s) → Same steps (expand s o d r n) p) → Wired s o d r n
    wired (simple at x) o d r n g f same = one (step_of at x o d r) [] g (same o (omega arith))
    wired (block ss) o d r n g f same = wireds ss o n d r (n + joints ss) g f (omega arith) (λ p i. same p (omega arith))
    wired (if_then at e s) o d r n g f same = branch-wired at o d d r n s g f (wired s n d r (n + 1)) same
    wired (if_else at e s t) o d r n g f same =
        let A : List Step = expand s n d r (n + 2) in
        let B : List Step = expand t (n + 1) d r (n + 2 + made s) in
        let both : (p : ℕ) → gap p n (2 + made s + made t) ≡ 0 → Same steps (A ++ B) p
        = λ p i. past at o n (n + 1) _ p (omega arith) (same p (omega arith)) in (
          two at o n (n + 1) _ g (same o (omega arith)),
          wired s n d r (n + 2) (omega arith) (omega arith) (λ p i.
              same_first steps A B p (away t (n + 1) d r (n + 2 + made s) p (omega arith) (omega arith)) (both p (omega arith))),
          wired t (n + 1) d r (n + 2 + made s) (omega arith) (omega arith) (λ p i.
              same_second steps A B p (away s n d r (n + 2) p (omega arith) (omega arith)) (both p (omega arith))),
        )
    wired (while at e s) o d r n g f same = branch-wired at o d o r n s g f (wired s n o r (n + 1)) same
    wired (for a x at e b y s) o d r n g f same =
        let A : List Step = expand s (n + 1) (n + 2) r (n + 3) in
        let B : List Step = step_of b y (n + 2) n r ∷ [] in
        let test : (p : ℕ) → gap p n (3 + made s) ≡ 0 → Same steps (step n (n + 1) 2 0 at ∷ step n d 3 0 at ∷ (A ++ B)) p
        = λ p i. same-tail steps (step_of a x o n r) _ p (omega arith) (same p (omega arith)) in
        let both : (p : ℕ) → gap p (n + 1) (2 + made s) ≡ 0 → Same steps (A ++ B) p
        = λ p i. past at n (n + 1) d _ p (omega arith) (test p (omega arith)) in (
          one (step_of a x o n r) _ g (same o (omega arith)),
          two at n (n + 1) d _ (omega arith) (test n (omega arith)),
          wired s (n + 1) (n + 2) r (n + 3) (omega arith) (omega arith) (λ p i.
              same_first steps A B p (more (omega arith) none) (both p (omega arith))),
          one (step_of b y (n + 2) n r) [] (omega arith)
              (same_second steps A B (n + 2) (away s (n + 1) (n + 2) r (n + 3) (n + 2) (omega arith) (omega arith)) (both (n + 2) (omega arith))),
        )

    wireds : (ss : Stmts) (o j d r n : ℕ) → S < o → o < j → j + joints ss ≤ n
        → ((p : ℕ) → min (gap p j (joints ss)) (min (gap p o 1) (gap p n (made_all ss))) ≡ 0 → Same steps (expand_all ss o j d r n) p) → Wireds ss o j d r n
    wireds (last s) o j d r n g f q same = wired s o d r n g (omega arith) (λ p i. same p (omega arith))
    wireds (s then ss) o j d r n g f q same =
        let A : List Step = expand s o j r n in
        let B : List Step = expand_all ss j (j + 1) d r (n + made s) in (
          wired s o j r n g (omega arith) (λ p i.
              same_first steps A B p (aways ss j (j + 1) d r (n + made s) p (omega arith) (omega arith) (omega arith)) (same p (omega arith))),
          wireds ss j (j + 1) d r (n + made s) (omega arith) (omega arith) (omega arith) (λ p i.
              same_second steps A B p (away s o j r n p (omega arith) (omega arith)) (same p (omega arith))),
        )

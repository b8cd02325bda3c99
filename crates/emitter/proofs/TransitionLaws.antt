-- What is known of a transition record that the reading accepts, and its expansion from the writing of its parts.
-- n is the record's length, as its first field says; q is the guard's.
use Prim.Native.Nat.{ℕ, ◌+◌, ◌-◌, ◌≤◌, ◌<◌}
use mathlib.Core.Path.{◌≡◌, refl, sym, ap, subst, subst₂, ◌∙◌}
use mathlib.Core.Bool.{Bool, true, false}
use mathlib.Core.List.{List, [], ◌∷◌, ◌++◌}
use native.Mathlib.Omega.{arith}
use lib.Dec.{eqb, ltb}
use lib.ListN.{length, get_or, take, drop}
use lib.Seq.{drop-cons}
use Rattle.rules.specs.Basics.{part, number}
use Rattle.rules.specs.Syntax.{Expr, Stmt, Transition}
use Rattle.rules.specs.Reading.{read, Reader, ◌>>=◌, ◌>>◌, pure, here, refuse, in_range, field, zero_byte, size_of, expression, statement, transition_body}
use Rattle.rules.specs.Expanding.{step, made, expand_transitions, table}
use Rattle.records.specs.Counting.{step_count}
use Rattle.records.specs.Acceptance.{Good}
use Rattle.grammar.proofs.Bytes.{part_length, part-drop, part-number}
use Rattle.grammar.proofs.Readings.{unread, then-read, child-read}
use Rattle.records.proofs.Accepts.{accepted_by}
use Rattle.records.proofs.Inversion.{field-read, child-at}
use Rattle.records.proofs.ExpressionLaws.{ends-expression}
use Rattle.records.proofs.StatementLaws.{ends-statement}
use Rattle.records.proofs.StepCounts.{expand-length}
use Rattle.emitter.specs.declared.Next.{Next}
use Rattle.emitter.specs.Writing.{over, Wrote, Emitted, Fit}
use Rattle.emitter.specs.Transitions.{GoodTransition, transition_steps, TransitionExpanded, TransitionFit}
use Rattle.emitter.proofs.Counts.{size_is}
use Rattle.emitter.proofs.Words.{then-expanded}

-- ---- reading

number-one : (s : List ℕ) (i : ℕ) → i < length s → number (take 1 (drop i s)) ≡ get_or s i 0
unfolding number
number-one s i h = rw (drop-cons s i 0 h) (omega arith)

-- a field of one byte, b bytes after the record's offset, and what followed it
byte_at :
    {B : Type 0} (f : ℕ → Reader B) (start at b n : ℕ) (s : List ℕ) → n ≤ length s →
    {tree : B} {to : ℕ} {rest : List ℕ} →
    (field 1 >>= f) start (at + b) (part b n s) ≡ read tree to rest →
    f (get_or s b 0) start (at + (b + 1)) (part (b + 1) n s) ≡ read tree to rest
byte_at f start at b n s high {tree} {to} {rest} reads =
    let x = then-read (field 1) f start (at + b) (part b n s) reads in
    let y = field-read 1 start (at + b) (part b n s) x.here in
    let p : length (part b n s) ≡ n - b = part_length b n s high in
    let w : b + 1 ≤ n = omega (arith, y.0) in
    let v : x.value ≡ get_or s b 0 = y.1 ∙ part-number b n 1 s w ∙ number-one s b (omega arith) in
    let m : x.mid ≡ at + (b + 1) = omega (arith, y.2) in
    let l : x.left ≡ part (b + 1) n s = y.3 ∙ part-drop b n 1 s in
    let next : f x.value start (at + (b + 1)) (part (b + 1) n s) ≡ read tree to rest =
    subst₂ (λ (i : ℕ) (r : List ℕ). f x.value start i r ≡ read tree to rest) m l x.next in
    subst (λ (i : ℕ). f i start (at + (b + 1)) (part (b + 1) n s) ≡ read tree to rest) v next

range-then :
    {B : Type 0} (b : Bool) (f : Reader B) (start at : ℕ) (s : List ℕ) {tree : B} {to : ℕ} {rest : List ℕ} →
    (in_range b >> f) start at s ≡ read tree to rest → f start at s ≡ read tree to rest
unfolding in_range refuse
range-then true f start at s h = h
range-then false f start at s h = absurd (unread h)

range_same : (b : Bool) (start at : ℕ) (s : List ℕ) {u : Unit {0}} {to : ℕ} {rest : List ℕ} → in_range b start at s ≡ read u to rest → (to ≡ at) × (rest ≡ s)
unfolding in_range refuse
range_same true start at s {to = to} {rest = rest} h =
    let p : at ≡ to = cc in
    let q : s ≡ rest = cc in
    (sym p, sym q)
range_same false start at s h = absurd (unread h)

zero-then :
    {B : Type 0} (f : Reader B) (start at b n : ℕ) (s : List ℕ) → n ≤ length s → {tree : B} {to : ℕ} {rest : List ℕ} →
    (zero_byte >> f) start (at + b) (part b n s) ≡ read tree to rest → f start (at + (b + 1)) (part (b + 1) n s) ≡ read tree to rest
unfolding zero_byte
zero-then f start at b n s high {tree} {to} {rest} h =
    let x = then-read zero_byte (λ _. f) start (at + b) (part b n s) h in
    let y = range_same (eqb (get_or s b 0) 0) start (at + (b + 1)) (part (b + 1) n s) (byte_at (λ z. in_range (eqb z 0)) start at b n s high x.here) in
    subst₂ (λ (i : ℕ) (r : List ℕ). f start i r ≡ read tree to rest) y.0 y.1 x.next

pub record Parts (n q : ℕ) (s : List ℕ) (at : ℕ) (tree : Transition) : Type 0 where
  pub action : Good (part (8 + q) n s)
  pub action_at : action.at ≡ at + (8 + q)
  pub twelve : 12 ≤ n
  pub high : n ≤ length s
  pub fits : 8 + q ≤ n
  pub name : tree.name ≡ get_or s 4 0
  pub source : tree.from ≡ get_or s 5 0
  pub target : tree.to ≡ get_or s 6 0
  pub guard : tree.guard_at ≡ at + 8
  pub is : tree.action ≡ action.tree

-- the reader of a transition's body, from its second, third and last field on, and from its guard on
abbrev action_of : (vars at m f t g : ℕ) → Expr → Reader Transition
action_of vars at m f t g x = statement vars 14 >>= λ y. pure (record { at = at; name = m; from = f; to = t; guard_at = g; guard = x; action = y })

abbrev guard_of : (vars at m f t : ℕ) → Reader Transition
guard_of vars at m f t = here >>= λ g. expression vars false 14 >>= λ x. action_of vars at m f t g x

abbrev target_of : (vars S at m f : ℕ) → Reader Transition
target_of vars S at m f = field 1 >>= λ t. in_range (ltb t S) >> zero_byte >> guard_of vars at m f t

abbrev source_of : (vars S at m : ℕ) → Reader Transition
source_of vars S at m = field 1 >>= λ f. in_range (ltb f S) >> target_of vars S at m f

pub transition-parts : {n : ℕ} {s : List ℕ} → n ≡ size_of s → (a : GoodTransition s) (q : ℕ) → q ≡ number (take 2 (drop 8 s)) → Parts n q s a.at a.tree
unfolding transition_body
transition-parts {n} {s} long a q hq =
    let c = child-read _ _ _ _ a.reads in
    let v = a.vars in
    let S = a.states in
    let at = a.at in
    let m = get_or s 4 0 in
    let f = get_or s 5 0 in
    let t = get_or s 6 0 in
    let high : n ≤ length s = omega (arith, c.long.high) in
    let body : (field 1 >>= λ m. source_of v S at m) at (at + 4) (part 4 n s) ≡ read a.tree a.to [] =
    subst (λ (k : ℕ). transition_body v S at (at + 4) (part 4 k s) ≡ read a.tree a.to []) (sym long) c.reads in
    let source = byte_at (λ m. source_of v S at m) at at 4 n s high body in
    let target = range-then (ltb f S) (target_of v S at m f) at (at + 6) (part 6 n s) (byte_at (λ f. in_range (ltb f S) >> target_of v S at m f) at at 5 n s high source) in
    let zeros = range-then (ltb t S) (zero_byte >> guard_of v at m f t) at (at + 7) (part 7 n s) (byte_at (λ t. in_range (ltb t S) >> zero_byte >> guard_of v at m f t) at at 6 n s high target) in
    let guard = zero-then (guard_of v at m f t) at at 7 n s high zeros in
    let x = child-at at at n s high (ends-expression v false 14) (λ x. action_of v at m f t (at + 8) x) 8 q hq guard in
    let whole : Stmt → Transition = λ y. record { at = at; name = m; from = f; to = t; guard_at = at + 8; guard = x.value; action = y } in
    let y = child-at at at n s high (ends-statement v 14) (λ y. pure (whole y)) (8 + q) (number (take 2 (drop (8 + q) s))) refl x.next in
    let z = y.next in
    let tree : whole y.value ≡ a.tree = cc in
    record {
      action = accepted_by 14 at (at + (8 + q)) a.few y.here;
      action_at = refl;
      twelve = x.low;
      high = high;
      fits = x.fits;
      name = sym (ap (λ (u : Transition). u.name) tree);
      source = sym (ap (λ (u : Transition). u.from) tree);
      target = sym (ap (λ (u : Transition). u.to) tree);
      guard = sym (ap (λ (u : Transition). u.guard_at) tree);
      is = sym (ap (λ (u : Transition). u.action) tree);
    }

-- what the code's arithmetic goes by
pub transition_length : {s : List ℕ} → GoodTransition s → 12 ≤ length s
transition_length a = let x = transition-parts refl a _ refl in omega (arith, x.twelve, x.high)

pub action_fits :
    {s : List ℕ} → GoodTransition s →
    (number (take 2 (drop 0 s)) ≤ length s) × (8 + number (take 2 (drop 8 s)) ≤ number (take 2 (drop 0 s)))
action_fits {s} a = let x = transition-parts (size_is s refl) a _ refl in (x.high, x.fits)

pub ruleset record_bounds = (transition_length, action_fits)

-- ---- expanding

-- one element of the transitions, and the others
pub transitions-more :
    (t : Transition) (ts : List Transition) (n : ℕ) →
    expand_transitions (t ∷ ts) n ≡ transition_steps t n ++ expand_transitions ts (n + 1 + made t.action)
unfolding expand_transitions transition_steps
transitions-more t ts n = refl

pub transition-length : (t : Transition) (n : ℕ) → length (transition_steps t n) ≡ 1 + step_count t.action
unfolding transition_steps
transition-length t n = omega (arith, expand-length t.action n t.to t.to (n + 1))

pub as-transition-steps :
    {t : Transition} {x r : Next} {ws vs : List ℕ} → TransitionExpanded t x ws vs r →
    Wrote (transition_steps t x.node) (1 + made t.action) x ws vs r
as-transition-steps {t} {x} w =
    record { words = w.words; node = omega (arith, w.node); step = w.step ∙ ap (λ k. x.step + k) (sym (transition-length t x.node)) }

module _ {n q : ℕ} {s : List ℕ} {t : Transition} {found at : ℕ} {z : Next} {ws : List ℕ} (x : Parts n q s found t) (f : TransitionFit t found at z s ws) where
  pub action-fit :
      {y : Next} {vs : List ℕ} → y.node ≡ z.node + 1 → y.step ≡ z.step + 1 → length vs ≡ length ws →
      Fit x.action.tree x.action.at (at + (8 + q)) y (part (8 + q) n s) vs
  action-fit hn hs h =
      record {
        here = omega (arith, x.action_at, f.here);
        offsets = omega (arith, f.offsets, part_length (8 + q) n s x.high, x.high, x.fits);
        nodes = omega (arith, f.nodes, ap made x.is);
        room = omega (arith, f.room, ap step_count x.is);
      }

  pub transition-expanded :
      {y r : Next} {vs us : List ℕ} {name source target : ℕ} →
      y.node ≡ z.node + 1 → y.step ≡ z.step + 1 →
      name ≡ get_or s 4 0 → source ≡ get_or s 5 0 → target ≡ get_or s 6 0 →
      vs ≡ over z.step (table (step source z.node 1 name (at + 8) ∷ [])) ws →
      Emitted x.action.tree (record { o = z.node; d = target; r = target }) y vs us r →
      TransitionExpanded t z ws us r
  unfolding transition_steps
  transition-expanded {y} {r} {vs} {us} {name} {source} {target} hn hs a b c e w =
      let first : Wrote (step source z.node 1 name (at + 8) ∷ []) 1 z ws vs y = record { words = e; node = hn; step = hs } in
      let count = ap step_count x.is in
      let all = then-expanded (z.node + 1) refl (omega (arith, f.room)) first w in
      record {
        words = rw (x.name, x.source, x.target, x.guard, x.is, f.here, ← a, ← b, ← c) all.words;
        node = omega (arith, all.node, ap made x.is);
        step = omega (arith, w.step);
      }

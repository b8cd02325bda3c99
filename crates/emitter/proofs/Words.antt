-- Laws of steps in words.
use Prim.Native.Nat.{ℕ, ◌+◌, ◌*◌, ◌≤◌}
use mathlib.Core.Path.{◌≡◌, refl, sym, ap, ap₂, subst, ◌∙◌}
use mathlib.Core.List.{List, [], ◌∷◌, ◌++◌, append_assoc, append-nil}
use native.Mathlib.Omega.{arith}
use borrow.Rule.Slice.PartMut.{put_mid}
use Rattle.std.proofs.lemmas.Slice.{put_mid-paste}
use lib.ListN.{length, take, drop, length-append, length-drop, take-append-drop}
use lib.Seq.{length-take-le, take_at, drop_at, drop-drop}
use Rattle.rules.specs.Basics.{joined}
use Rattle.rules.specs.Syntax.{Stmt}
use Rattle.rules.specs.Expanding.{Step, made, expand, words_of, table}
use Rattle.laws.proofs.Tables.{table-length}
use Rattle.records.specs.Counting.{step_count}
use Rattle.records.proofs.StepCounts.{expand-length}
use Rattle.emitter.specs.declared.Ends.{Ends}
use Rattle.emitter.specs.declared.Next.{Next}
use Rattle.emitter.specs.Writing.{over, Wrote, Emitted}

-- ---- the table of steps

pub table-append : (a b : List Step) → table (a ++ b) ≡ table a ++ table b
unfolding table joined
table-append [] b = refl
table-append (s ∷ a) b = ap (λ l. words_of s ++ l) (table-append a b) ∙ sym (append_assoc (words_of s) (table a) (table b))

-- ---- words over words

-- the words before the i-th step and what stands over the others
front_length : (i : ℕ) (a ws : List ℕ) → 5 * i ≤ length ws → length (take (5 * i) ws ++ a) ≡ 5 * i + length a
front_length i a ws h = length-append (take (5 * i) ws) a ∙ ap (λ n. n + length a) (length-take-le (5 * i) ws h)

pub over-length : (i : ℕ) (a ws : List ℕ) → 5 * i + length a ≤ length ws → length (over i a ws) ≡ length ws
unfolding over
over-length i a ws h =
    let p : length (take (5 * i) ws ++ a) ≡ 5 * i + length a = front_length i a ws (omega arith) in
    length-append (take (5 * i) ws ++ a) (drop (5 * i + length a) ws) ∙ omega (arith, length-drop (5 * i + length a) ws)

pub over-over : (i k : ℕ) (a b ws : List ℕ) → length a ≡ 5 * k → 5 * i + length a + length b ≤ length ws → over (i + k) b (over i a ws) ≡ over i (a ++ b) ws
unfolding over
over-over i k a b ws e h =
    let m = 5 * i + length a in
    let p : length (take (5 * i) ws ++ a) ≡ m = front_length i a ws (omega arith) in
    let q : 5 * (i + k) ≡ m = omega arith in
    let z : m + length b ≡ 5 * i + length (a ++ b) = omega (arith, length-append a b) in
    let rest : drop (m + length b) (take (5 * i) ws ++ a ++ drop m ws) ≡ drop (5 * i + length (a ++ b)) ws =
    sym (drop-drop (length b) m (take (5 * i) ws ++ a ++ drop m ws)) ∙ ap (drop (length b)) (drop_at (take (5 * i) ws ++ a) (drop m ws) m p)
    ∙ drop-drop (length b) m ws ∙ ap (λ n. drop n ws) z in
    rw (q, take_at (take (5 * i) ws ++ a) (drop m ws) m p, rest, append_assoc (take (5 * i) ws) a b)

-- ---- steps over words

-- a step's words in place of five, as copying them leaves them
pub one-over :
    (i : ℕ) (s : Step) (m : ℕ) (ws ys : List ℕ) → m ≡ 5 → ys ≡ words_of s →
    put_mid (5 * i) m ws ys ≡ over i (table (s ∷ [])) ws
unfolding over table joined words_of
one-over i s m ws ys h e = put_mid-paste (5 * i) m ws ys (words_of s) 5 e (sym h) refl

pub steps-length : (i : ℕ) (a : List Step) (ws : List ℕ) → 5 * (i + length a) ≤ length ws → length (over i (table a) ws) ≡ length ws
steps-length i a ws h = over-length i (table a) ws (omega (arith, table-length a))

pub steps-over : (i : ℕ) (a b : List Step) (ws : List ℕ) → 5 * (i + length a + length b) ≤ length ws → over (i + length a) (table b) (over i (table a) ws) ≡ over i (table (a ++ b)) ws
steps-over i a b ws h =
    over-over i (length a) (table a) (table b) ws (table-length a) (omega (arith, table-length a, table-length b)) ∙ ap (λ l. over i l ws) (sym (table-append a b))

-- from the first step on: the table, and no later word
pub over_first : (a : List Step) (ws : List ℕ) → over 0 (table a) ws ≡ table a ++ drop (5 * length a) ws
unfolding over
over_first a ws =
    let z : 5 * 0 + length (table a) ≡ 5 * length a = omega (arith, table-length a) in
    ap (λ n. table a ++ drop n ws) z

-- ---- one writing after another

-- nothing yet
pub wrote_none : (x : Next) (ws : List ℕ) → Wrote [] 0 x ws ws x
unfolding over table joined
wrote_none x ws =
    let n = 5 * x.step in
    let z : n + 0 ≡ n = omega arith in
    record {
      words = sym (ap₂ (λ a b. a ++ b) (append-nil (take n ws)) (ap (λ k. drop k ws) z) ∙ take-append-drop n ws);
      node = omega arith;
      step = omega arith;
    }

pub wrote-two :
    {p q y z : Step} {x r : Next} {ws vs us : List ℕ} →
    5 * (x.step + 2) ≤ length ws → p ≡ y → q ≡ z →
    vs ≡ over x.step (table (p ∷ [])) ws → us ≡ over (x.step + 1) (table (q ∷ [])) vs → r.node ≡ x.node → r.step ≡ x.step + 2 →
    Wrote (y ∷ z ∷ []) 0 x ws us r
wrote-two {p} {q} {x = x} {ws = ws} h a b e f n s =
    rw (← a, ← b)
    (record {
      words = f ∙ ap (over (x.step + 1) (table (q ∷ []))) e ∙ steps-over x.step (p ∷ []) (q ∷ []) ws (omega arith);
      node = omega arith;
      step = s;
    })

pub wrote-length :
    {a : List Step} {m : ℕ} {x r : Next} {ws vs : List ℕ} →
    5 * (x.step + length a) ≤ length ws → Wrote a m x ws vs r → length vs ≡ length ws
wrote-length {a} {x = x} {ws = ws} h w = ap length w.words ∙ steps-length x.step a ws h

pub wrote_then :
    {a b : List Step} {m k : ℕ} {x y z : Next} {ws vs us : List ℕ} →
    5 * (x.step + length a + length b) ≤ length ws →
    Wrote a m x ws vs y → Wrote b k y vs us z → Wrote (a ++ b) (m + k) x ws us z
wrote_then {a} {b} {x = x} {ws = ws} h w v =
    record {
      words = v.words ∙ ap₂ (λ j l. over j (table b) l) w.step w.words ∙ steps-over x.step a b ws h;
      node = omega (arith, w.node, v.node);
      step = omega (arith, w.step, v.step, length-append a b);
    }

-- the same nodes, counted from elsewhere
pub rebased :
    {a : List Step} {m k : ℕ} {x y r : Next} {ws vs : List ℕ} →
    y.step ≡ x.step → y.node + m ≡ x.node + k → Wrote a m y ws vs r → Wrote a k x ws vs r
rebased {a} {x = x} {ws = ws} p q w =
    record {
      words = w.words ∙ ap (λ n. over n (table a) ws) p;
      node = w.node ∙ q;
      step = w.step ∙ ap (λ n. n + length a) p;
    }

-- ---- statements

pub as-steps : {t : Stmt} {e : Ends} {x r : Next} {ws vs : List ℕ} → Emitted t e x ws vs r → Wrote (expand t e.o e.d e.r x.node) (made t) x ws vs r
as-steps {t} {e} {x} w =
    record { words = w.words; node = w.node; step = w.step ∙ ap (λ k. x.step + k) (sym (expand-length t e.o e.d e.r x.node)) }

pub as-statement : {t : Stmt} {e : Ends} {x r : Next} {ws vs : List ℕ} → Wrote (expand t e.o e.d e.r x.node) (made t) x ws vs r → Emitted t e x ws vs r
as-statement {t} {e} {x} w =
    record { words = w.words; node = w.node; step = w.step ∙ ap (λ k. x.step + k) (expand-length t e.o e.d e.r x.node) }

-- a statement after other steps; p is its first new node
pub then-expanded :
    {a : List Step} {m : ℕ} {x y z : Next} {ws vs us : List ℕ} {t : Stmt} {e : Ends} (p : ℕ) → x.node + m ≡ p →
    5 * (x.step + length a + step_count t) ≤ length ws →
    Wrote a m x ws vs y → Emitted t e y vs us z →
    Wrote (a ++ expand t e.o e.d e.r p) (m + made t) x ws us z
then-expanded {a} {m} {x} {y} {z} {ws} {us = us} {t = t} {e = e} p q h w v =
    subst (λ k. Wrote (a ++ expand t e.o e.d e.r k) (m + made t) x ws us z) (w.node ∙ q)
    (wrote_then (omega (arith, h, expand-length t e.o e.d e.r y.node)) w (as-steps v))

-- Demand 3, whole (demand-3): the agreement of both forms and the exactness of rulings, put together. A list breaks a rule in its
-- expanded run exactly if it does so in its unexpanded one (breaking-same), and an answer's numbers tell its ruling (numbers-tell),
-- so that the exported verdict is exact too (clients-verdict-exact). Words that were expanded into begin with the expansion
-- (expansion-begins).
use mathlib.Core.Path.{◌≡◌, refl, sym, ap, ap₂, ◌∙◌, fun_ext}
use Prim.Native.Nat.{ℕ, ◌-◌}
use mathlib.Core.Bool.{true}
use mathlib.Core.List.{List}
use mathlib.Core.Logic.{◌↔◌}
use lib.ListN.{length, take, replicate}
use lib.Seq.{take_at}
use Rattle.rules.specs.declared.Call.{Call}
use Rattle.rules.specs.declared.Outcome.{Outcome}
use Rattle.rules.specs.declared.State.{State}
use Rattle.rules.specs.Basics.{padded}
use Rattle.rules.specs.Syntax.{Rule, Agreement}
use Rattle.rules.specs.Expanding.{expansion, table}
use Rattle.rules.specs.Accepting.{good, file_of, on_file, lent, written, expand_file}
use Rattle.rules.specs.Calling.{start_tree, call_tree, start, call}
use Rattle.rules.specs.Stepping.{begins_with}
use Rattle.rules.specs.Judging.{Ruling, broken, held, spent, breaks, breaks_run, breaks_expanded, breaking, breaking_expanded, rows_at}
use Rattle.rules.specs.Judging.{lists_for, ruling, judged, judged_of, verdict}
use Rattle.rules.specs.Answers.{verdict_numbers, judged_numbers}
use Rattle.rules.specs.Exported.{VerdictHands}
use Rattle.rules.specs.Demands.{Right, CannotTell, Exact, Judgeable, Demand3, ExpansionBegins, ClientsVerdictExact}
use Rattle.forms.proofs.Decoding.{written-begins}
use Rattle.forms.proofs.Agreement.{start-lent, call-lent, forms-agree}
use Rattle.verdicts.proofs.Client.{verdict-is-ruling}
use Rattle.verdicts.proofs.Exact.{verdicts-exact}
use Rattle.verdicts.proofs.Order.{places-in-order}

-- ---- an answer tells its ruling

padded-tells : (l k : List ℕ) → length l ≡ length k → padded 8 l ≡ padded 8 k → l ≡ k
unfolding padded
padded-tells l k n e =
    sym (take_at l (replicate (8 - length l) 0) (length k) n)
    ∙ ap (take (length k)) e
    ∙ take_at k (replicate (8 - length k) 0) (length k) refl

-- an answer's numbers tell its ruling, and so does the answer
pub numbers-tell : (v w : Ruling) → judged_numbers (judged_of v) ≡ judged_numbers (judged_of w) → v ≡ w
unfolding judged_of judged judged_numbers verdict_numbers
numbers-tell (broken n l) (broken m k) e =
    let tried : n ≡ m = cc in
    let same : length l ≡ length k = cc in
    let rows : padded 8 l ≡ padded 8 k = cc in
    ap₂ broken tried (padded-tells l k same rows)
numbers-tell (broken n l) (held m) e = absurd cc
numbers-tell (broken n l) (spent m) e = absurd cc
numbers-tell (held n) (broken m k) e = absurd cc
numbers-tell (held n) (held m) e = let tried : n ≡ m = cc in ap held tried
numbers-tell (held n) (spent m) e = absurd cc
numbers-tell (spent n) (broken m k) e = absurd cc
numbers-tell (spent n) (held m) e = absurd cc
numbers-tell (spent n) (spent m) e = let tried : n ≡ m = cc in ap spent tried

judged-tells : (v w : Ruling) → judged_of v ≡ judged_of w → v ≡ w
judged-tells v w e = numbers-tell v w (ap judged_numbers e)

-- ---- an accepted file

module _ (file : List ℕ) (a : Agreement) (e : file_of file ≡ good a) where
  tree-start : start file ≡ start_tree a
  unfolding start on_file
  tree-start = rw e

  tree-call : (s : State) (k : Call) → call file s k ≡ call_tree a s k
  unfolding call on_file
  tree-call s k = rw e

  module _ (words : List ℕ) (h : begins_with words (table (expansion a)) ≡ true) where
    pub breaking-same : (r : Rule) (l : List ℕ) → breaking_expanded file words a r l ≡ breaking a r l
    unfolding breaking_expanded breaking breaks_expanded breaks
    breaking-same r l =
        ap₂ (λ (g : State → Call → Outcome) (o : Outcome). breaks_run g o.state r (rows_at a l))
        (fun_ext λ s. fun_ext λ k. call-lent file a e words h s k ∙ tree-call s k)
        (start-lent file a e words h ∙ tree-start)

    cannot-tell : CannotTell file words a
    cannot-tell = (start-lent file a e words h, λ calls. forms-agree file words a calls e h, breaking-same)

  -- what a verdict says and hands back, for any way to say a ruling that tells rulings apart
  exact : {A : Type 0} (say : Ruling → A) → ((v w : Ruling) → say v ≡ say w → v ≡ w) → (r : Rule) (words : List ℕ)
      → Exact file a r (λ v. say (ruling a r) ≡ say v) (written a words)
  exact say tells r words =
      let begun : begins_with (written a words) (table (expansion a)) ≡ true = written-begins a words in
      let same : breaking_expanded file (written a words) a r ≡ breaking a r = fun_ext (breaking-same (written a words) begun r) in
      let plain : (v : Ruling) → (say (ruling a r) ≡ say v) ↔ Right a.fields.bound (breaking a r) (lists_for a) v =
      λ v. (λ said. (verdicts-exact a r v).0 (tells (ruling a r) v said), λ right. ap say ((verdicts-exact a r v).1 right)) in
      (begun, (ruling a r, refl), plain, rw same plain)

  module _ (words : List ℕ) (i : ℕ) (r : Rule) (h : Judgeable file words a i r) where
    says : verdict file i words ≡ lent (judged_of (ruling a r)) (written a words)
    says = verdict-is-ruling file words i a r e h.0 h.1 h.2

    exact-verdict : Exact file a r (λ v. (verdict file i words).answer ≡ judged_of v) (verdict file i words).words
    exact-verdict = rw says (exact judged_of judged-tells r words)

    pub exact-handed : {after answer : List ℕ} → VerdictHands file i words after answer
        → Exact file a r (λ v. answer ≡ judged_numbers (judged_of v)) after
    exact-handed m = rw (m.words_are, m.answer-is, says) (exact (λ v. judged_numbers (judged_of v)) numbers-tell r words)

pub demand-3 : Demand3
unfolding lists_for
demand-3 file words a e =
    (cannot-tell file a e words, exact-verdict file a e words, places-in-order (length a.rows) a.fields.depth)

pub clients-verdict-exact : ClientsVerdictExact
clients-verdict-exact file words a i r after answer e h m = exact-handed file a e words i r h m

pub expansion-begins : ExpansionBegins
unfolding expand_file on_file
expansion-begins file words a e h = rw (e, h) (written-begins a words)

-- What the check makes of an agreement's groups, of its body and of a file.
use Prim.Native.Nat.{ℕ, ◌+◌, ◌≤◌}
use mathlib.Core.Bool.{true, false, ◌&&◌}
use mathlib.Core.Path.{◌≡◌, refl, sym, ap, ◌∙◌}
use mathlib.Core.List.{List, [], ◌∷◌, map}
use native.Mathlib.Omega.{arith}
use lib.Dec.{leb}
use lib.ListN.{length}
use borrow.Author.Tests.{leb-true, le-leb, eq-eqb, ne_eqb}
use Rattle.rules.specs.declared.Call.{Call}
use Rattle.rules.specs.Basics.{choose, part, sum}
use Rattle.rules.specs.Syntax.{Stmt, Transition, Rule}
use Rattle.rules.specs.Reading.{Reading, refused, read, Reader, after, ◌>>=◌, ◌>>◌, pure, refuse, size_of, kind_of, child, only, group, no_more}
use Rattle.rules.specs.Reading.{statement, transition_body, rule_body, row_body, fields_body, agreement_body, read_tree}
use Rattle.records.specs.Checking.{Answer, outcome, found, refused_at, no_steps, ended, checked_on, pair}
use Rattle.records.specs.Counting.{step_count}
use Rattle.laws.proofs.Basics.{both-true}
use Rattle.grammar.proofs.Bytes.{Whole, is_whole}
use Rattle.grammar.proofs.Accepted.{file-inner}
use Rattle.records.proofs.Readers.{Steady, steady-pair, pair-onward, pair_then}
use Rattle.records.proofs.Readers.{then_same, then-onward, child-refuses, child-ended}
use Rattle.records.proofs.StatementLaws.{steady-statement}
use Rattle.files.specs.FieldAnswers.{value_at}
use Rattle.files.specs.Members.{transition_steps, member, itself, names_in}
use Rattle.files.specs.Trees.{tree_steps, groups, groups_steps, groups_of}
use Rattle.files.proofs.TreeSteps.{tree-steps}
use Rattle.files.proofs.FieldLaws.{fields-are}
use Rattle.files.proofs.Steadies.{steady-fields-body, steady-members}
use Rattle.files.proofs.NameLaws.{names-read}
use Rattle.files.proofs.GroupLaws.{group-steps}

-- ---- readers in a row, seen by their steps

-- what follows may lean on what was read
then-reads :
    {A B C : Type 0} (q : Reading A) (f : A → (m : ℕ) (l : List ℕ) → Reading B) (g : A → (m : ℕ) (l : List ℕ) → Reading C) (count : B → ℕ) (cost : C → ℕ) →
    ((a : A) (m : ℕ) (l : List ℕ) → q ≡ read a m l → outcome count (f a m l) ≡ outcome cost (g a m l)) →
    outcome count (after q f) ≡ outcome cost (after q g)
then-reads (refused n p) f g count cost h = refl
then-reads (read a m l) f g count cost h = h a m l refl

-- p reads what q reads, as h of it
then-mapped :
    {A B C D : Type 0} (q : Reading A) (h : A → C) (p : Reading C)
    (f : A → (m : ℕ) (l : List ℕ) → Reading B) (g : C → (m : ℕ) (l : List ℕ) → Reading D) (count : B → ℕ) (cost : D → ℕ) →
    p ≡ after q (λ a m l. read (h a) m l) →
    ((a : A) (m : ℕ) (l : List ℕ) → q ≡ read a m l → outcome count (f a m l) ≡ outcome cost (g (h a) m l)) →
    outcome count (after q f) ≡ outcome cost (after p g)
then-mapped (refused n i) h p f g count cost e w = rw e
then-mapped (read a m l) h p f g count cost e w = rw e (w a m l refl)

-- a row inside a row
then-inner :
    {A B C D : Type 0} (q : Reading A) (f : A → (m : ℕ) (l : List ℕ) → Reading B) (g : A → (m : ℕ) (l : List ℕ) → Reading C)
    (k : C → (m : ℕ) (l : List ℕ) → Reading D) (count : B → ℕ) (cost : D → ℕ) →
    ((a : A) (m : ℕ) (l : List ℕ) → outcome count (f a m l) ≡ outcome cost (after (g a m l) k)) →
    outcome count (after q f) ≡ outcome cost (after (after q g) k)
then-inner (refused n p) f g k count cost h = refl
then-inner (read a m l) f g k count cost h = h a m l

-- ---- the groups

sum-no_steps : {A : Type 0} (xs : List A) → sum (map no_steps xs) ≡ 0
unfolding sum
sum-no_steps [] = refl
sum-no_steps (x ∷ xs) = omega (arith, sum-no_steps xs)

module _ (states vars accounts start at : ℕ) (s : List ℕ) where
  -- a group's members, read for their steps; names are those of the transitions that s begins with
  abbrev members : (most kind : ℕ) → Reader (List ℕ)
  members most kind = group most kind (member states vars accounts (names_in 64 s) kind)

  abbrev rows : Answer
  rows = checked_on sum (members 16 3) start at s (outcome sum (members 64 2 start at s))

  abbrev rules : Answer
  rules = checked_on sum (members 8 4) start at s rows

  abbrev total : List ℕ → List ℕ → List ℕ → ℕ
  total a b c = sum a + sum b + sum c

  by-steps :
      outcome groups_steps (groups states vars accounts start at s)
      ≡ outcome itself ((members 64 2 >>= λ a. members 16 3 >>= λ b. members 8 4 >>= λ c. no_more >>= λ _. pure (total a b c)) start at s)
  unfolding groups member choose
  by-steps =
      then-mapped (group 64 2 (transition_body vars states) start at s) (map transition_steps) (members 64 2 start at s) _
      (λ a m l. (members 16 3 >>= λ b. members 8 4 >>= λ c. no_more >>= λ _. pure (total a b c)) start m l) groups_steps itself
      (group-steps transition_steps 2 (transition_body vars states) 64 start at s)
      λ ts m l h.
      then-mapped (group 16 3 (row_body accounts) start m l) (map no_steps) (members 16 3 start m l) _
      (λ b m l. (members 8 4 >>= λ c. no_more >>= λ _. pure (total (map transition_steps ts) b c)) start m l) groups_steps itself
      (group-steps no_steps 3 (row_body accounts) 16 start m l)
      λ cs m l _.
      ap (λ (ns : List ℕ). outcome groups_steps ((group 8 4 (rule_body vars ns) >>= λ rs. no_more >> pure (ts, cs, rs)) start m l)) (names-read vars states 64 start at s h)
      ∙ then-mapped (group 8 4 (rule_body vars (names_in 64 s)) start m l) (map no_steps) (members 8 4 start m l) _
      (λ c m l. (no_more >>= λ _. pure (total (map transition_steps ts) (map no_steps cs) c)) start m l) groups_steps itself
      (group-steps no_steps 4 (rule_body vars (names_in 64 s)) 8 start m l)
      λ rs m l _.
      then_same (no_more start m l) _ (λ _ m l. read (total (map transition_steps ts) (map no_steps cs) (map no_steps rs)) m l) groups_steps itself
      λ _ m l. ap (found m) (omega (arith, sum-no_steps cs, sum-no_steps rs))

  steady : (most kind : ℕ) → Steady 0 sum (members most kind)
  steady most kind = steady-members states vars accounts (names_in 64 s) kind most

  rules-paired : checked_on sum (members 8 4) start at s (outcome (λ p. sum p.0 + sum p.1) (pair (members 64 2) (members 16 3) start at s)) ≡ rules
  rules-paired = ap (checked_on sum (members 8 4) start at s) (pair-onward (steady 64 2) (steady 16 3) start at s)

  pub groups-onward : checked_on no_steps no_more start at s rules ≡ outcome groups_steps (groups states vars accounts start at s)
  groups-onward =
      let two = steady-pair (steady 64 2) (steady 16 3) in
      sym
      (by-steps
      ∙ ap (outcome itself)
      (pair_then (members 64 2) (members 16 3) (λ a b. members 8 4 >>= λ c. no_more >>= λ _. pure (total a b c)) start at s
      ∙ pair_then (pair (members 64 2) (members 16 3)) (members 8 4) (λ p c. no_more >>= λ _. pure (total p.0 p.1 c)) start at s)
      ∙ then-onward (steady-pair two (steady 8 4)) no_more no_steps itself (λ p _. total p.0.0 p.0.1 p.1) (λ p _. omega arith) start at s
      ∙ ap (checked_on no_steps no_more start at s) (pair-onward two (steady 8 4) start at s ∙ rules-paired))

-- ---- the agreement

module _ (start at : ℕ) (b : List ℕ) where
  abbrev vars : ℕ
  vars = value_at 1 1 b

  abbrev st : Reader Stmt
  st = statement vars 15

  abbrev grouped : Reader (List Transition × List Call × List Rule)
  grouped = groups_of b

  abbrev initial : Answer
  initial = checked_on step_count st start at b (outcome no_steps (fields_body start at b))

  abbrev fallback : Answer
  fallback = checked_on step_count st start at b initial

  -- what follows the fields, read for its steps
  abbrev tail : (states variables accounts : ℕ) → Reader ℕ
  tail S v A = statement v 15 >>= λ i. statement v 15 >>= λ e. groups S v A >>= λ g. pure (step_count i + step_count e + groups_steps g)

  tree-by-steps : outcome tree_steps (agreement_body start at b) ≡ outcome itself ((fields_body >>= λ _. tail (value_at 1 0 b) vars (value_at 1 2 b)) start at b)
  unfolding agreement_body groups
  tree-by-steps =
      then-reads (fields_body start at b) _ (λ _ m l. tail (value_at 1 0 b) vars (value_at 1 2 b) start m l) tree_steps itself
      λ f m l h.
      let e = fields-are start at b h in
      let z : outcome itself (tail f.states f.variables f.accounts start m l) ≡ outcome itself (tail (value_at 1 0 b) vars (value_at 1 2 b) start m l) = rw (e.0, e.1, e.2) in
      then_same (statement f.variables 15 start m l) _ _ tree_steps itself (λ i m l.
      then_same (statement f.variables 15 start m l) _ _ tree_steps itself λ e m l.
      then-inner (group 64 2 (transition_body f.variables f.states) start m l) _ _ _ tree_steps itself λ ts m l.
      then-inner (group 16 3 (row_body f.accounts) start m l) _ _ _ tree_steps itself λ cs m l.
      then-inner (group 8 4 (rule_body f.variables (map (λ (t : Transition). t.name) ts)) start m l) _ _ _ tree_steps itself λ rs m l.
      then-inner (no_more start m l) _ _ _ tree_steps itself λ _ m l.
      ap (found m) (tree-steps (record { fields = f; initial = i; fallback = e; transitions = ts; rows = cs; rules = rs })))
      ∙ z

  steady-st : Steady 0 step_count st
  steady-st = steady-statement vars 15

  fallback-paired : checked_on step_count st start at b (outcome (λ p. no_steps p.0 + step_count p.1) (pair fields_body st start at b)) ≡ fallback
  fallback-paired = ap (checked_on step_count st start at b) (pair-onward steady-fields-body steady-st start at b)

  pub tree-onward : checked_on groups_steps grouped start at b fallback ≡ outcome tree_steps (agreement_body start at b)
  tree-onward =
      let two = steady-pair steady-fields-body steady-st in
      sym
      (tree-by-steps
      ∙ ap (outcome itself)
      (pair_then fields_body st (λ _ i. st >>= λ e. grouped >>= λ g. pure (step_count i + step_count e + groups_steps g)) start at b
      ∙ pair_then (pair fields_body st) st (λ p e. grouped >>= λ g. pure (step_count p.1 + step_count e + groups_steps g)) start at b)
      ∙ then-onward (steady-pair two steady-st) grouped groups_steps itself (λ p g. step_count p.0.1 + step_count p.1 + groups_steps g) (λ p g. omega arith) start at b
      ∙ ap (checked_on groups_steps grouped start at b) (pair-onward two steady-st start at b ∙ fallback-paired))

-- ---- the file

module _ (file : List ℕ) where
  abbrev answer : Answer
  answer = outcome tree_steps (read_tree file)

  pub file-outside : (leb 4 (length file) && leb (length file) 32768) ≡ false → refused_at 1 0 ≡ answer
  unfolding read_tree
  file-outside h = rw h

  pub file-inside : (leb 4 (length file) && leb (length file) 32768) ≡ true → (4 ≤ length file) × (length file ≤ 32768)
  file-inside h =
      let b = both-true (leb 4 (length file)) (leb (length file) 32768) h in
      (leb-true _ _ b.0, leb-true _ _ b.1)

  module _ (four : 4 ≤ length file) where
    module _ (fits : length file ≤ 32768) where
      pub file-length : (size_of file ≡ length file → ⊥) → refused_at 1 0 ≡ answer
      unfolding read_tree
      file-length h = rw (le-leb _ _ four, le-leb _ _ fits, ne_eqb _ _ h)

      module _ (long : size_of file ≡ length file) where
        as-child : answer ≡ outcome tree_steps (child (only 1 agreement_body) 0 0 file)
        unfolding read_tree
        as-child = rw (le-leb _ _ four, le-leb _ _ fits, eq-eqb _ _ long)

        entire : Whole file (length file)
        entire = record { is = is_whole file (length file) long four (omega arith); size = long; low = four; high = omega arith }

        pub file-kind : (kind_of file ≡ 1 → ⊥) → refused_at 3 0 ≡ answer
        unfolding only refuse
        file-kind k = sym (as-child ∙ ap (outcome tree_steps) (child-refuses (only 1 agreement_body) 0 0 file 3 0 entire.is (rw (ne_eqb _ _ k))))

        pub file-ended : kind_of file ≡ 1 → ended (length file) (outcome tree_steps (agreement_body 0 4 (part 4 (length file) file))) ≡ answer
        unfolding only
        file-ended k =
            let z : 0 + length file ≡ length file = omega arith in
            sym (as-child ∙ child-ended tree_steps 0 0 (length file) 1 file file-inner entire (sym k) ∙ rw z)

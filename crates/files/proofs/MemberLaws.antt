-- What the check makes of a transition's, a row's and a rule's body.
use Rattle.std.specs.Prelude.{if◌then◌else◌}
use Prim.Native.Nat.{ℕ, ◌+◌}
use mathlib.Core.Path.{◌≡◌, refl, sym, ap, ◌∙◌}
use mathlib.Core.Bool.{Bool, true, false, ◌&&◌}
use mathlib.Core.List.{List, [], ◌∷◌}
use native.Mathlib.Omega.{arith}
use lib.Dec.{eqb, ltb, leb}
use lib.ListN.{drop}
use borrow.Author.Tests.{ne_eqb, eqb-true, eqb-false}
use Rattle.rules.specs.declared.Call.{Call}
use Rattle.rules.specs.Basics.{choose}
use Rattle.rules.specs.Syntax.{Expr, Stmt, Transition, Rule, always, not_after, only_after}
use Rattle.rules.specs.Reading.{Reading, read, Reader, after, ◌>>=◌, pure, field, fields, named, expression, statement, transition_body, rule_body, row_body}
use Rattle.std.specs.Prelude.{Result, Err}
use Rattle.std.specs.Result.{result_and}
use Rattle.records.specs.declared.fault.Fault.{Fault}
use Rattle.records.specs.Checking.{Answer, outcome, found, no_steps, counted, checked_on, pair}
use Rattle.records.specs.Counting.{step_count}
use Rattle.records.proofs.Readers.{steady-pair, pair-onward, pair_then, then-pure, then_same, then-onward, counts}
use Rattle.records.proofs.ExpressionLaws.{expression-pays}
use Rattle.files.specs.FieldAnswers.{value_at, field_answer}
use Rattle.files.specs.Members.{transition_head, rule_head, transition_steps, member, itself}
use Rattle.files.proofs.FieldLaws.{tested, outcome-tested, after-tested, and-twice}
use Rattle.files.proofs.FieldLaws.{field_step, plain_step, zero-step, words_answer}
use Rattle.files.proofs.Steadies.{steady-transition-head, steady-rule-head}

module _ (start at : ℕ) (b : List ℕ) where
  -- the answer on a field, and a byte's value
  abbrev good : ℕ → ℕ → Bool → Result (Unit {0}) Fault
  good n i t = field_answer n i start at b t

  abbrev byte : ℕ → ℕ
  byte i = value_at 1 i b

  from_start : {A : Type 0} (r : Reader A) → r start at b ≡ r start (at + 0) b
  from_start r = let z : at ≡ at + 0 = omega arith in ap (λ (at : ℕ). r start at b) z

  -- ---- a transition

  module _ (states : ℕ) where
    abbrev heads : {A : Type 0} → (Result (Unit {0}) Fault → A → A) → A → A
    heads f x = f (good 1 0 true) (f (good 1 1 (ltb (byte 1) states)) (f (good 1 2 (ltb (byte 2) states)) (f (good 1 3 (eqb (byte 3) 0)) x)))

    -- the check's answers one after another
    abbrev pub head_answers : Result (Unit {0}) Fault
    head_answers = result_and (result_and (result_and (good 1 0 true) (good 1 1 (ltb (byte 1) states))) (good 1 2 (ltb (byte 2) states))) (good 1 3 (eqb (byte 3) 0))

    head-row : transition_head states start at b ≡ heads tested (read (byte 0, byte 1, byte 2) (at + 4) (drop 4 b))
    unfolding transition_head
    head-row =
        from_start (transition_head states)
        ∙ plain_step 1 0 start at b (omega arith) _ λ h. field_step 1 1 start at b h _ _ λ h. field_step 1 2 start at b h _ _ λ h. zero-step 3 start at b h _ λ _. refl

    pub head-answer : outcome no_steps (transition_head states start at b) ≡ result_and head_answers (found (at + 4) 0)
    head-answer =
        let p : outcome no_steps (transition_head states start at b) ≡ heads result_and (found (at + 4) 0) = ap (outcome no_steps) head-row ∙ simp outcome-tested in
        let q : result_and head_answers (found (at + 4) 0) ≡ heads result_and (found (at + 4) 0) = simp and-twice in
        p ∙ sym q

    module _ (vars : ℕ) where
      abbrev e : Reader Expr
      e = expression vars false 14

      abbrev st : Reader Stmt
      st = statement vars 14

      abbrev built : (h : ℕ × ℕ × ℕ) → Expr → Stmt → Transition
      built h x y = record { at = start; name = h.0; from = h.1; to = h.2; guard_at = at + 4; guard = x; action = y }

      whole_row :
          transition_body vars states start at b
          ≡ heads tested (after (e start (at + 4) (drop 4 b)) (λ x m l. after (st start m l) (λ y m l. read (built (byte 0, byte 1, byte 2) x y) m l)))
      unfolding transition_body
      whole_row =
          from_start (transition_body vars states)
          ∙ plain_step 1 0 start at b (omega arith) _ λ h. field_step 1 1 start at b h _ _ λ h. field_step 1 2 start at b h _ _ λ h. zero-step 3 start at b h _ λ _. refl

      transition-then : transition_body vars states start at b ≡ (transition_head states >>= λ h. e >>= λ x. st >>= λ y. pure (built h x y)) start at b
      transition-then =
          let f : (h : ℕ × ℕ × ℕ) (m : ℕ) (l : List ℕ) → Reading Transition = λ h m l. after (e start m l) (λ x m l. after (st start m l) (λ y m l. read (built h x y) m l)) in
          whole_row ∙ sym (ap (λ q. after q f) head-row ∙ simp after-tested)

      -- its fields and its guard, which pay for the guard's step
      before : Reader ((ℕ × ℕ × ℕ) × Expr)
      before = pair (transition_head states) e

      one : (ℕ × ℕ × ℕ) × Expr → ℕ
      one p = 1

      pub transition-onward :
          outcome transition_steps (transition_body vars states start at b)
          ≡ checked_on step_count st start at b (counted 1 (checked_on no_steps e start at b (outcome no_steps (transition_head states start at b))))
      unfolding before one
      transition-onward =
          let h = steady-transition-head states 0 (omega arith) in
          let i = expression-pays vars false 14 in
          let next : Answer → Answer = checked_on step_count st start at b in
          ap (outcome transition_steps) (transition-then ∙ pair_then (transition_head states) e (λ h x. st >>= λ y. pure (built h x y)) start at b)
          ∙ then-onward (steady-pair h (i 1 (omega arith))) st step_count transition_steps (λ p y. built p.0 p.1 y) (λ p y. refl) start at b
          ∙ ap next (counts one 1 (before start at b) (λ _. refl) ∙ ap (counted 1) (pair-onward h (i 0 (omega arith)) start at b))

  -- ---- a call row

  module _ (accounts : ℕ) where
    abbrev row : {A : Type 0} → (Result (Unit {0}) Fault → A → A) → A → A
    row f x = f (good 1 0 true) (f (good 1 1 (ltb (byte 1) accounts)) (f (good 1 2 (eqb (byte 2) 0)) (f (good 1 3 (eqb (byte 3) 0)) x)))

    abbrev pub row_answers : Result (Unit {0}) Fault
    row_answers = result_and (result_and (result_and (good 1 0 true) (good 1 1 (ltb (byte 1) accounts))) (good 1 2 (eqb (byte 2) 0))) (good 1 3 (eqb (byte 3) 0))

    abbrev call : (coins : ℕ) (xs : List ℕ) → Call
    call coins xs = record { name = byte 0; sender = byte 1; coins = coins; arguments = xs }

    row-row : row_body accounts start at b ≡ row tested (after (field 4 start (at + 4) (drop 4 b)) (λ c m l. after (fields 4 4 start m l) (λ xs m l. read (call c xs) m l)))
    unfolding row_body
    row-row =
        from_start (row_body accounts)
        ∙ plain_step 1 0 start at b (omega arith) _ λ h. field_step 1 1 start at b h _ _ λ h. zero-step 2 start at b h _ λ h. zero-step 3 start at b h _ λ _. refl

    pub row-answer : outcome no_steps (row_body accounts start at b) ≡ result_and row_answers (words_answer start at b 5 4)
    unfolding fields
    row-answer =
        let words : (c : ℕ) (m : ℕ) (l : List ℕ) → Reading (List ℕ) = λ c m l. after (fields 4 4 start m l) (λ xs m l. read (c ∷ xs) m l) in
        let calls : (c : ℕ) (m : ℕ) (l : List ℕ) → Reading Call = λ c m l. after (fields 4 4 start m l) (λ xs m l. read (call c xs) m l) in
        let s : outcome no_steps (after (field 4 start (at + 4) (drop 4 b)) calls) ≡ words_answer start at b 5 4 =
        then_same (field 4 start (at + 4) (drop 4 b)) calls words no_steps no_steps
        (λ c m l. then-pure no_steps (call c) (fields 4 4 start m l) ∙ sym (then-pure no_steps (λ xs. c ∷ xs) (fields 4 4 start m l))) in
        let p : outcome no_steps (row_body accounts start at b) ≡ row result_and (outcome no_steps (after (field 4 start (at + 4) (drop 4 b)) calls)) =
        ap (outcome no_steps) row-row ∙ simp outcome-tested in
        let q : result_and row_answers (words_answer start at b 5 4) ≡ row result_and (words_answer start at b 5 4) = simp and-twice in
        p ∙ ap (row result_and) s ∙ sym q

  -- ---- a rule

  module _ (names : List ℕ) where
    abbrev type : ℕ
    type = value_at 2 0 b

    abbrev tests : {A : Type 0} → (Result (Unit {0}) Fault → A → A) → A → A
    tests f x = f (good 2 0 (leb 1 type && leb type 3)) (f (good 1 2 (named names type (byte 2))) (f (good 1 3 (named names type (byte 3))) x))

    abbrev pub rule_answers : Result (Unit {0}) Fault
    rule_answers = result_and (result_and (good 2 0 (leb 1 type && leb type 3)) (good 1 2 (named names type (byte 2)))) (good 1 3 (named names type (byte 3)))

    rule-head-row : rule_head names start at b ≡ tests tested (read (type, byte 2, byte 3) (at + 4) (drop 4 b))
    unfolding rule_head
    rule-head-row = from_start (rule_head names) ∙ field_step 2 0 start at b (omega arith) _ _ λ h. field_step 1 2 start at b h _ _ λ h. field_step 1 3 start at b h _ _ λ _. refl

    pub rule-head-answer : outcome no_steps (rule_head names start at b) ≡ result_and rule_answers (found (at + 4) 0)
    rule-head-answer =
        let p : outcome no_steps (rule_head names start at b) ≡ tests result_and (found (at + 4) 0) = ap (outcome no_steps) rule-head-row ∙ simp outcome-tested in
        let q : result_and rule_answers (found (at + 4) 0) ≡ tests result_and (found (at + 4) 0) = simp and-twice in
        p ∙ sym q

    module _ (vars : ℕ) where
      abbrev x : Reader Expr
      x = expression vars true 14

      -- what follows a rule's fields, by its type
      abbrev rest : (h : ℕ × ℕ × ℕ) → Reader Rule
      rest h = choose h.0 ((1, x >>= λ e. pure (always e)) ∷ (2, pure (not_after h.1 h.2)) ∷ []) (pure (only_after h.1 h.2))

      rule-then : rule_body vars names start at b ≡ tests tested (rest (type, byte 2, byte 3) start (at + 4) (drop 4 b))
      unfolding rule_body
      rule-then = from_start (rule_body vars names) ∙ field_step 2 0 start at b (omega arith) _ _ λ h. field_step 1 2 start at b h _ _ λ h. field_step 1 3 start at b h _ _ λ _. refl

      pub rule-one : type ≡ 1 → checked_on no_steps x start at b (outcome no_steps (rule_head names start at b)) ≡ outcome no_steps (rule_body vars names start at b)
      unfolding choose
      rule-one h =
          let f : (h : ℕ × ℕ × ℕ) (m : ℕ) (l : List ℕ) → Reading Rule = λ h m l. after (x start m l) (λ e m l. read (always e) m l) in
          let p : (rule_head names >>= λ h. x >>= λ e. pure (always e)) start at b ≡ tests tested (f (type, byte 2, byte 3) (at + 4) (drop 4 b)) =
          ap (λ q. after q f) rule-head-row ∙ simp after-tested in
          let q : rest (type, byte 2, byte 3) start (at + 4) (drop 4 b) ≡ f (type, byte 2, byte 3) (at + 4) (drop 4 b) = rw h in
          sym (then-onward (steady-rule-head names) x no_steps no_steps (λ h e. always e) (λ h e. refl) start at b)
          ∙ ap (outcome no_steps) (p ∙ ap (tests tested) (sym q) ∙ sym rule-then)

      pub rule-other : (type ≡ 1 → ⊥) → outcome no_steps (rule_head names start at b) ≡ outcome no_steps (rule_body vars names start at b)
      unfolding choose
      rule-other h =
          let p : outcome no_steps (rule_head names start at b) ≡ tests result_and (found (at + 4) 0) = ap (outcome no_steps) rule-head-row ∙ simp outcome-tested in
          let q : outcome no_steps (rule_body vars names start at b) ≡ tests result_and (outcome no_steps (rest (type, byte 2, byte 3) start (at + 4) (drop 4 b))) =
          ap (outcome no_steps) rule-then ∙ simp outcome-tested in
          let r : outcome no_steps (rest (type, byte 2, byte 3) start (at + 4) (drop 4 b)) ≡ found (at + 4) 0 = rw (ne_eqb _ _ h) (two (eqb type 2)) in
          p ∙ sym (q ∙ ap (tests result_and) r)
        where
          two : (t : Bool) → outcome no_steps ((if t then pure (not_after (byte 2) (byte 3)) else pure (only_after (byte 2) (byte 3))) start (at + 4) (drop 4 b)) ≡ found (at + 4) 0
          two true = refl
          two false = refl

      -- where its fields are refused, it is
      pub rule-refused : {e : Fault} → Err e ≡ outcome no_steps (rule_head names start at b) → Err e ≡ outcome no_steps (rule_body vars names start at b)
      rule-refused {e} h = go (eqb type 1) refl
        where
          go : (t : Bool) → eqb type 1 ≡ t → Err e ≡ outcome no_steps (rule_body vars names start at b)
          go true q = ap (checked_on no_steps x start at b) h ∙ rule-one (eqb-true type 1 q)
          go false q = h ∙ rule-other (eqb-false type 1 q)

  -- ---- a member, by its kind

  module _ (states vars accounts : ℕ) (names : List ℕ) (kind : ℕ) where
    abbrev answer : Answer
    answer = outcome itself (member states vars accounts names kind start at b)

    pub is-transition : kind ≡ 2 → outcome transition_steps (transition_body vars states start at b) ≡ answer
    unfolding member choose
    is-transition k = rw k (sym (then-pure itself transition_steps (transition_body vars states start at b)))

    pub is_row : kind ≡ 3 → outcome no_steps (row_body accounts start at b) ≡ answer
    unfolding member choose
    is_row k = rw k (sym (then-pure itself no_steps (row_body accounts start at b)))

    pub is-rule : (kind ≡ 2 → ⊥) → (kind ≡ 3 → ⊥) → outcome no_steps (rule_body vars names start at b) ≡ answer
    unfolding member choose
    is-rule i j = simp (ne_eqb _ _ i, ne_eqb _ _ j) (sym (then-pure itself no_steps (rule_body vars names start at b)))

-- The exported starts, calls and verdict: what each leaves in a client's memory, which is its contract, and what a client sees who
-- starts an agreement and makes a list of calls.
use Rattle.std.specs.Prelude.{◌≡◌, ℕ, List, [], ◌∷◌}
use Rattle.rules.specs.declared.Call.{Call}
use Rattle.rules.specs.declared.Outcome.{Outcome}
use Rattle.rules.specs.Calling.{start, call}
use Rattle.rules.specs.Stepping.{start_expanded, call_expanded}
use Rattle.rules.specs.Judging.{verdict}
use Rattle.rules.specs.Answers.{answer_numbers, judged_numbers, state_numbers, state_from}

-- an outcome's state record, in 26 words, and its answer, in 5
pub record Handed (o : Outcome) (state answer : List ℕ) : Type 0 where
  pub state-is : state ≡ state_numbers o.state
  pub answer-is : answer ≡ answer_numbers o.answer

-- the contracts: of `agreement_start` and `agreement_call`, which is given a record before; of the expanded pair
abbrev pub StartHands : (file : List ℕ) → (state answer : List ℕ) → Type 0
StartHands file = Handed (start file)

abbrev pub CallHands : (file : List ℕ) → Call → (before state answer : List ℕ) → Type 0
CallHands file k before = Handed (call file (state_from before) k)

abbrev pub StartExpandedHands : (file words : List ℕ) → (state answer : List ℕ) → Type 0
StartExpandedHands file words = Handed (start_expanded file words)

abbrev pub CallExpandedHands : (file words : List ℕ) → Call → (before state answer : List ℕ) → Type 0
CallExpandedHands file words k before = Handed (call_expanded file words (state_from before) k)

-- the contract of `agreement_verdict`: what it leaves in the lent words and in its answer
pub record VerdictHands (file : List ℕ) (rule : ℕ) (words after answer : List ℕ) : Type 0 where
  pub words_are : after ≡ (verdict file rule words).words
  pub answer-is : answer ≡ judged_numbers (verdict file rule words).answer

-- a record and an answer as a client finds them
pub record Seen : Type 0 where
  pub state : List ℕ
  pub answer : List ℕ

abbrev pub seen_of : Outcome → Seen
seen_of o = record { state = state_numbers o.state; answer = answer_numbers o.answer }

-- what is seen of calls that meet a contract, each made on the record that was handed back before it
pub data CallsSeen (Hands : Call → (before state answer : List ℕ) → Type 0) : (before : List ℕ) → List Call → List Seen → Type 0 where
  done : {before : List ℕ} → CallsSeen Hands before [] []
  next : {before : List ℕ} {k : Call} {ks : List Call} {x : Seen} {xs : List Seen}
      → Hands k before x.state x.answer
      → CallsSeen Hands x.state ks xs
      → CallsSeen Hands before (k ∷ ks) (x ∷ xs)

-- a start, and then the calls
pub data Session (Starts : (state answer : List ℕ) → Type 0) (Hands : Call → (before state answer : List ℕ) → Type 0)
    : List Call → List Seen → Type 0 where
  begun : {ks : List Call} {x : Seen} {xs : List Seen}
      → Starts x.state x.answer
      → CallsSeen Hands x.state ks xs
      → Session Starts Hands ks (x ∷ xs)

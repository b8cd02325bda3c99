-- A step and its kind as the code has them.
use Rattle.std.specs.Prelude.{ℕ, ◌≡◌, ◌≢◌, Result, MatchResult}
use Rattle.rules.specs.Expanding as Rules
use Rattle.emitter.specs.declared.steps.Step.{Step}
use Rattle.emitter.specs.declared.steps.UnknownStepKind.{UnknownStepKind}
use Rattle.emitter.specs.declared.steps.StepKind.{StepKind}
use Rattle.emitter.specs.declared.steps.StepKind.TheVariants.{Guard, True, False, Set, Transfer, Require, Return}

-- "Kinds: 1 guard true, 2 condition true, 3 condition false, 4 set, 5 transfer, 6 require, 7 return."
abbrev pub number_of : StepKind → ℕ
number_of Guard = 1
number_of True = 2
number_of False = 3
number_of Set = 4
number_of Transfer = 5
number_of Require = 6
number_of Return = 7

-- the result is the kind with this number, or an error where no kind has it
abbrev pub Numbers : ℕ → Result StepKind UnknownStepKind → Type 0
Numbers n r = MatchResult r (λ k. number_of k ≡ n) (λ _. (k : StepKind) → number_of k ≢ n)

-- the rules' step with the same words
abbrev pub as_step : Step → Rules.Step
as_step s = Rules.step s.origin s.target s.kind s.name s.at

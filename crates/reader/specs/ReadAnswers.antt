-- What reading answers.
use Rattle.std.specs.Prelude.{ℕ, List, Result, Ok, Err, MatchResult, ◌≡◌}
use Rattle.rules.specs.declared.Refusal.{Refusal}
use Rattle.rules.specs.Accepting.{read_file}
use Rattle.reader.specs.declared.accepted.Accepted.{Accepted}

-- the file itself, with the step count that reading gives; or the refusal that it gives
abbrev pub Accepts : (file : List ℕ) → Result Accepted Refusal → Type 0
Accepts file r =
    MatchResult r (λ a. (a.parsed.file.now ≡ file) × (Ok a.steps ≡ read_file file)) (λ e. Err e ≡ read_file file)

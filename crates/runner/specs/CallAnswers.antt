-- What a call answers.
use Rattle.std.specs.Prelude.{Result, Ok, Err}
use Rattle.rules.specs.declared.Answer.{Answer}
use Rattle.rules.specs.declared.Answer.TheVariants.{Refused}
use Rattle.rules.specs.declared.Refusal.{Refusal}

-- "units charged with 23 to 27 on a start or call, else 0": the answer of a call that ran, or the refusal that its tests met
abbrev pub answered : Result Answer Refusal → Answer
answered (Ok answer) = answer
answered (Err refusal) = Refused refusal 0

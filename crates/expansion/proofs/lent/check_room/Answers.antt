-- `check_room` meets its contract.
use native.Mathlib.Omega.{arith}
use Rattle.access.proofs.Kept.{accepted-of, steps-are, few_of}
use Rattle.expansion.proofs.ExpandAnswers.{few-words, enough-words}
use Rattle.expansion.proofs.lent.check_room.Goals as goal

pub overflow_mul-accepted : goal.overflow_mul-accepted
overflow_mul-accepted c = omega (arith, few_of c.args.accepted.now.accepted)

pub returns-then-words-accepted-clause-is : goal.returns-then-words-accepted-clause-is
returns-then-words-accepted-clause-is c =
    λ a. rw c.placeless.ensures (few-words a.tree _ (omega (arith, c.if-words-accepted.true, steps-are (accepted-of c.args.accepted.now.accepted) a)))

pub returns-else-words-accepted-clause-is : goal.returns-else-words-accepted-clause-is
returns-else-words-accepted-clause-is c =
    λ a. enough-words a.tree _ (omega (arith, c.if-words-accepted.false, steps-are (accepted-of c.args.accepted.now.accepted) a))

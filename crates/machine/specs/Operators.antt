-- "Operators 0 to 10: + − × / remainder = ≠ < ≤ and or."
use Rattle.std.specs.Prelude.{◌≡◌, ℕ, ◌<◌, Result, MatchResult}
use Rattle.machine.specs.declared.values.Operator.{Operator}
use Rattle.machine.specs.declared.values.Operator.TheVariants.{Add, Subtract, Multiply, Divide, Remainder, Equal, NotEqual, Less, AtMost, And, Or}
use Rattle.machine.specs.declared.values.UnknownOperator.{UnknownOperator}

-- the number that stands for an operator
abbrev pub number_of : Operator → ℕ
number_of Add = 0
number_of Subtract = 1
number_of Multiply = 2
number_of Divide = 3
number_of Remainder = 4
number_of Equal = 5
number_of NotEqual = 6
number_of Less = 7
number_of AtMost = 8
number_of And = 9
number_of Or = 10

-- the result is the operator with this number, or an error with a number that no operator has
abbrev pub Decodes : ℕ → Result Operator UnknownOperator → Type 0
Decodes n r = MatchResult r (λ o. number_of o ≡ n) (λ e. (e.0 ≡ n) × (10 < n))

-- The kinds of records and their numbers.
use Rattle.std.specs.Prelude.{ℕ, ◌≡◌, Result, MatchResult}
use Rattle.records.specs.declared.kind.Kind.{Kind}
use Rattle.records.specs.declared.kind.Kind.TheVariants.{Agreement, Transition, Row, Rule, Set, Transfer, Require, Return, Block, If, IfElse, While, For}
use Rattle.records.specs.declared.kind.Kind.TheVariants.{Constant, Variable, Local, Argument, Context, Binary, Not}
use Rattle.records.specs.declared.kind.UnknownKind.{UnknownKind}

abbrev pub number_of : Kind → ℕ
number_of Agreement = 1
number_of Transition = 2
number_of Row = 3
number_of Rule = 4
number_of Set = 16
number_of Transfer = 17
number_of Require = 18
number_of Return = 19
number_of Block = 32
number_of If = 33
number_of IfElse = 34
number_of While = 35
number_of For = 36
number_of Constant = 64
number_of Variable = 65
number_of Local = 66
number_of Argument = 67
number_of Context = 68
number_of Binary = 80
number_of Not = 81

-- the kind of this number, or an error where no kind has it
abbrev pub Decodes : ℕ → Result Kind UnknownKind → Type 0
Decodes number r = MatchResult r (λ kind. number_of kind ≡ number) (λ e. (kind : Kind) → number_of kind ≡ number → ⊥)

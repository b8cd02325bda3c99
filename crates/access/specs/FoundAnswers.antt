-- What the functions answer, from the tree.
use Rattle.std.specs.Prelude.{ℕ, ◌+◌, ◌≡◌, Bool, true, false, ◌&&◌, eqb, Some, None, Result, Ok, Err}
use Rattle.std.specs.Prelude
use Rattle.std.proofs.Math.Option.{Option, none, some}
use Rattle.rules.specs.declared.Refusal.{Refusal}
use Rattle.rules.specs.Syntax.{Transition, Rule, always, not_after, only_after}
use Rattle.rules.specs.Accepting.{refusal}
use Rattle.access.specs.declared.Elsewhere.{Elsewhere}
use Rattle.access.specs.declared.RuleAt.{RuleAt}
use Rattle.access.specs.declared.RuleAt.TheVariants.{Always, NotAfter, OnlyAfter}

-- what is found of a name: an offset, or none where no transition bears the name
abbrev pub Found : Type 0
Found = Result (Prelude.Option ℕ) Elsewhere

-- a transition bears the name, but none that does leaves the state
abbrev pub elsewhere : Found
elsewhere = Err record {}

-- whether a transition bears the name, and the transition of that name from the state
abbrev pub found_of : (known : Bool) → Option Transition → Found
found_of known (some t) = Ok (Some t.at)
found_of true none = elsewhere
found_of false none = Ok None

-- a transition of this name and origin
abbrev pub same : (name from : ℕ) → Transition → Bool
same name from t = eqb t.name name && eqb t.from from

-- the code's option
abbrev pub repeat_of : Option ℕ → Prelude.Option ℕ
repeat_of none = None
repeat_of (some at) = Some at

-- a rule whose record begins at an offset: an expression stands 8 bytes after it
abbrev pub rule_from : (at : ℕ) → Rule → RuleAt
rule_from at (always e) = Always (at + 8)
rule_from at (not_after p q) = NotAfter p q
rule_from at (only_after p q) = OnlyAfter p q

-- "22: name known, but not from here."
abbrev pub Refuses : Elsewhere → Refusal → Type 0
Refuses e r = r ≡ refusal 22

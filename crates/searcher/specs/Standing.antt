-- A rule as the code holds it, and how it stands after some calls.
use Rattle.std.specs.Prelude.{ℕ, ◌≤◌, ◌≡◌, Bool, ◌&&◌, ◌||◌, List, map, eqb, length, drop}
use Rattle.std.proofs.Math.Bool
use Rattle.rules.specs.declared.State.{State}
use Rattle.rules.specs.Basics.{any}
use Rattle.rules.specs.Syntax.{Expr, Rule, always, not_after, only_after}
use Rattle.rules.specs.Judging.{Event, violated, later, unpreceded}
use Rattle.records.specs.Acceptance.{Accepted}
use Rattle.access.specs.declared.RuleAt.{RuleAt}
use Rattle.access.specs.declared.RuleAt.TheVariants.{Always, NotAfter, OnlyAfter}
use Rattle.searcher.specs.declared.Status.{Status}

-- an expression's record begins at an offset: s are the bytes from there on
pub record ExpressionAt (file : List ℕ) (at : ℕ) (e : Expr) : Type 0 where
  pub within : at ≤ length file
  pub accepted : (s : List ℕ) → s ≡ drop at file → (g : Accepted s) × (g.tree ≡ e)

-- the rule that the code holds
abbrev pub HeldAs : (file : List ℕ) → Rule → RuleAt → Type 0
HeldAs file (always e) r = (at : ℕ) × (r ≡ Always at) × ExpressionAt file at e
HeldAs file (not_after p q) r = r ≡ NotAfter p q
HeldAs file (only_after p q) r = r ≡ OnlyAfter p q

-- the record with other balances, which no rule reads
abbrev pub with_balances : State → (balances : List ℕ) → State
with_balances s bs = record { state = s.state; variables = s.variables; balances = bs; own = s.own }

abbrev pub names : List Event → List ℕ
names es = map (λ (v : Event). v.name) es

-- whether a rule is broken by the end of the events that follow, from how it stands before them
unfoldable pub breaks_after : Rule → Status → List Event → Bool
breaks_after (always e) s es = s.broken || any (λ (v : Event). violated e v.state) es
breaks_after (not_after p q) s es = s.broken || (s.seen && any (eqb p) (names es) || later p q (names es))
breaks_after (only_after p q) s es = s.broken || (Bool.not s.seen && unpreceded p q (names es))

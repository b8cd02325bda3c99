-- What refusals and the unexpanded start or call have, the expanded one has (start-expanded, call-expanded): the lent words begin
-- with the expansion, and it is the unexpanded one, or they do not, and it is refused.
use mathlib.Core.Path.{sym, subst}
use Prim.Native.Nat.{ℕ}
use mathlib.Core.Bool.{◌&&◌}
use mathlib.Core.List.{List}
use borrow.Author.Tests.{not-false}
use Rattle.rules.specs.declared.Call.{Call}
use Rattle.rules.specs.declared.Outcome.{Outcome}
use Rattle.rules.specs.declared.Refusal.{Refusal}
use Rattle.rules.specs.declared.State.{State}
use Rattle.rules.specs.Basics.{first_of, given, is_none}
use Rattle.rules.specs.Accepting.{refusal, file_of, on_file}
use Rattle.rules.specs.Calling.{refused_start, refused_call, call_tests, call_by, start, call}
use Rattle.rules.specs.Stepping.{call_steps, entry_of, entry_known, lent_steps, lent_tests, start_expanded, call_expanded}
use Rattle.forms.proofs.Agreement.{start-lent, call-lent}
use Rattle.laws.proofs.Tests.{none-passed}
use Rattle.totals.proofs.Refusing.{given-case, file-case}

module _ (P : Outcome → Type 0) (file words : List ℕ) where
  pub start-expanded : ((r : Refusal) → P (refused_start r 0)) → P (start file) → P (start_expanded file words)
  unfolding start_expanded lent_tests on_file given
  start-expanded refused unexpanded =
      file-case P (file_of file) refused λ a e. given-case P _ (λ n. refused (refusal n)) λ _ n.
      let begins = not-false _ (none-passed (lent_tests a words) n).1.0 in
      rw (e, n) at (subst P (sym (start-lent file a e words begins)) unexpanded)

  pub call-expanded : (s : State) (k : Call) → ((r : Refusal) → P (refused_call r 0 s)) → P (call file s k) → P (call_expanded file words s k)
  unfolding call_expanded call_steps call_by lent_tests call_tests on_file given
  call-expanded s k refused unexpanded =
      file-case P (file_of file) refused λ a e.
      let steps = lent_steps a words in
      let tests = call_tests a.fields s k (lent_tests a words) (entry_known steps k.name && is_none (entry_of steps k.name s.state)) in
      given-case P (first_of tests) (λ n. refused (refusal n)) λ _ n.
      let begins = not-false _ (none-passed tests n).1.1.0 in
      rw (e, n) at (subst P (sym (call-lent file a e words begins s k)) unexpanded)

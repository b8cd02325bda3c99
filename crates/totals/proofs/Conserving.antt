-- "The sum of all balances and the own balance never changes": through any list of calls from a completed start (total_kept), and
-- in one call from any record, on either form (calls-keep-total).
use mathlib.Core.Path.{◌≡◌, refl}
use Prim.Native.Nat.{ℕ}
use native.Mathlib.Omega.{arith}
use mathlib.Core.List.{List}
use lib.ListN.{length}
use Rattle.rules.specs.declared.Call.{Call}
use Rattle.rules.specs.declared.Outcome.{Outcome}
use Rattle.rules.specs.declared.State.{State}
use Rattle.rules.specs.Accepting.{file_of}
use Rattle.rules.specs.Calling.{refused_call, total, call}
use Rattle.rules.specs.Demands.{CallsKeepTotal, TotalKept}
use Rattle.totals.proofs.Trees.{tree-good}
use Rattle.totals.proofs.Refusing.{file-case}
use Rattle.totals.proofs.Fitting.{call-tree-kept, run-all}
use Rattle.totals.proofs.Expanded.{call-expanded}

pub total_kept : TotalKept
total_kept file a calls e c = run-all file a e (λ s h. h.total-same) calls c

-- of every file, call and record with eight balances
pub call-conserves : (file : List ℕ) (s : State) (k : Call) → length s.balances ≡ 8 → total (call file s k).state ≡ total s
unfolding call total refused_call
call-conserves file s k b =
    file-case (λ (o : Outcome). total o.state ≡ total s) (file_of file) (λ r. refl) λ a e.
    let g = (tree-good file a e).tree in
    let q = g.fields.few-accounts in
    (call-tree-kept a g s k (omega arith)).holdings.total

pub calls-keep-total : CallsKeepTotal
unfolding refused_call
calls-keep-total file words s k b =
    let conserved = call-conserves file s k b in
    (conserved, call-expanded (λ (o : Outcome). total o.state ≡ total s) file words s k (λ _. refl) conserved)

-- What no action changes: the total, the entries that the agreement does not use, and the numbers of entries (like). A variable is
-- set only below V, and coins move only between the own balance and an account below A.
use mathlib.Core.Path.{◌≡◌, refl, ◌∙◌}
use Prim.Native.Nat.{ℕ, ◌+◌, ◌≤◌, ◌<◌}
use native.Mathlib.Omega.{arith}
use mathlib.Core.Logic.{inl, inr}
use mathlib.Core.List.{List}
use lib.ListN.{length, get_or, drop, length-set}
use lib.ListN
use lib.Seq.{drop-set-lt}
use Rattle.rules.specs.declared.Machine.{Machine}
use Rattle.rules.specs.declared.Setting.{Setting}
use Rattle.rules.specs.declared.State.{State}
use Rattle.rules.specs.Basics.{sum}
use Rattle.rules.specs.Running.{with_variables}
use Rattle.laws.proofs.Basics.{move-total}
use Rattle.runs.proofs.Ends.{Stepwise}
use Rattle.grammar.proofs.Statements.{Target}

-- the variables, balances and own balance of a state record and of a machine
abbrev pub Holdings : Type 0
Holdings = List ℕ × List ℕ × ℕ

abbrev pub in_state : State → Holdings
in_state s = (s.variables, s.balances, s.own)

abbrev pub in_machine : Machine → Holdings
in_machine m = (m.variables, m.balances, m.own)

-- g has what h had: the numbers of entries, the unused entries, the total
pub record Same (vars accounts : ℕ) (h g : Holdings) : Type 0 where
  pub variables : length g.0 ≡ length h.0
  pub balances : length g.1 ≡ length h.1
  pub unused-variables : drop vars g.0 ≡ drop vars h.0
  pub unused-balances : drop accounts g.1 ≡ drop accounts h.1
  pub total : sum g.1 + g.2 ≡ sum h.1 + h.2

pub same : (vars accounts : ℕ) (h : Holdings) → Same vars accounts h h
same vars accounts h = record { variables = refl; balances = refl; unused-variables = refl; unused-balances = refl; total = refl }

module _ (vars accounts : ℕ) (h : Holdings) (vs bs : List ℕ) (own : ℕ) (s : Same vars accounts h (vs, bs, own)) where
  -- a variable is set
  set_same : (t x : ℕ) → t < vars → Same vars accounts h (ListN.set vs t x, bs, own)
  set_same t x q =
      record {
        variables = length-set vs t x ∙ s.variables;
        balances = s.balances;
        unused-variables = drop-set-lt vars vs t x q ∙ s.unused-variables;
        unused-balances = s.unused-balances;
        total = s.total;
      }

  -- an account's balance becomes x and the own balance y, which together have as much as before
  pub move_same : (k x y : ℕ) → k < accounts → accounts ≤ length h.1 → x + y ≡ get_or bs k 0 + own
      → Same vars accounts h (vs, ListN.set bs k x, y)
  move_same k x y q room e =
      let l = s.balances in
      record {
        variables = s.variables;
        balances = length-set bs k x ∙ s.balances;
        unused-variables = s.unused-variables;
        unused-balances = drop-set-lt accounts bs k x q ∙ s.unused-balances;
        total = move-total bs own k x y (omega arith) e ∙ s.total;
      }

module _ (c : Setting) (vars : ℕ) (h : Holdings) where
  -- from m to w, which has what h had if m has it
  abbrev pub Like : (k : ℕ) (m w : Machine) → Type 0
  Like k m w = Same vars c.accounts h (in_machine m) → Same vars c.accounts h (in_machine w)

  assigned : (m : Machine) (t x : ℕ) → Target vars t → t < 256 → Like 0 m (with_variables (ListN.set m.variables t x) m)
  assigned m t x (inl q) l s = set_same vars c.accounts h m.variables m.balances m.own s t x q
  assigned m t x (inr q) l s = absurd (omega arith)

  -- it has the accounts
  pub like : c.accounts ≤ length h.1 → Stepwise c (Target vars) Like
  like room = record {
    stays = λ m s. s;
    joins = λ k m v w f g s. g (f s);
    fewer = λ k m w f. f;
    unit = λ m l s. s;
    variable = assigned;
    local = λ m t x s. s;
    payment = λ m k x l e s. move_same vars c.accounts h m.variables m.balances m.own s k _ _ l room (omega arith);
    answer = λ m x s. s;
  }

-- A state record and its 26 numbers: neither way loses anything (records-round-trip).
use mathlib.Core.Path.{◌≡◌, sym, ◌∙◌, ap}
use Prim.Native.Nat.{ℕ}
use native.Mathlib.Omega.{arith}
use mathlib.Core.List.{List, [], ◌∷◌, ◌++◌, append_assoc}
use lib.ListN.{length, take, drop, get_or, length-append}
use lib.Seq.{take_all, take-suc, take-add, take_at, drop_at, get_or_at}
use Rattle.rules.specs.declared.State.{State}
use Rattle.rules.specs.Answers.{state_numbers, state_from}
use Rattle.rules.specs.Demands.{Shaped, RecordsRoundTrip}

-- the state and the variables, then the balances, then the own balance are all of 26 numbers
numbers-from : (ns : List ℕ) → length ns ≡ 26 → state_numbers (state_from ns) ≡ ns
unfolding state_numbers state_from
numbers-from ns h =
    ap (λ (l : List ℕ). l ++ take 16 (drop 1 ns) ++ take 8 (drop 17 ns) ++ (get_or ns 25 0 ∷ [])) (sym (take-suc ns 0 0 (omega arith)))
    ∙ ap (λ (l : List ℕ). l ++ take 8 (drop 17 ns) ++ (get_or ns 25 0 ∷ [])) (sym (take-add 1 16 ns))
    ∙ ap (λ (l : List ℕ). l ++ (get_or ns 25 0 ∷ [])) (sym (take-add 17 8 ns))
    ∙ sym (take-suc ns 25 0 (omega arith))
    ∙ take_all 26 ns (omega arith)

-- the three parts, as they are found in the numbers after the state
module _ (vs bs : List ℕ) (w : ℕ) (sixteen : length vs ≡ 16) (eight : length bs ≡ 8) where
  abbrev rest : List ℕ
  rest = vs ++ bs ++ (w ∷ [])

  split : rest ≡ vs ++ (bs ++ (w ∷ []))
  split = append_assoc vs bs (w ∷ [])

  variables : take 16 rest ≡ vs
  variables = ap (take 16) split ∙ take_at vs (bs ++ (w ∷ [])) 16 sixteen

  balances : take 8 (drop 16 rest) ≡ bs
  balances = ap (λ (l : List ℕ). take 8 (drop 16 l)) split ∙ ap (take 8) (drop_at vs (bs ++ (w ∷ [])) 16 sixteen) ∙ take_at bs (w ∷ []) 8 eight

  own : get_or rest 24 0 ≡ w
  own = get_or_at (vs ++ bs) w [] 0 24 (length-append vs bs ∙ omega arith)

from-numbers : (s : State) → Shaped s → state_from (state_numbers s) ≡ s
unfolding state_numbers state_from
from-numbers s h =
    let vs : List ℕ = s.variables in
    let bs : List ℕ = s.balances in
    λ i. record {
      state = s.state;
      variables = variables vs bs s.own h.0 h.1 i;
      balances = balances vs bs s.own h.0 h.1 i;
      own = own vs bs s.own h.0 h.1 i;
    }

pub records-round-trip : RecordsRoundTrip
records-round-trip = (numbers-from, from-numbers)

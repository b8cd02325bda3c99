-- State records as numbers, entry by entry.
use Prim.Native.Nat.{ℕ, zero, suc, ◌+◌, ◌≤◌}
use mathlib.Core.Path.{◌≡◌, refl, sym, ap, ◌∙◌}
use mathlib.Core.List.{List, [], ◌∷◌, ◌++◌, append_assoc}
use native.Mathlib.Omega.{arith}
use native.Mathlib.Numerals.{add-one}
use lib.ListN.{length, get_or, take, drop}
use lib.Seq.{drop-cons, take_all}
use Rattle.rules.specs.declared.State.{State}
use Rattle.rules.specs.Answers.{state_numbers, state_from}

-- k entries from the i-th on
abbrev pub entries : (k i : ℕ) → List ℕ → List ℕ
entries zero i ns = []
entries (suc k) i ns = get_or ns i 0 ∷ entries k (i + 1) ns

entries-part : (k i : ℕ) (ns : List ℕ) → i + k ≤ length ns → entries k i ns ≡ take k (drop i ns)
entries-part zero i ns h = refl
entries-part (suc k) i ns h =
    let e = drop-cons ns i 0 (omega arith) in
    ap (λ (l : List ℕ). get_or ns i 0 ∷ l) (entries-part k (i + 1) ns (omega arith) ∙ ap (λ (j : ℕ). take k (drop j ns)) (add-one i)) ∙ sym (ap (take (suc k)) e)

pub entries-all : (k : ℕ) (ns : List ℕ) → length ns ≡ k → entries k 0 ns ≡ ns
entries-all k ns h = entries-part k 0 ns (omega arith) ∙ take_all k ns (omega arith)

pub state-from-is :
    (ns : List ℕ) → length ns ≡ 26 →
    ◌≡◌ {A = State} (record { state = get_or ns 0 0; variables = entries 16 1 ns; balances = entries 8 17 ns; own = get_or ns 25 0 }) (state_from ns)
unfolding state_from
state-from-is ns h = rw (entries-part 16 1 ns (omega arith), entries-part 8 17 ns (omega arith))

pub state-words-is :
    (s : State) → length s.variables ≡ 16 → length s.balances ≡ 8 →
    s.state ∷ (entries 16 0 s.variables ++ (entries 8 0 s.balances ++ (s.own ∷ []))) ≡ state_numbers s
unfolding state_numbers
state-words-is s v b =
    ap (λ (l : List ℕ). s.state ∷ (l ++ (entries 8 0 s.balances ++ (s.own ∷ [])))) (entries-all 16 s.variables v)
    ∙ ap (λ (l : List ℕ). s.state ∷ (s.variables ++ (l ++ (s.own ∷ [])))) (entries-all 8 s.balances b)
    ∙ ap (λ (l : List ℕ). s.state ∷ l) (sym (append_assoc s.variables s.balances (s.own ∷ [])))

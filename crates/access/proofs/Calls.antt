-- An array that was made by calls of a closure that changes nothing, of any type.
use Prim.Native.Nat.{ℕ, zero, suc, ◌+◌, ◌<◌}
use mathlib.Core.Path.{◌≡◌, refl, sym, subst}
use mathlib.Core.List.{List}
use native.Mathlib.Omega.{arith}
use lib.ListN.{get_or}
use denote.Param.Members.{Mut, Called}
use Rattle.std.specs.Array.{IsFromFnResult, IsFromFnResultFrom}

module _ {F A : Type 0} (d : A) (g : Mut F (ℕ × Unit {0}) A) (f : F) (R : ℕ → A → Type 0)
    (h : (i : ℕ) (y : A) (q : F) → Called g f (i, tt) y q → R i y × (q ≡ f))
  where
    made_from : (n i : ℕ) (ys : List A) (p : F) → p ≡ f → IsFromFnResultFrom g p ys i n
        → (k : ℕ) → k < n → R (i + k) (get_or ys (i + k) d)
    made_from zero i ys p e t k l = absurd (omega arith)
    made_from (suc n) i ys p e t zero l =
        let one = h i t.1 t.0 (subst (λ (x : F). Called g x (i, tt) t.1 t.0) e t.3) in
        let z : i ≡ i + 0 = omega arith in
        subst (λ (j : ℕ). R j (get_or ys j d)) z (subst (R i) (sym (t.2.1 d)) one.0)
    made_from (suc n) i ys p e t (suc k) l =
        let one = h i t.1 t.0 (subst (λ (x : F). Called g x (i, tt) t.1 t.0) e t.3) in
        let z : i + 1 + k ≡ i + suc k = omega arith in
        subst (λ (j : ℕ). R j (get_or ys j d)) z (made_from n (i + 1) ys t.0 one.1 t.4 k (omega arith))

    pub made-by : {ys : List A} {n : ℕ} → IsFromFnResult g f ys n → (i : ℕ) → i < n → R i (get_or ys i d)
    made-by {ys} {n} r i l =
        let z : 0 + i ≡ i = omega arith in
        subst (λ (j : ℕ). R j (get_or ys j d)) z (made_from n 0 ys f refl r.each i l)

-- The members of an agreement's groups: their parts, and how many steps they add.
use Rattle.std.specs.Prelude.{◌≡◌, ℕ, zero, suc, ◌+◌, Bool, ◌&&◌, List, [], ◌∷◌, eqb, ltb, leb, drop, if◌then◌else◌}
use Rattle.rules.specs.Basics.{choose, has}
use Rattle.rules.specs.Syntax.{Transition}
use Rattle.rules.specs.Reading.{Reader, ◌>>=◌, ◌>>◌, pure, refuse, in_range, field, zero_byte, size_of, kind_of, whole, child, named, transition_body, rule_body, row_body}
use Rattle.records.specs.Counting.{step_count}
use Rattle.records.specs.declared.part.Part.{Part}
use Rattle.records.specs.Checking.{Answer, outcome, of_part}
use Rattle.files.specs.FieldAnswers.{value_at}

-- a transition's fields: its name, from and to
unfoldable pub transition_head : (states : ℕ) → Reader (ℕ × ℕ × ℕ)
transition_head states = do
  n ← field 1
  f ← field 1
  in_range (ltb f states)
  t ← field 1
  in_range (ltb t states)
  zero_byte
  pure (n, f, t)

-- a rule's fields: its type, p and q
unfoldable pub rule_head : (names : List ℕ) → Reader (ℕ × ℕ × ℕ)
rule_head names = do
  t ← field 2
  in_range (leb 1 t && leb t 3)
  p ← field 1
  in_range (named names t p)
  q ← field 1
  in_range (named names t q)
  pure (t, p, q)

-- its guard is one step
abbrev pub transition_steps : Transition → ℕ
transition_steps t = 1 + step_count t.action

-- a member of the group of this kind, read for its number of steps
unfoldable pub member : (states vars accounts : ℕ) (names : List ℕ) (kind : ℕ) → Reader ℕ
member states vars accounts names kind =
    choose kind
    ((2, do t ← transition_body vars states; pure (transition_steps t))
    ∷ (3, do c ← row_body accounts; pure 0)
    ∷ [])
    (do r ← rule_body vars names; pure 0)

-- the number itself
abbrev pub itself : ℕ → ℕ
itself k = k

-- whether a child of this kind comes
unfoldable pub is_next : (kind : ℕ) → List ℕ → Bool
is_next kind bytes = has 4 bytes && eqb (kind_of bytes) kind

-- one more member, where a group may have so many more
unfoldable pub another : {A : Type 0} → (left : ℕ) → Reader A → Reader A
another zero body = child (λ _. refuse 4)
another (suc left) body = child (λ _. body)

-- the names of the transitions that bytes begin with, n of them at most
unfoldable pub names_in : (n : ℕ) → List ℕ → List ℕ
names_in zero bytes = []
names_in (suc n) bytes =
    if whole bytes && eqb (kind_of bytes) 2 then value_at 1 4 bytes ∷ names_in n (drop (size_of bytes) bytes) else []

-- what is answered of bodies is what this reader makes of them
abbrev pub Reads : (Part → Answer → Type 0) → Reader ℕ → Type 0
Reads answered r = (b : Part) (a : Answer) → answered b a → a ≡ outcome itself (of_part r b)

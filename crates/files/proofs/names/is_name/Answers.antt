-- `is_name` meets its contract. The loop's invariant: the name is one of all exactly if it is one of those that are left.
use Prim.Native.Nat.{ℕ, ◌+◌, ◌-◌, ◌<◌}
use mathlib.Core.Path.{◌≡◌, sym, ap, ◌∙◌}
use mathlib.Core.List.{List, ◌∷◌}
use native.Mathlib.Omega.{arith}
use lib.Dec.{eqb}
use borrow.Author.Tests.{eq-eqb, ne_eqb}
use Rattle.rules.specs.Basics.{any}
use Rattle.rules.specs.Reading.{kind_of}
use Rattle.records.specs.Checking.{from}
use Rattle.grammar.proofs.Bytes.{Whole, part-all}
use Rattle.records.proofs.Parts.{long, short}
use Rattle.files.specs.FieldAnswers.{value_at}
use Rattle.files.specs.Members.{names_in}
use Rattle.files.proofs.NameLaws.{names-none, names-short, names-other, names-next}
use Rattle.files.proofs.names.is_name.Goals as goal

pub returns-in_default : goal.returns-in_default
unfolding any
returns-in_default c =
    let l = c.loop in
    sym (l.invariant.1 ∙ ap (any (eqb c.args.name)) (names-short l.rest.now (64 - l.counter) (short _ (sym c.in_default.ensures.is))))

pub returns-then-u16_at-number : goal.returns-then-u16_at-number
unfolding any kind_of
returns-then-u16_at-number c =
    let l = c.loop in
    let other = names-other l.rest.now (64 - l.counter) (long _ (sym c.in-Some.ensures.is)).is in
    sym (l.invariant.1 ∙ ap (any (eqb c.args.name)) (other λ e. c.if-u16_at-number.true (c.u16_at.ensures.0 ∙ e ∙ sym c.number.ensures)))

-- the transition that stands here
here :
    (t : List ℕ) (left n name : ℕ) → 0 < left → Whole t n → kind_of t ≡ 2 → name ≡ value_at 1 4 t →
    names_in left t ≡ name ∷ names_in (left - 1) (from n t)
here t left n name p w k e = names-next t left (left - 1) (omega arith) w.is k ∙ rw (w.size, ← e, part-all n t)

pub returns-then-name-byte : goal.returns-then-name-byte
unfolding any kind_of
returns-then-name-byte c =
    let l = c.loop in
    let k = sym c.u16_at.ensures.0 ∙ c.if-u16_at-number.false ∙ c.number.ensures in
    let h = here l.rest.now (64 - l.counter) c.in-Some.n c.byte.result (omega arith) (long _ (sym c.in-Some.ensures.is)) k c.byte.ensures.0 in
    sym (l.invariant.1 ∙ ap (any (eqb c.args.name)) h ∙ rw (eq-eqb _ _ c.if-name-byte.true))

pub loop-preserved : goal.loop-preserved
unfolding any kind_of
loop-preserved c =
    let l = c.loop in
    let k = sym c.u16_at.ensures.0 ∙ c.if-u16_at-number.false ∙ c.number.ensures in
    let h = here l.rest.now (64 - l.counter) c.in-Some.n c.byte.result (omega arith) (long _ (sym c.in-Some.ensures.is)) k c.byte.ensures.0 in
    let z : 64 - l.counter - 1 ≡ 64 - (l.counter + 1) = omega arith in
    let again = ap (λ (k : ℕ). any (eqb c.args.name) (names_in k (from c.in-Some.n l.rest.now))) z in
    (omega arith, l.invariant.1 ∙ ap (any (eqb c.args.name)) h ∙ rw (ne_eqb _ _ c.if-name-byte.false) again)

pub returns : goal.returns
unfolding any
returns c = sym (c.loop.invariant.1 ∙ ap (any (eqb c.args.name)) (names-none (64 - c.loop.counter) c.loop.rest.now (omega arith)))

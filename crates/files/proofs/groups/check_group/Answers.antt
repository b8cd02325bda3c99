-- `check_group` meets its contract. The loop's invariant: what is left of the group, with the steps so far, gives the answer.
use mathlib.Core.Bool.{true, false}
use mathlib.Core.Path.{◌≡◌, sym, ap, ◌∙◌}
use native.Mathlib.Omega.{arith}
use Rattle.std.specs.Prelude.{ℕ, ◌+◌, List, Ok, Err}
use Rattle.rules.specs.Reading.{Reader, whole}
use Rattle.records.specs.Kinds.{number_of}
use Rattle.records.specs.declared.answers.Checked.{Checked}
use Rattle.records.specs.declared.fault.Fault.{Fault}
use Rattle.records.specs.declared.part.Part.{Part}
use Rattle.records.specs.declared.part.Record.{Record}
use Rattle.records.specs.Checking.{Answer, Opens, fault_at, outcome, of_part, ended}
use Rattle.files.specs.Members.{member, itself, another, is_next}
use Rattle.files.proofs.Steadies.{steady-member}
use Rattle.files.proofs.GroupLaws.{Next, next-read, another-nested, rest-ends, rest-refuses, rest_goes}
use Rattle.grammar.proofs.Keeping.{keeps-any}
use Rattle.records.proofs.Readers.{handed, nested-short, nested-deep, nested-ended}
use Rattle.files.proofs.groups.check_group.Goals as goal

module _ (s v a : ℕ) (names : List ℕ) (kind left : ℕ) (p : Part) where
  abbrev body : Reader ℕ
  body = member s v a names kind

  -- the answer on one more member
  abbrev answer : Answer
  answer = outcome itself (of_part (another left body) p)

  -- one that is not whole, and one too many
  short : {f : Fault} → (whole p.bytes.now ≡ false) × (f ≡ fault_at 2 p.at) → Err f ≡ answer
  short h = rw h.1 (sym (nested-short itself (another-nested body) p left h.0))

  many : {f : Fault} → left ≡ 0 → whole p.bytes.now ≡ true → f ≡ fault_at 4 p.at → Err f ≡ answer
  many n w h = rw h (sym (nested-deep itself (another-nested body) p left n w))

  -- what is answered of a member, from the answer on its body
  answered : (left ≡ 0 → ⊥) → {r : Record} → Opens p r → {x : Answer} → x ≡ outcome itself (of_part body r.body) → ended r.end x ≡ answer
  answered n {r} o e =
      ap (ended r.end) e
      ∙ sym (nested-ended itself (another-nested body) p left n (λ _ file _ to. keeps-any ((steady-member s v a names kind).keeps file p.at (p.at + 4) to)) r o)

  -- the member that was read
  one : {c : Checked} → Ok c ≡ answer → Next body left p.start p.at p.bytes.now c
  one h = next-read (steady-member s v a names kind) left p.start p.at p.bytes.now h

pub returns-in_err-record : goal.returns-in_err-record
unfolding is_next
returns-in_err-record g c s v a names h =
    let l = c.loop-kind in
    let e = short s v a names (number_of c.args.kind) l.left l.rest c.in_err-record.ensures in
    rw (handed _ _ c.from_residual.ensures) (rest-refuses _ _ _ _ _ _ _ _ (l.invariant.2 s v a names h) (sym c.comes.ensures ∙ c.loop-kind-test.true) e)

pub returns-then-left-eq0 : goal.returns-then-left-eq0
unfolding is_next
returns-then-left-eq0 g c s v a names h =
    let l = c.loop-kind in
    let e = many s v a names (number_of c.args.kind) l.left l.rest c.if-left-eq0.true c.in_ok-record.ensures.is c.refused.ensures in
    rest-refuses _ _ _ _ _ _ _ _ (l.invariant.2 s v a names h) (sym c.comes.ensures ∙ c.loop-kind-test.true) e

pub returns-in_err-body : goal.returns-in_err-body
unfolding is_next
returns-in_err-body g c s v a names h =
    let l = c.loop-kind in
    let k = number_of c.args.kind in
    let e = answered s v a names k l.left l.rest c.if-left-eq0.false c.in_ok-record.ensures (h _ _ c.in_err-body.ensures) in
    rw (handed _ _ c.from_residual-in_err-body.ensures)
    (rest-refuses _ _ _ _ _ _ _ _ (c.loop-kind.invariant.2 s v a names h) (sym c.comes.ensures ∙ c.loop-kind-test.true) e)

pub returns-in_err-read : goal.returns-in_err-read
unfolding is_next
returns-in_err-read g c s v a names h =
    let l = c.loop-kind in
    let k = number_of c.args.kind in
    let e = c.in_err-read.ensures ∙ answered s v a names k l.left l.rest c.if-left-eq0.false c.in_ok-record.ensures (h _ _ c.in_ok-body.ensures) in
    rw (handed _ _ c.from_residual-in_err-read.ensures)
    (rest-refuses _ _ _ _ _ _ _ _ (c.loop-kind.invariant.2 s v a names h) (sym c.comes.ensures ∙ c.loop-kind-test.true) e)

pub after-rest-requires : goal.after-rest-requires
after-rest-requires g c =
    let q = c.requires.reads in
    let l = c.loop-kind in
    let k = number_of c.args.kind in
    let e = c.in_ok-read.ensures ∙ answered q.0 q.1 q.2 q.3 k l.left l.rest c.if-left-eq0.false c.in_ok-record.ensures (q.4 _ _ c.in_ok-body.ensures) in
    let x = one q.0 q.1 q.2 q.3 k l.left l.rest e in
    (omega (arith, x.low), x.high)

pub overflow_add-steps : goal.overflow_add-steps
overflow_add-steps g c =
    let q = c.requires.reads in
    let l = c.loop-kind in
    let k = number_of c.args.kind in
    let e = c.in_ok-read.ensures ∙ answered q.0 q.1 q.2 q.3 k l.left l.rest c.if-left-eq0.false c.in_ok-record.ensures (q.4 _ _ c.in_ok-body.ensures) in
    let x = one q.0 q.1 q.2 q.3 k l.left l.rest e in
    omega (arith, x.pays, x.high, c.args.p.fits, l.invariant.0, l.invariant.1)

pub loop-kind-preserved : goal.loop-kind-preserved
unfolding is_next
loop-kind-preserved g c =
    let q = c.requires.reads in
    let l = c.loop-kind in
    let k = number_of c.args.kind in
    let e = c.in_ok-read.ensures ∙ answered q.0 q.1 q.2 q.3 k l.left l.rest c.if-left-eq0.false c.in_ok-record.ensures (q.4 _ _ c.in_ok-body.ensures) in
    let x = one q.0 q.1 q.2 q.3 k l.left l.rest e in
    let d = c.after-rest.ensures in (
      omega (arith, x.pays, d.at, l.invariant.0),
      omega (arith, d.ends, l.invariant.1),
      λ s v a names h.
          let e = c.in_ok-read.ensures ∙ answered s v a names k l.left l.rest c.if-left-eq0.false c.in_ok-record.ensures (h _ _ c.in_ok-body.ensures) in
          rw (d.start, d.bytes, d.at) (rest_goes _ _ _ _ _ _ _ _ (l.invariant.2 s v a names h) (steady-member s v a names k) (sym c.comes.ensures ∙ c.loop-kind-test.true) e),
    )

pub returns : goal.returns
unfolding is_next
returns g c s v a names h = rest-ends _ _ _ _ _ _ _ _ (c.loop-kind.invariant.2 s v a names h) (sym c.comes.ensures ∙ c.loop-kind-test.false)

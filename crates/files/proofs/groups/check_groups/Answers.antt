-- `check_groups` meets its contract.
use mathlib.Core.Path.{refl, ap₂, ◌∙◌}
use native.Mathlib.Omega.{arith}
use borrow.Author.Rules.{rules}
use Rattle.std.specs.Prelude.{ℕ, ◌≡◌, List}
use Rattle.rules.specs.Basics.{sum}
use Rattle.rules.specs.Reading.{group, transition_body, row_body, rule_body}
use Rattle.records.specs.declared.part.Part.{Part}
use Rattle.records.specs.Checking.{Answer, outcome, of_part, no_steps, found}
use Rattle.records.proofs.Readers.{handed, reaches, fits, fits-on, Steady}
use Rattle.files.specs.declared.limits.Limits.{Limits}
use Rattle.files.specs.Members.{transition_steps, names_in, member, Reads}
use Rattle.files.proofs.MemberLaws.{is-transition, is_row, is-rule}
use Rattle.files.proofs.Steadies.{steady-members}
use Rattle.files.proofs.TreeLaws.{groups-onward}
use Rattle.files.proofs.groups.check_groups.Goals as goal

-- the groups of an agreement with these limits, the first of which begins with p
module _ (l : Limits) (p : Part) where
  abbrev names : List ℕ
  names = names_in 64 p.bytes.now

  abbrev grouped : (most kind : ℕ) → Part → Answer
  grouped most kind q = outcome sum (of_part (group most kind (member l.states l.variables l.accounts names kind)) q)

  steady : (most kind : ℕ) → Steady 0 sum (group most kind (member l.states l.variables l.accounts names kind))
  steady most kind = steady-members l.states l.variables l.accounts names kind most

  module _ {answered : Part → Answer → Type 0} where
    -- answers on transitions, rows and rules
    transitions-read : ((b : Part) (x : Answer) → answered b x → x ≡ outcome transition_steps (of_part (transition_body l.variables l.states) b))
        → Reads answered (member l.states l.variables l.accounts names 2)
    transitions-read h b x k = h b x k ∙ is-transition b.start b.at b.bytes.now l.states l.variables l.accounts names 2 refl

    rows-read : ((b : Part) (x : Answer) → answered b x → x ≡ outcome no_steps (of_part (row_body l.accounts) b))
        → Reads answered (member l.states l.variables l.accounts names 3)
    rows-read h b x k = h b x k ∙ is_row b.start b.at b.bytes.now l.states l.variables l.accounts names 3 refl

    rules-read : ((b : Part) (x : Answer) → answered b x → x ≡ outcome no_steps (of_part (rule_body l.variables names) b))
        → Reads answered (member l.states l.variables l.accounts names 4)
    rules-read h b x k = h b x k ∙ is-rule b.start b.at b.bytes.now l.states l.variables l.accounts names 4 (λ z. omega arith) (λ z. omega arith)

    -- an answer on a group, by those on its members
    group-read : (most kind : ℕ) (q : Part) {x : Answer}
        → ((s v a : ℕ) (ns : List ℕ) → Reads answered (member s v a ns kind) → x ≡ outcome sum (of_part (group most kind (member s v a ns kind)) q))
        → Reads answered (member l.states l.variables l.accounts names kind) → x ≡ grouped most kind q
    group-read most kind q h r = h l.states l.variables l.accounts names r

pub check_group-requires-clause-reads : goal.check_group-requires-clause-reads
check_group-requires-clause-reads c = let l = c.args.limits in (l.states, l.variables, l.accounts, names l c.args.p, transitions-read l c.args.p λ b x k. search rules)

pub check_group-requires-2-clause-reads : goal.check_group-requires-2-clause-reads
check_group-requires-2-clause-reads c = let l = c.args.limits in (l.states, l.variables, l.accounts, names l c.args.p, rows-read l c.args.p λ b x k. search rules)

pub check_group-requires-3-clause-reads : goal.check_group-requires-3-clause-reads
check_group-requires-3-clause-reads c = let l = c.args.limits in (l.states, l.variables, l.accounts, names l c.args.p, rules-read l c.args.p λ b x k. search rules)

pub returns-in_err-transitions : goal.returns-in_err-transitions
returns-in_err-transitions c =
    let p = c.args.p in
    let l = c.args.limits in
    let tr = group-read l p 64 2 p c.in_err-transitions.ensures (transitions-read l p λ b x k. search rules) in
    rw (handed _ _ c.from_residual.ensures, ← groups-onward _ _ _ _ _ _, ← tr)

pub after-requires : goal.after-requires
after-requires c =
    let p = c.args.p in
    let l = c.args.limits in
    let tr = group-read l p 64 2 p c.in_ok-transitions.ensures (transitions-read l p λ b x k. search rules) in
    fits (steady l p 64 2) p tr

pub returns-in_err-check_group : goal.returns-in_err-check_group
returns-in_err-check_group c =
    let p = c.args.p in
    let l = c.args.limits in
    let a = c.after.ensures in
    let tr = group-read l p 64 2 p c.in_ok-transitions.ensures (transitions-read l p λ b x k. search rules) in
    let ro = group-read l p 16 3 c.after.result c.in_err-check_group.ensures (rows-read l p λ b x k. search rules) in
    rw (handed _ _ c.from_residual-in_err-check_group.ensures, ← groups-onward _ _ _ _ _ _, ← tr, ← a.bytes, ← a.at, ← a.start, ← ro)

pub more-rows-requires : goal.more-rows-requires
more-rows-requires c =
    let p = c.args.p in
    let l = c.args.limits in
    let tr = group-read l p 64 2 p c.in_ok-transitions.ensures (transitions-read l p λ b x k. search rules) in
    let ro = group-read l p 16 3 c.after.result c.in_ok-check_group.ensures (rows-read l p λ b x k. search rules) in
    let x = reaches (steady l p 64 2) p tr in
    let y = reaches (steady l p 16 3) c.after.result ro in
    omega (arith, x.pays, y.pays, y.high, c.after.ensures.at, c.after.ensures.ends, p.fits)

pub after-requires-2 : goal.after-requires-2
after-requires-2 c =
    let p = c.args.p in
    let l = c.args.limits in
    let a = c.after in
    let ro = group-read l p 16 3 a.result c.in_ok-check_group.ensures (rows-read l p λ b x k. search rules) in
    rw c.more-rows.ensures.0 (fits-on (steady l p 16 3) p a.result a.ensures.goes a.ensures.ends ro)

pub returns-in_err-check_group-2 : goal.returns-in_err-check_group-2
returns-in_err-check_group-2 c =
    let p = c.args.p in
    let l = c.args.limits in
    let a = c.after.ensures in
    let m = c.more-rows.ensures in
    let d = c.after-2.ensures in
    let tr = group-read l p 64 2 p c.in_ok-transitions.ensures (transitions-read l p λ b x k. search rules) in
    let ro = group-read l p 16 3 c.after.result c.in_ok-check_group.ensures (rows-read l p λ b x k. search rules) in
    let ru = group-read l p 8 4 c.after-2.result c.in_err-check_group-2.ensures (rules-read l p λ b x k. search rules) in
    rw (handed _ _ c.from_residual-in_err-check_group-2.ensures, ← groups-onward _ _ _ _ _ _, ← tr, ← a.bytes, ← a.at, ← a.start, ← ro)
    (rw (a.start, ← m.0, ← m.1, ← d.bytes, ← d.at, ← d.start, ← ru))

pub more-rules-requires : goal.more-rules-requires
more-rules-requires c =
    let p = c.args.p in
    let l = c.args.limits in
    let d = c.after.ensures in
    let e = c.after-2.ensures in
    let m = c.more-rows.ensures in
    let tr = group-read l p 64 2 p c.in_ok-transitions.ensures (transitions-read l p λ b x k. search rules) in
    let ro = group-read l p 16 3 c.after.result c.in_ok-check_group.ensures (rows-read l p λ b x k. search rules) in
    let ru = group-read l p 8 4 c.after-2.result c.in_ok-check_group-2.ensures (rules-read l p λ b x k. search rules) in
    let x = reaches (steady l p 64 2) p tr in
    let y = reaches (steady l p 16 3) c.after.result ro in
    let z = reaches (steady l p 8 4) c.after-2.result ru in
    omega (arith, x.pays, y.pays, z.pays, z.high, d.at, e.at, m.0, m.1, e.ends, p.fits)

pub after-requires-3 : goal.after-requires-3
after-requires-3 c =
    let p = c.args.p in
    let l = c.args.limits in
    let d = c.after-2 in
    let ru = group-read l p 8 4 d.result c.in_ok-check_group-2.ensures (rules-read l p λ b x k. search rules) in
    rw c.more-rules.ensures.0 (fits-on (steady l p 8 4) p d.result d.ensures.goes d.ensures.ends ru)

pub returns-in_err-check_end : goal.returns-in_err-check_end
returns-in_err-check_end c =
    let p = c.args.p in
    let l = c.args.limits in
    let a = c.after.ensures in
    let m = c.more-rows.ensures in
    let d = c.after-2.ensures in
    let n = c.more-rules.ensures in
    let e = c.after-3.ensures in
    let tr = group-read l p 64 2 p c.in_ok-transitions.ensures (transitions-read l p λ b x k. search rules) in
    let ro = group-read l p 16 3 c.after.result c.in_ok-check_group.ensures (rows-read l p λ b x k. search rules) in
    let ru = group-read l p 8 4 c.after-2.result c.in_ok-check_group-2.ensures (rules-read l p λ b x k. search rules) in
    rw (handed _ _ c.from_residual-in_err-check_end.ensures, ← groups-onward _ _ _ _ _ _, ← tr, ← a.bytes, ← a.at, ← a.start, ← ro)
    (rw (a.start, ← m.0, ← m.1, ← d.bytes, ← d.at, ← d.start, ← ru)
    (rw (d.start, ← n.0, ← n.1, ← e.bytes, ← e.at, ← e.start, ← c.in_err-check_end.ensures)))

pub returns : goal.returns
returns c =
    let p = c.args.p in
    let l = c.args.limits in
    let a = c.after.ensures in
    let m = c.more-rows.ensures in
    let d = c.after-2.ensures in
    let n = c.more-rules.ensures in
    let e = c.after-3.ensures in
    let tr = group-read l p 64 2 p c.in_ok-transitions.ensures (transitions-read l p λ b x k. search rules) in
    let ro = group-read l p 16 3 c.after.result c.in_ok-check_group.ensures (rows-read l p λ b x k. search rules) in
    let ru = group-read l p 8 4 c.after-2.result c.in_ok-check_group-2.ensures (rules-read l p λ b x k. search rules) in
    rw (← groups-onward _ _ _ _ _ _, ← tr, ← a.bytes, ← a.at, ← a.start, ← ro)
    (rw (a.start, ← m.0, ← m.1, ← d.bytes, ← d.at, ← d.start, ← ru)
    (rw (d.start, ← n.0, ← n.1, ← e.bytes, ← e.at, ← e.start, ← c.in_ok-check_end.ensures) (ap₂ found c.more.ensures.0 c.more.ensures.1)))

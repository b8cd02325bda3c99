-- `check_transition_head` meets its contract.
use mathlib.Core.Path.{◌≡◌, ap₂}
use Rattle.records.specs.Checking.{found}
use Rattle.records.proofs.Readers.{handed}
use Rattle.files.proofs.MemberLaws.{head_answers, head-answer}
use Rattle.files.proofs.members.check_transition_head.Goals as goal

pub returns-in_err-and : goal.returns-in_err-and
returns-in_err-and c =
    let b = c.args.b in
    let h : head_answers b.start b.at b.bytes.now c.args.states ≡ c.and-3.result = cc in
    rw (handed _ _ c.from_residual.ensures, head-answer _ _ _ _, h, c.in_err-and.was)

pub returns : goal.returns
returns c =
    let b = c.args.b in
    let h : head_answers b.start b.at b.bytes.now c.args.states ≡ c.and-3.result = cc in
    rw (head-answer _ _ _ _, h, c.in_ok-and.was) (ap₂ found c.at.ensures.0 c.at.ensures.1)

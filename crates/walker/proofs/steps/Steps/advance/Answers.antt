-- `advance` meets its contract: the step's kind names what is done.
use Prim.Native.Nat.{ℕ, ◌≤◌, ◌<◌}
use mathlib.Core.Path.{◌≡◌, sym, ap, ◌∙◌}
use mathlib.Core.Logic.{◌⊎◌, inl, inr}
use mathlib.Core.List.{List}
use native.Mathlib.Omega.{arith}
use Rattle.rules.specs.Syntax.{Simple}
use Rattle.rules.specs.Running.{perform}
use Rattle.walker.specs.Tables.{Expanded, word_at}
use Rattle.walker.specs.Runs.{Ready, run_of}
use Rattle.walker.proofs.Meeting.{first_of, SimpleAt, simple-from, here, not_three, simple-met}
use Rattle.walker.proofs.Moves.{decides, performs, refuses}
use Rattle.walker.proofs.steps.Steps.advance.Goals as goal

-- the statement that is met
met : {file words : List ℕ} {i k : ℕ} → Ready file words i → k ≡ word_at words i 2 → (k ≡ 1 → ⊥) × (k ≡ 2 → ⊥) → (a : Expanded file words)
    → SimpleAt file a.tree.fields.variables (word_at words i 4) × (4 ≤ word_at words i 2)
met {i = i} r e h a = simple-met a i r.node (first_of r a) (λ z. h.0 (e ∙ z)) (λ z. h.1 (e ∙ z))

-- a guard's step, and a condition's second
neither : {k w : ℕ} → k ≡ w → (k ≡ 1) ⊎ (k ≡ 3) → (w ≡ 2 → ⊥) × (w < 4)
neither e (inl h) = (λ x. omega arith, omega arith)
neither e (inr h) = (λ x. omega arith, omega arith)

pub step_at-step-requires : goal.step_at-step-requires
step_at-step-requires c = let r = c.requires.0 in (here r.expanded _ r.node r.first).room

pub slice_bounds-perform-start : goal.slice_bounds-perform-start
slice_bounds-perform-start c =
    let s = c.step_at-step.ensures in
    (simple-from s.at (met c.requires.0 s.kind (λ z. grind arith, λ z. omega arith) c.requires.0.expanded).0).within

pub slice_bounds-perform-count : goal.slice_bounds-perform-count
slice_bounds-perform-count c =
    let s = c.step_at-step.ensures in
    (simple-from s.at (met c.requires.0 s.kind (λ z. grind arith, λ z. omega arith) c.requires.0.expanded).0).within

pub perform-run-requires : goal.perform-run-requires
perform-run-requires c =
    let s = c.step_at-step.ensures in
    ((simple-from s.at (met c.requires.0 s.kind (λ z. grind arith, λ z. omega arith) c.requires.0.expanded).0).bytes, c.requires.1)

pub decide-requires : goal.decide-requires
decide-requires c = (c.requires.0, sym c.step_at-step.ensures.kind ∙ c.in-2.is)

pub returns-in-2 : goal.returns-in-2
returns-in-2 c = λ a. c.decide.ensures a ∙ ap run_of (decides a c.args.i _ _ (sym c.step_at-step.ensures.kind ∙ c.in-2.is))

pub returns-in-1 : goal.returns-in-1
returns-in-1 c = λ a.
    let r = c.requires.0 in
    let k = neither c.step_at-step.ensures.kind c.in-1.is in
    ap run_of (sym (refuses a c.args.i _ _ k.0 (not_three a c.args.i r.node (first_of r a)) k.1))

pub returns-in_default : goal.returns-in_default
returns-in_default c = λ a.
    let s = c.step_at-step.ensures in
    let x = met c.requires.0 s.kind (λ z. grind arith, λ z. omega arith) a in
    let b = simple-from s.at x.0 in
    let does = c.perform-run.ensures b.bytes ∙ ap (λ (x : Simple). perform c.args.setting.now x c.args.m.now) b.is in
    c.led.ensures c.perform-run.new.m ∙ ap run_of (performs a c.args.i _ _ x.0 x.1 does s.target)

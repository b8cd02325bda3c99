-- A run that has stopped does nothing of what was to follow.
use Rattle.std.proofs.Common.{◌≡◌, ℕ, refl, ap, ◌∙◌}
use Rattle.std.specs.Prelude.{Result, Ok, Err, IsErrAnd}
use Rattle.rules.specs.declared.Machine.{Machine}
use Rattle.rules.specs.declared.Refusal.{Refusal}
use Rattle.rules.specs.Running.{Exec, after}
use Rattle.rules.specs.Calling.{ends_in, leads}
use Rattle.machine.specs.declared.Stop.{Stop}
use Rattle.machine.specs.declared.Stop.TheVariants.{Returned, GuardFalse, GuardFailed, ActionFailed, UnitsUsedUp}
use Rattle.machine.specs.Runs.{stopped_by, ran, ending, came_to}

pub after_stop : {A B : Type 0} (e : Stop) (m : Machine) (f : A → Exec B) → after (stopped_by e m) f ≡ stopped_by e m
after_stop Returned m f = refl
after_stop GuardFalse m f = refl
after_stop GuardFailed m f = refl
after_stop ActionFailed m f = refl
after_stop UnitsUsedUp m f = refl

-- what the exit of a `?` hands on
pub ran_err : {A : Type 0} (e : Stop) (r : Result A Stop) (m : Machine) → IsErrAnd r (λ y. y ≡ e) → ran r m ≡ stopped_by e m
ran_err e (Ok a) m h = absurd h
ran_err e (Err y) m h = ap (λ x. stopped_by x m) h

came_stopped : (n : ℕ) (e : Stop) (m : Machine) → ends_in n (came_to (ending (stopped_by {A = Unit {0}} e m)) m) ≡ ends_in n (stopped_by e m)
unfolding ends_in leads
came_stopped n Returned m = refl
came_stopped n GuardFalse m = refl
came_stopped n GuardFailed m = refl
came_stopped n ActionFailed m = refl
came_stopped n UnitsUsedUp m = refl

came_ran : (n : ℕ) (r : Result (Unit {0}) Stop) (m : Machine) → ends_in n (came_to (ending (ran r m)) m) ≡ ends_in n (ran r m)
came_ran n (Ok a) m = refl
came_ran n (Err e) m = came_stopped n e m

-- how a run ends, from what it came to
pub came : (n : ℕ) (r : Result (Unit {0}) Stop) (m : Machine) {e : Result (Unit {0}) Refusal} → ((w : Machine) → e ≡ ending (ran r w))
    → ends_in n (came_to e m) ≡ ends_in n (ran r m)
came n r m h = ap (λ x. ends_in n (came_to x m)) (h m) ∙ came_ran n r m

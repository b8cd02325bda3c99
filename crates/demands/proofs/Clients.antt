-- What a client of the exported functions sees, who starts and makes a list of calls: exactly the numbers of the rules' outcomes,
-- by the round trip of records and since starts and calls keep the lengths of their arrays (clients-see); so both forms look alike
-- (clients-cannot-tell).
use mathlib.Core.Path.{◌≡◌, refl, sym, ap, ap₂, ◌∙◌}
use Prim.Native.Nat.{ℕ}
use mathlib.Core.List.{List, [], ◌∷◌, map}
use mathlib.Core.Logic.{◌↔◌}
use Rattle.rules.specs.declared.Call.{Call}
use Rattle.rules.specs.declared.Outcome.{Outcome}
use Rattle.rules.specs.declared.State.{State}
use Rattle.rules.specs.Calling.{start, call, calls_from, follow, run_list, no_call}
use Rattle.rules.specs.Stepping.{start_expanded, call_expanded, run_list_expanded}
use Rattle.rules.specs.Answers.{state_numbers, state_from}
use Rattle.rules.specs.Exported.{Handed, Seen, seen_of, CallsSeen, done, next, Session, begun}
use Rattle.rules.specs.Demands.{Shaped, ClientsSee, ClientsCannotTell}
use Rattle.rules.proofs.RoundTrips.{records-round-trip}
use Rattle.forms.proofs.Agreement.{forms-agree}
use Rattle.totals.proofs.Shapes.{shapes-kept}

-- what is handed is what is seen of the outcome
handed-seen : {o : Outcome} (x : Seen) → Handed o x.state x.answer → x ≡ seen_of o
handed-seen x h = λ i. record { state = h.state-is i; answer = h.answer-is i }

-- on calls that keep the lengths
module _ (g : State → Call → Outcome) (keeps : (s : State) (k : Call) → Shaped s → Shaped (g s k).state) where
  calls_seen : (s : State) (before : List ℕ) → Shaped s → before ≡ state_numbers s → {ks : List Call} {xs : List Seen}
      → CallsSeen (λ k b. Handed (g (state_from b) k)) before ks xs → xs ≡ map seen_of (calls_from g s ks)
  unfolding calls_from
  calls_seen s before h e done = refl
  calls_seen s before h e (next {k = k} {x = x} m rest) =
      let given : state_from before ≡ s = ap state_from e ∙ records-round-trip.1 s h in
      let o : Outcome = g s k in
      let handed : Handed o x.state x.answer = rw given at m in
      ap₂ (λ (y : Seen) (ys : List Seen). y ∷ ys) (handed-seen x handed) (calls_seen o.state x.state (keeps s k h) handed.state-is rest)

  session-seen : (o : Outcome) → Shaped o.state → {ks : List Call} {xs : List Seen}
      → Session (Handed o) (λ k b. Handed (g (state_from b) k)) ks xs → xs ≡ map seen_of (follow g o ks)
  unfolding follow
  session-seen o h (begun {x = x} m rest) =
      ap₂ (λ (y : Seen) (ys : List Seen). y ∷ ys) (handed-seen x m) (calls_seen o.state x.state h m.state-is rest)

  -- and such records and answers there are
  calls-met : (s : State) → Shaped s → (ks : List Call)
      → CallsSeen (λ k b. Handed (g (state_from b) k)) (state_numbers s) ks (map seen_of (calls_from g s ks))
  unfolding calls_from
  calls-met s h [] = done
  calls-met s h (k ∷ ks) =
      let x : Seen = seen_of (g s k) in
      let met : Handed (g (state_from (state_numbers s)) k) x.state x.answer =
      rw (records-round-trip.1 s h) (record { state-is = refl; answer-is = refl }) in
      next met (calls-met (g s k).state (keeps s k h) ks)

  session-met : (o : Outcome) → Shaped o.state → (ks : List Call)
      → Session (Handed o) (λ k b. Handed (g (state_from b) k)) ks (map seen_of (follow g o ks))
  unfolding follow
  session-met o h ks = begun (record { state-is = refl; answer-is = refl }) (calls-met o.state h ks)

  both : (o : Outcome) → Shaped o.state → (ks : List Call) (xs : List Seen)
      → Session (Handed o) (λ k b. Handed (g (state_from b) k)) ks xs ↔ (xs ≡ map seen_of (follow g o ks))
  both o h ks xs = (session-seen o h, λ e. rw e (session-met o h ks))

pub clients-see : ClientsSee
unfolding run_list run_list_expanded
clients-see file words calls seen =
    let kept = shapes-kept file words in
    let fresh = kept (start file).state no_call in (
      both (call file) (λ s k. (kept s k).2) (start file) fresh.0 calls seen,
      both (call_expanded file words) (λ s k. (kept s k).3) (start_expanded file words) fresh.1 calls seen,
    )

pub clients-cannot-tell : ClientsCannotTell
clients-cannot-tell file words a calls seen seen_expanded e h unexpanded expanded =
    (clients-see file words calls seen_expanded).1.0 expanded
    ∙ ap (map seen_of) (forms-agree file words a calls e h)
    ∙ sym ((clients-see file words calls seen).0.0 unexpanded)

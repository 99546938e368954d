-- The number of an answer that is a value or a refusal. A `?` hands on the refusal of the call that it is at. Assumes nothing.
use Rattle.std.proofs.Common.{◌≡◌, ◌<◌, ℕ, Bool, true, false, Result, Ok, Err, arith, refl, ◌∙◌, List}
use Rattle.std.specs.Prelude.{IsErr}
use Rattle.std.specs.Result.{IsErrAnd}
use Rattle.search.specs.Search.{among}
use Rattle.monitor.specs.declared.refusal.Refusal.{Refusal}
use Rattle.monitor.specs.declared.refusal.Refusal.TheVariants.{State, Place, InUse, NoSession, OutOfRange, Clearance, Assignment, Levels, Card, Offset, Store}
use Rattle.monitor.specs.Session.{sound, in_use}
use Rattle.monitor.specs.Calls.{unless, if_done, close_number, at_session}
use Rattle.monitor.specs.Refusals.{number_of, told}
use Rattle.monitor.proofs.Answers.{either_way}

-- no refusal has number 0
pub never_done : (e : Refusal) → number_of e ≡ 0 → ⊥
never_done State h = absurd (omega arith)
never_done Place h = absurd (omega arith)
never_done InUse h = absurd (omega arith)
never_done NoSession h = absurd (omega arith)
never_done OutOfRange h = absurd (omega arith)
never_done Clearance h = absurd (omega arith)
never_done Assignment h = absurd (omega arith)
never_done Levels h = absurd (omega arith)
never_done Card h = absurd (omega arith)
never_done Offset h = absurd (omega arith)
never_done Store h = absurd (omega arith)

-- what a `?` hands on has the number that it was handed
pub handed : {A : Type 0} (q : Result A Refusal) (e : Refusal) {N : ℕ} → IsErr q × IsErrAnd q (λ d. d ≡ e) → number_of e ≡ N → told q ≡ N
handed (Err d) e h k = rw h.1 k
handed (Ok x) e h k = absurd h.1

-- where a test that a call made refuses, so does the caller
pub call_stops : (t : Bool) (n rest : ℕ) (e : Refusal) → number_of e ≡ unless t n 0 → number_of e ≡ unless t n rest
unfolding unless
call_stops true n rest e h = absurd (never_done e h)
call_stops false n rest e h = h

-- where it passes, the caller goes on
pub call_passes : (t : Bool) (n rest : ℕ) {x : ℕ} → 0 < n → 0 ≡ unless t n 0 → x ≡ rest → x ≡ unless t n rest
unfolding unless
call_passes true n rest l h k = k
call_passes false n rest l h k = absurd (omega arith)

-- what a call at a place asks first: it refuses, and so does the call, or it has passed
module _ (xs : List ℕ) (p rest : ℕ) where
  pub session_stops : (e : Refusal) → number_of e ≡ close_number xs p → number_of e ≡ at_session xs p rest
  unfolding close_number unless
  session_stops e h = by (sound xs) (among 64 p) (in_use xs p) h
    where
      by : (a b c : Bool) → number_of e ≡ unless a 21 (unless b 22 (unless c 24 0)) → number_of e ≡ unless a 21 (unless b 22 (unless c 24 rest))
      by true true true h = absurd (never_done e h)
      by true true false h = h
      by true false c h = h
      by false b c h = h

  pub session_passes : {x : ℕ} → 0 ≡ close_number xs p → x ≡ rest → x ≡ at_session xs p rest
  unfolding close_number unless
  session_passes h k = k ∙ by (sound xs) (among 64 p) (in_use xs p) h
    where
      by : (a b c : Bool) → 0 ≡ unless a 21 (unless b 22 (unless c 24 0)) → rest ≡ unless a 21 (unless b 22 (unless c 24 rest))
      by true true true h = refl
      by true true false h = absurd (omega arith)
      by true false c h = absurd (omega arith)
      by false b c h = absurd (omega arith)

-- a call that is refused leaves what was there
pub refused_kept : {A : Type 0} (N : ℕ) (new old : A) (e : Refusal) → number_of e ≡ N → old ≡ if_done N new old
refused_kept N new old e h = rw (← h) (either_way (λ x. old ≡ x) (number_of e) new old (λ z. absurd (never_done e z)) refl)

-- Two accepted files that say the same get one answer to each call, and calls leave one store: the rules go by settings and assignments, and these are one. Assumes nothing.
use Rattle.std.proofs.Common.{ℕ, ◌≡◌, refl, sym, ap, subst, ◌∙◌, List, [], ◌∷◌, length}
use Rattle.rolefile.specs.Said.{assigned}
use Rattle.policy.specs.Settings.{Settings, settings, SaySame}
use Rattle.policy.specs.Accepted.{Accepted}
use Rattle.policy.proofs.Same.{same_settings, same_assigned}
use Rattle.monitor.specs.Runs.{Call, Memory, Start, loaded, number, part_of, part, after, run, left}
use Rattle.monitor.specs.Rules.{Standing, begun, rule, next, standing}
use Rattle.monitor.proofs.Demand2.{Runs, runs_next, runs_number, after_calls, loaded_runs, answers}

-- two runs by the same rules, from one store
same_run : (σ : Settings) (cs : List Call) (now : Standing) (size : ℕ) (m n : Memory) → Runs σ now size m → Runs σ now size n → m.store ≡ n.store → (run m cs).store ≡ (run n cs).store
unfolding run
same_run σ [] now size m n r s e = e
same_run σ (c ∷ cs) now size m n r s e =
    same_run σ cs (next σ now c) size (after m c) (after n c) (runs_next σ now size m r c) (runs_next σ now size n s c)
    (rw (runs_number σ now size m r c, runs_number σ now size n s c, e))

module _ {f g : List ℕ} (f-accepted : Accepted f) (g-accepted : Accepted g) (say : SaySame f g) (a : Start f) (b : Start g) (store : List ℕ) (cs : List Call) where
  one_settings : settings f ≡ settings g
  one_settings = same_settings f g f-accepted.form g-accepted.form say

  one_assigned : assigned f ≡ assigned g
  one_assigned = same_assigned f g f-accepted.form g-accepted.form say

  -- a call's number, and the bytes of the part that a read hands back, whatever store it is lent
  pub same_answers : (lent : List ℕ) (c : Call) → let m : Memory = record { state = (left a store cs).state; store = lent } in
      let n : Memory = record { state = (left b store cs).state; store = lent } in (number m c ≡ number n c) × (part m c ≡ part n c)
  same_answers lent c =
      let same : rule (settings f) (length lent) (after_calls f cs) c ≡ rule (settings g) (length lent) (after_calls g cs) c =
      λ i. rule (one_settings i) (length lent) (standing (one_settings i) (begun (one_assigned i)) cs) c in
      let e = answers f-accepted a store cs lent c ∙ same ∙ sym (answers g-accepted b store cs lent c) in
      (e, ap (λ (n : ℕ). part_of n lent c) e)

  pub same_store : (left a store cs).store ≡ (left b store cs).store
  same_store =
      let r : Runs (settings f) (begun (assigned f)) (length store) (loaded b store) =
      subst (λ σ. Runs σ (begun (assigned f)) (length store) (loaded b store)) (sym one_settings)
      (subst (λ α. Runs (settings g) (begun α) (length store) (loaded b store)) (sym one_assigned) (loaded_runs g-accepted b store)) in
      same_run (settings f) cs (begun (assigned f)) (length store) (loaded a store) (loaded b store) (loaded_runs f-accepted a store) r refl

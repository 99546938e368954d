-- Demand 2's session half: on every state that a load of an accepted file and any calls left, each call is answered as the settings and what stands after the calls so far say. Each call keeps
-- the state standing for the sessions, and a load's image stands for none. Assumes nothing.
use Rattle.std.proofs.Common.{ℕ, ◌≤◌, ◌≡◌, refl, sym, ◌∙◌, List, ◌∷◌, [], Bool, true, cond, arith, length}
use mathlib.Core.Option.{Option, none, some, map}
use Rattle.search.specs.Search.{among, Among}
use Rattle.search.proofs.Truth.{among_iff, either}
use Rattle.rolefile.specs.Said.{roles, assigned}
use Rattle.order.specs.Closure.{Relation}
use Rattle.policy.specs.Settings.{Settings, settings, Bounded}
use Rattle.policy.specs.Tables.{readers_at, writers_at}
use Rattle.policy.specs.Accepted.{Accepted}
use Rattle.policy.specs.Image.{Image}
use Rattle.policy.specs.Flow.{flows, flow_circle}
use Rattle.policy.proofs.Inside.{file_bounded}
use Rattle.policy.proofs.Meaning.{role_few, flow_by, circle_by}
use Rattle.policy.proofs.Loads.{load_iff}
use Rattle.monitor.specs.Session.{sound}
use Rattle.monitor.specs.Calls.{unless, if_done, written, part_at, opened, closed, taken, dropped, write_number}
use Rattle.monitor.specs.Calls.{flows_number, state_number, Flows, Circles}
use Rattle.monitor.specs.Runs.{Call, opens, closes, takes, drops, reads, writes, Memory, Start, loaded, number, state_after, store_of, store_after, after, run, left}
use Rattle.monitor.specs.Places.{put}
use Rattle.monitor.specs.Rules.{Session, Sessions, session_rule, at_session_by, open_rule, close_rule, take_rule, drop_rule, part_rule, rule, session_of, holding, without, Standing, stand, begun, sessions_after, next, standing}
use Rattle.monitor.proofs.Answers.{unless_done, both_ways, either_way, figure_same}
use Rattle.monitor.proofs.Frames.{length_written}
use Rattle.monitor.proofs.Wrote.{inside}
use Rattle.monitor.proofs.Orderly.{Orderly, no_sessions_orderly, opening, session_done, taking, dropping, orderly_next}
use Rattle.monitor.proofs.Stands.{SessionAt, Stands, image_stands, stands_put, opened_touched, opened_place, closed_touched, closed_place, taken_touched, taken_place, dropped_touched, dropped_place}
use Rattle.monitor.proofs.ByRules.{test_passed, sound_by, open_by, close_by, take_by, drop_by, part_by}

-- a write keeps the store's length
pub store_length : (m : Memory) (c : Call) → length (store_after m c) ≡ length m.store
unfolding number store_of
store_length m (opens p u l) = refl
store_length m (closes p) = refl
store_length m (takes p r) = refl
store_length m (drops p r) = refl
store_length m (reads p o k n) = refl
store_length m (writes p o k bytes) =
    either_way (λ st. length st ≡ length m.store) (write_number m.state m.store p o k bytes) (written m.store (part_at o k) bytes) m.store
    (λ h. length_written m.store (part_at o k) bytes (inside m.state m.store p o k bytes h)) refl

module _ (σ : Settings) (bounded : Bounded σ) (α : Relation) (t : Sessions) (known : Orderly σ t) (m : Memory) (stands : Stands σ α t m.state) where
  abbrev xs : List ℕ
  xs = m.state

  number_by : (c : Call) → number m c ≡ rule σ (length m.store) (stand α t) c
  unfolding number rule
  number_by (opens p u l) = open_by σ bounded α t xs stands p u l
  number_by (closes p) = close_by σ bounded α t xs stands known p
  number_by (takes p r) = take_by σ bounded α t xs stands known p r
  number_by (drops p r) = drop_by σ bounded α t xs stands known p r
  number_by (reads p o k n) =
      part_by σ bounded α t xs stands readers_at 1 (omega arith) stands.tables.permitting.readers known (length m.store) p o k n
  number_by (writes p o k bytes) =
      part_by σ bounded α t xs stands writers_at 2 (omega arith) stands.tables.permitting.writers known (length m.store) p o k (length bytes)

  session_there : (p : ℕ) (s : Session) → Among 64 p → t p ≡ some s → SessionAt xs p s
  session_there p s w e = rw e at (stands.places p w)

  stands_after : (c : Call) → Stands σ α (sessions_after σ (stand α t) c) (state_after m c)
  unfolding state_after sessions_after close_rule take_rule drop_rule
  stands_after (opens p u l) =
      rw (open_by σ bounded α t xs stands p u l)
      (both_ways (Stands σ α) (open_rule σ t p u l) (put t p (some (session_of u l))) t (opened xs p u l) xs
      (λ h.
      let o = opening σ t p u l h in
      stands_put σ α t xs (opened xs p u l) p stands o.place (opened_touched xs p stands.long o.place u l)
      (some (session_of u l)) (opened_place xs p stands.long o.place u l o.user.0))
      stands)
  stands_after (closes p) =
      rw (close_by σ bounded α t xs stands known p)
      (both_ways (Stands σ α) (close_rule t p) (put t p none) t (closed xs p) xs
      (λ h.
      let w = (session_done t p (λ s. 0) h).place in
      stands_put σ α t xs (closed xs p) p stands w (closed_touched xs p stands.long w) none (closed_place xs p stands.long w))
      stands)
  stands_after (takes p r) =
      rw (take_by σ bounded α t xs stands known p r)
      (both_ways (Stands σ α) (take_rule σ α t p r) (put t p (map (holding r) (t p))) t (taken xs p r) xs
      (λ h.
      let a = session_done t p _ h in
      let s = a.session in
      let w = role_few σ bounded r (taking σ α r s a.done).0 in
      stands_put σ α t xs (taken xs p r) p stands a.place (taken_touched xs p stands.long a.place r w)
      (map (holding r) (t p)) (rw a.found (taken_place xs p stands.long a.place r w s (session_there p s a.place a.found))))
      stands)
  stands_after (drops p r) =
      rw (drop_by σ bounded α t xs stands known p r)
      (both_ways (Stands σ α) (drop_rule σ t p r) (put t p (map (without r) (t p))) t (dropped xs p r) xs
      (λ h.
      let a = session_done t p _ h in
      let s = a.session in
      let w = role_few σ bounded r (dropping σ r a.done) in
      stands_put σ α t xs (dropped xs p r) p stands a.place (dropped_touched xs p stands.long a.place r w)
      (map (without r) (t p)) (rw a.found (dropped_place xs p stands.long a.place r w s (session_there p s a.place a.found))))
      stands)
  stands_after (reads p o k n) = stands
  stands_after (writes p o k bytes) = stands

-- ---- runs

pub record Runs (σ : Settings) (now : Standing) (size : ℕ) (m : Memory) : Type 0 where
  pub bounded : Bounded σ
  pub known : Orderly σ now.sessions
  pub stands : Stands σ now.assigned now.sessions m.state
  pub stored : length m.store ≡ size

pub runs_next : (σ : Settings) (now : Standing) (size : ℕ) (m : Memory) → Runs σ now size m → (c : Call) → Runs σ (next σ now c) size (after m c)
runs_next σ now size m r c = record {
  bounded = r.bounded;
  known = orderly_next σ now.assigned now.sessions r.known c;
  stands = stands_after σ r.bounded now.assigned now.sessions r.known m r.stands c;
  stored = store_length m c ∙ r.stored;
}

pub runs_number : (σ : Settings) (now : Standing) (size : ℕ) (m : Memory) → Runs σ now size m → (c : Call) → number m c ≡ rule σ size now c
runs_number σ now size m r c = number_by σ r.bounded now.assigned now.sessions r.known m r.stands c ∙ rw r.stored

runs_after : (σ : Settings) (cs : List Call) (now : Standing) (size : ℕ) (m : Memory) → Runs σ now size m → Runs σ (standing σ now cs) size (run m cs)
unfolding standing run
runs_after σ [] now size m r = r
runs_after σ (c ∷ cs) now size m r = runs_after σ cs (next σ now c) size (after m c) (runs_next σ now size m r c)

-- ---- 21 is none of the rules' numbers

other_than_21 : (b : Bool) (n rest : ℕ) → (n ≡ 21 → ⊥) → (rest ≡ 21 → ⊥) → unless b n rest ≡ 21 → ⊥
unfolding unless
other_than_21 b n rest h k = either (λ x. x ≡ 21 → ⊥) b rest n k h

session_not_21 : (t : Sessions) (p : ℕ) (asks : Session → ℕ) → ((s : Session) → asks s ≡ 21 → ⊥) → at_session_by t p asks ≡ 21 → ⊥
session_not_21 t p asks h = other_than_21 (among 64 p) 22 (session_rule (t p) asks) (λ e. omega arith) (by (t p))
  where
    by : (s : Option Session) → session_rule s asks ≡ 21 → ⊥
    by none e = omega arith
    by (some s) e = h s e

part_not_21 : (σ : Settings) (m size : ℕ) (t : Sessions) (p o k n : ℕ) → part_rule σ m t size p o k n ≡ 21 → ⊥
unfolding part_rule
part_not_21 σ m size t p o k n =
    session_not_21 t p _ (λ s. other_than_21 _ 25 _ (λ e. omega arith)
    (other_than_21 _ 29 _ (λ e. omega arith) (other_than_21 _ 30 _ (λ e. omega arith) (other_than_21 _ 31 _ (λ e. omega arith) (λ e. omega arith)))))

rule_not_21 : (σ : Settings) (size : ℕ) (now : Standing) (c : Call) → rule σ size now c ≡ 21 → ⊥
unfolding rule open_rule close_rule take_rule drop_rule part_rule
rule_not_21 σ size now (opens p u l) =
    other_than_21 _ 22 _ (λ e. omega arith) (other_than_21 _ 23 _ (λ e. omega arith) (other_than_21 _ 25 _ (λ e. omega arith)
    (other_than_21 _ 25 _ (λ e. omega arith) (other_than_21 _ 26 _ (λ e. omega arith) (λ e. omega arith)))))
rule_not_21 σ size now (closes p) = session_not_21 now.sessions p _ (λ s e. omega arith)
rule_not_21 σ size now (takes p r) =
    session_not_21 now.sessions p _ (λ s. other_than_21 _ 25 _ (λ e. omega arith)
    (other_than_21 _ 27 _ (λ e. omega arith) (other_than_21 _ 28 _ (λ e. omega arith) (λ e. omega arith))))
rule_not_21 σ size now (drops p r) = session_not_21 now.sessions p _ (λ s. other_than_21 _ 25 _ (λ e. omega arith) (λ e. omega arith))
rule_not_21 σ size now (reads p o k n) = part_not_21 σ 1 size now.sessions p o k n
rule_not_21 σ size now (writes p o k bytes) = part_not_21 σ 2 size now.sessions p o k (length bytes)

-- ---- from an image on, whatever made it

pub image_runs : (σ : Settings) → Bounded σ → (α : Relation) (xs : List ℕ) → 65536 ≤ length xs → Image σ α xs → (store : List ℕ)
    → Runs σ (begun α) (length store) (record { state = xs; store = store })
image_runs σ bounded α xs long image store =
    record { bounded = bounded; known = no_sessions_orderly σ; stands = image_stands σ α xs long image; stored = refl }

-- ---- from a load on

-- what stands after a load of the file f and the calls
abbrev pub after_calls : List ℕ → List Call → Standing
after_calls f cs = standing (settings f) (begun (assigned f)) cs

module _ {f : List ℕ} (accepted : Accepted f) (a : Start f) where
  load_done : a.verdict.number ≡ 0
  load_done = (load_iff a.load a.enough).1 accepted

  pub loaded_runs : (store : List ℕ) → Runs (settings f) (begun (assigned f)) (length store) (loaded a store)
  loaded_runs store = image_runs (settings f) (file_bounded f accepted.form) (assigned f) a.state (rw a.load.long a.enough) (a.load.done load_done) store

  module _ (store : List ℕ) (cs : List Call) where
    pub left_runs : Runs (settings f) (after_calls f cs) (length store) (left a store cs)
    left_runs = runs_after (settings f) cs (begun (assigned f)) (length store) (loaded a store) (loaded_runs store)

    -- the state stands for the file's settings, and for the assignments and sessions as they are
    pub left_stands : Stands (settings f) (after_calls f cs).assigned (after_calls f cs).sessions (left a store cs).state
    left_stands = left_runs.stands

    left_sound : sound (left a store cs).state ≡ true
    left_sound = sound_by (settings f) (file_bounded f accepted.form) _ (after_calls f cs).sessions (left a store cs).state left_stands

    -- what each call is answered, whatever store it is lent, by the settings and what stands after the calls so far
    pub answers : (lent : List ℕ) (c : Call) → number (record { state = (left a store cs).state; store = lent }) c ≡ rule (settings f) (length lent) (after_calls f cs) c
    answers lent c = let r = left_runs in runs_number (settings f) _ (length lent) (record { state = (left a store cs).state; store = lent }) (record { bounded = r.bounded; known = r.known; stands = r.stands; stored = refl }) c

    -- "never for a state that a load and calls left"
    pub never_21 : (lent : List ℕ) (c : Call) → number (record { state = (left a store cs).state; store = lent }) c ≡ 21 → ⊥
    never_21 lent c e = rule_not_21 (settings f) (length lent) (after_calls f cs) c (sym (answers lent c) ∙ e)

    -- the flow report
    pub flows_answers : (q r n figure : ℕ) → Flows (left a store cs).state q r n figure
        → (n ≡ unless (among (roles f) q) 25 (unless (among (roles f) r) 25 0)) × (figure ≡ if_done n (cond (flows (settings f) q r) 1 0) 0)
    unfolding flows_number
    flows_answers q r n figure h =
        let w = left_stands in
        let form = file_bounded f accepted.form in
        let tables = w.tables in
        let e : n ≡ unless (among (roles f) q) 25 (unless (among (roles f) r) 25 0) =
        h.number ∙ test_passed 21 left_sound ∙ rw tables.counted.roles in (
          e,
          figure_same n h.number h.answer (λ z.
              let (u, rest) = unless_done (among (roles f) q) 25 _ (omega arith) (sym e ∙ z) in
              let (v, end) = unless_done (among (roles f) r) 25 0 (omega arith) rest in
              flow_by (settings f) form (left a store cs).state tables w.long q r
              (role_few (settings f) form q ((among_iff (roles f) q).0 u)) (role_few (settings f) form r ((among_iff (roles f) r).0 v))),
        )

    pub circle_answers : (n figure : ℕ) → Circles (left a store cs).state n figure → (n ≡ 0) × (figure ≡ flow_circle (settings f))
    unfolding state_number if_done
    circle_answers n figure h =
        let w = left_stands in
        let e : state_number (left a store cs).state ≡ 0 = test_passed 21 left_sound in
        (h.number ∙ e, h.answer ∙ rw e (circle_by (settings f) (file_bounded f accepted.form) (left a store cs).state w.tables w.long))

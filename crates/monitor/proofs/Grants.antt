-- The rules answer 0 exactly where `Granted` holds, and so do the exported functions on every state that a load of the file and calls left. Assumes nothing.
use Rattle.std.proofs.Common.{ℕ, ◌+◌, ◌*◌, ◌≡◌, refl, sym, ◌∙◌, ◌↔◌, List, true, length, le-leb}
use mathlib.Core.Bool.{false≢true}
use mathlib.Core.Option.{Option, none, some}
use Rattle.search.specs.Search.{Among}
use Rattle.search.proofs.Truth.{and_both, among_iff}
use Rattle.search.proofs.Found.{some_both}
use Rattle.order.specs.Closure.{Relation, PartialOrder}
use Rattle.rolefile.specs.Said.{assigned}
use Rattle.policy.specs.Settings.{Settings, settings}
use Rattle.policy.specs.Policy.{may}
use Rattle.policy.specs.Accepted.{ReadsUnder, WritesOver, Accepted}
use Rattle.policy.proofs.Levels.{reads_under_iff, writes_over_iff}
use Rattle.monitor.specs.Calls.{unless}
use Rattle.monitor.specs.Runs.{Call, opens, closes, takes, drops, reads, writes, Start, number, left}
use Rattle.monitor.specs.Places.{is_free}
use Rattle.monitor.specs.Rules.{Session, Sessions, entitled_by, fitting_by, gives_by, open_rule, close_rule, take_rule, drop_rule, part_rule, begun, rule, standing}
use Rattle.monitor.specs.Granted.{OpenFor, Holds, MayOpen, OpenPlace, MayTake, MayDrop, MayUse, assigned_by, Granted}
use Rattle.monitor.proofs.Orderly.{Orderly, no_sessions_orderly, opening, opening_done, session_done, admitted, session_granted, taking, dropping, gives_iff, part_done}
use Rattle.monitor.proofs.History.{orderly_standing, session_with, Opened, open_for_iff, holds_iff}
use Rattle.monitor.proofs.Demand2.{answers}

-- a role fits a label exactly where it reads under the label and writes over it
pub fitting_by_iff : (σ : Settings) → PartialOrder σ.labels σ.dominates → (l r : ℕ) → (fitting_by σ l r ≡ true) ↔ (ReadsUnder σ l r × WritesOver σ l r)
unfolding fitting_by
fitting_by_iff σ order l r = and_both (reads_under_iff σ order l r) (writes_over_iff σ order l r)

-- a user is entitled to a role exactly where assigned to it or to a senior of it
pub entitled_by_iff : (σ : Settings) (α : Relation) (u r : ℕ) → (entitled_by σ α u r ≡ true) ↔ ((q : ℕ) × Among σ.roles q × (α u q ≡ true) × (σ.senior q r ≡ true))
unfolding entitled_by
entitled_by_iff σ α u r = some_both (α u) (λ q. σ.senior q r) σ.roles

module _ (σ : Settings) (α : Relation) (cs : List Call) where
  abbrev now : Sessions
  now = (standing σ (begun α) cs).sessions

  known : Orderly σ now
  known = orderly_standing σ cs (begun α) (no_sessions_orderly σ)

  -- ---- a place has a session

  abbrev there : (p : ℕ) (s : Session) → now p ≡ some s → OpenPlace σ α cs p
  there p s e = record { user = s.user; label = s.label; since = (open_for_iff σ α cs p s.user s.label).0 (rw e (refl, refl)) }

  session_of_lem : (p : ℕ) (h : OpenPlace σ α cs p) → (s : Session) × (now p ≡ some s) × ((s.user ≡ h.user) × (s.label ≡ h.label))
  session_of_lem p h = session_with (Opened σ α cs p h.user h.label) (now p) ((open_for_iff σ α cs p h.user h.label).1 h.since)

  -- ---- open

  free_iff : (p : ℕ) → (is_free (now p) ≡ true) ↔ ((u l : ℕ) → OpenFor σ α cs p u l → ⊥)
  free_iff p = (
    λ free u l h. let (s, e, g) = session_with (Opened σ α cs p u l) (now p) ((open_for_iff σ α cs p u l).1 h) in false≢true (rw e at free),
    λ free. by (now p) refl free,
  )
    where
      by : (o : Option Session) → now p ≡ o → ((u l : ℕ) → OpenFor σ α cs p u l → ⊥) → is_free o ≡ true
      by none e free = refl
      by (some s) e free = absurd (free s.user s.label (there p s e).since)

  open_iff : (p u l : ℕ) → (open_rule σ now p u l ≡ 0) ↔ MayOpen σ α cs p u l
  open_iff p u l = (
    λ h.
        let o = opening σ now p u l h in
        record { place = o.place; free = (free_iff p).0 o.free; user = o.user; label = o.label; cleared = o.cleared },
    λ g.
        opening_done σ now p u l
        (record { place = g.place; free = (free_iff p).1 g.free; user = g.user; label = g.label; cleared = g.cleared }),
  )

  close_iff : (p : ℕ) → (close_rule now p ≡ 0) ↔ OpenPlace σ α cs p
  unfolding close_rule
  close_iff p = (
    λ h. let a = session_done now p (λ s. 0) h in there p a.session a.found,
    λ g. let (s, e, k) = session_of_lem p g in session_granted σ now known p s e (λ s. 0) refl,
  )

  -- ---- take and drop

  drop_iff : (p r : ℕ) → (drop_rule σ now p r ≡ 0) ↔ MayDrop σ α cs p r
  unfolding drop_rule unless
  drop_iff p r = (
    λ h.
        let a = session_done now p _ h in
        record { session = there p a.session a.found; role = dropping σ r a.done },
    λ g.
        let (s, e, k) = session_of_lem p g.session in
        session_granted σ now known p s e _ (rw ((among_iff σ.roles r).1 g.role)),
  )

  take_iff : PartialOrder σ.labels σ.dominates → (p r : ℕ) → (take_rule σ (assigned_by σ α cs) now p r ≡ 0) ↔ MayTake σ α cs p r
  unfolding take_rule unless
  take_iff order p r = (
    λ h.
        let a = session_done now p _ h in
        let s = a.session in
        let (w, b, c) = taking σ (assigned_by σ α cs) r s a.done in
        let (i, j) = (fitting_by_iff σ order s.label r).0 c in
        record { session = there p s a.found; role = w; member = (entitled_by_iff σ (assigned_by σ α cs) s.user r).0 b; reads = i; writes = j },
    λ g.
        let (s, e, (u, l)) = session_of_lem p g.session in
        let b = (entitled_by_iff σ (assigned_by σ α cs) g.session.user r).1 g.member in
        let c = (fitting_by_iff σ order g.session.label r).1 (g.reads, g.writes) in
        session_granted σ now known p s e _ (rw ((among_iff σ.roles r).1 g.role, u, l, b, c)),
  )

  -- ---- read and write

  gives_by_iff : (m p o : ℕ) (s : Session) → now p ≡ some s → (gives_by σ m s o ≡ true) ↔ ((r : ℕ) × Holds σ α cs p r × (may σ m r o ≡ true))
  gives_by_iff m p o s e = (
    λ h. let (r, w, a, b) = (gives_iff σ m s o).0 h in (r, (holds_iff σ α cs p r).0 (rw e a), b),
    λ (r, k, b).
        let a : s.held r ≡ true = rw e at ((holds_iff σ α cs p r).1 k) in
        (gives_iff σ m s o).1 (r, ((admitted σ now known p s e).roles r a).0, a, b),
  )

  part_iff : (m size p o k n : ℕ) → (part_rule σ m now size p o k n ≡ 0) ↔ MayUse σ α cs m size p o k n
  unfolding part_rule unless
  part_iff m size p o k n = (
    λ h.
        let a = part_done σ m now size p o k n h in
        record {
          session = there p a.session a.found;
          card = a.card;
          role = (gives_by_iff m p o a.session a.found).0 a.used;
          in_card = a.in_card;
          in_store = a.in_store;
        },
    λ g.
        let (s, e, same) = session_of_lem p g.session in
        session_granted σ now known p s e _
        (rw (
          (among_iff σ.cards o).1 g.card,
          (gives_by_iff m p o s e).1 g.role,
          le-leb (k + n) 64 g.in_card,
          le-leb (64 * σ.cards) size g.in_store,
        )),
  )

-- ---- demand 2

pub rule_iff : (σ : Settings) (α : Relation) → PartialOrder σ.labels σ.dominates → (size : ℕ) (cs : List Call) (c : Call) → (rule σ size (standing σ (begun α) cs) c ≡ 0) ↔ Granted σ α size cs c
unfolding rule
rule_iff σ α a size cs (opens p u l) = open_iff σ α cs p u l
rule_iff σ α a size cs (closes p) = close_iff σ α cs p
rule_iff σ α a size cs (takes p r) = take_iff σ α cs a p r
rule_iff σ α a size cs (drops p r) = drop_iff σ α cs p r
rule_iff σ α a size cs (reads p o k n) = part_iff σ α cs 1 size p o k n
rule_iff σ α a size cs (writes p o k bytes) = part_iff σ α cs 2 size p o k (length bytes)

-- this call may be lent another store than the calls so far
pub done_iff : {f : List ℕ} → Accepted f → (a : Start f) (store : List ℕ) (cs : List Call) (lent : List ℕ) (c : Call)
    → (number (record { state = (left a store cs).state; store = lent }) c ≡ 0) ↔ Granted (settings f) (assigned f) (length lent) cs c
done_iff {f} accepted a store cs lent c =
    let e = answers accepted a store cs lent c in
    let i = rule_iff (settings f) (assigned f) accepted.lawful.dominance (length lent) cs c in
    (λ h. i.0 (sym e ∙ h), λ g. e ∙ i.1 g)

-- What the rules have seen to of every session: its place, user, label and roles are in range, and each role held fits its label. Assumes nothing.
use Rattle.std.proofs.Common.{ℕ, ◌+◌, ◌*◌, ◌≤◌, ◌≡◌, refl, ◌↔◌, ⊎_elim, Bool, true, not, arith, leb, eqb, eqb-true, leb-true}
use mathlib.Core.Bool.{false≢true}
use mathlib.Core.Option.{Option, none, some, map}
use Rattle.search.specs.Search.{among, Among}
use Rattle.search.proofs.Truth.{or_iff, and-iff, among_iff}
use Rattle.search.proofs.Found.{some_both}
use Rattle.order.specs.Closure.{Relation}
use Rattle.policy.specs.Settings.{Settings}
use Rattle.policy.specs.Policy.{may}
use Rattle.monitor.specs.Calls.{unless}
use Rattle.monitor.specs.Runs.{Call, opens, closes, takes, drops, reads, writes}
use Rattle.monitor.specs.Places.{is_free, put}
use Rattle.monitor.specs.Rules.{Session, Sessions, no_sessions, session_rule, at_session_by, entitled_by, fitting_by, gives_by, open_rule, close_rule, take_rule, drop_rule, part_rule, session_of, holding, without, stand, sessions_after}
use Rattle.monitor.proofs.Answers.{unless_done, either_way}
use Rattle.monitor.proofs.Places.{put_everywhere}

pub record Admitted (σ : Settings) (p : ℕ) (s : Session) : Type 0 where
  pub place : Among 64 p
  pub user : Among σ.users s.user
  pub label : Among σ.labels s.label
  pub roles : (r : ℕ) → s.held r ≡ true → Among σ.roles r × (fitting_by σ s.label r ≡ true)

abbrev pub Known : Settings → ℕ → Option Session → Type 0
Known σ p none = Unit {0}
Known σ p (some s) = Admitted σ p s

abbrev pub Orderly : Settings → Sessions → Type 0
Orderly σ t = (p : ℕ) → Known σ p (t p)

pub no_sessions_orderly : (σ : Settings) → Orderly σ no_sessions
no_sessions_orderly σ p = tt

orderly_put : (σ : Settings) (t : Sessions) (p : ℕ) (s : Option Session) → Orderly σ t → Known σ p s → Orderly σ (put t p s)
orderly_put σ t p s known new = put_everywhere (Known σ) t p s new (λ q n. known q)

-- ---- what a rule that is done tells

pub record Opening (σ : Settings) (t : Sessions) (p u l : ℕ) : Type 0 where
  pub place : Among 64 p
  pub free : is_free (t p) ≡ true
  pub user : Among σ.users u
  pub label : Among σ.labels l
  pub cleared : σ.dominates (σ.clearance u) l ≡ true

pub opening : (σ : Settings) (t : Sessions) (p u l : ℕ) → open_rule σ t p u l ≡ 0 → Opening σ t p u l
unfolding open_rule
opening σ t p u l h =
    let a = unless_done (among 64 p) 22 _ (omega arith) h in
    let b = unless_done (is_free (t p)) 23 _ (omega arith) a.1 in
    let c = unless_done (among σ.users u) 25 _ (omega arith) b.1 in
    let d = unless_done (among σ.labels l) 25 _ (omega arith) c.1 in
    let e = unless_done (σ.dominates (σ.clearance u) l) 26 _ (omega arith) d.1 in
    record {
      place = (among_iff 64 p).0 a.0;
      free = b.0;
      user = (among_iff σ.users u).0 c.0;
      label = (among_iff σ.labels l).0 d.0;
      cleared = e.0;
    }

-- the converse
pub opening_done : (σ : Settings) (t : Sessions) (p u l : ℕ) → Opening σ t p u l → open_rule σ t p u l ≡ 0
unfolding open_rule unless
opening_done σ t p u l o =
    rw ((among_iff 64 p).1 o.place, o.free, (among_iff σ.users u).1 o.user, (among_iff σ.labels l).1 o.label, o.cleared)

-- the place has a session
pub record At (t : Sessions) (p : ℕ) (rule : Session → ℕ) : Type 0 where
  pub place : Among 64 p
  pub session : Session
  pub found : t p ≡ some session
  pub done : rule session ≡ 0

pub session_done : (t : Sessions) (p : ℕ) (rule : Session → ℕ) → at_session_by t p rule ≡ 0 → At t p rule
session_done t p rule h =
    let a = unless_done (among 64 p) 22 (session_rule (t p) rule) (omega arith) h in
    there ((among_iff 64 p).0 a.0) (t p) refl a.1
  where
    there : Among 64 p → (s : Option Session) → t p ≡ s → session_rule s rule ≡ 0 → At t p rule
    there w none e d = absurd (omega arith)
    there w (some s) e d = record { place = w; session = s; found = e; done = d }

module _ (σ : Settings) (t : Sessions) (known : Orderly σ t) (p : ℕ) (s : Session) (found : t p ≡ some s) where
  -- a session is one that the rules have seen to
  pub admitted : Admitted σ p s
  admitted = rw found at (known p)

  -- the converse of `session_done`
  pub session_granted : (rule : Session → ℕ) → rule s ≡ 0 → at_session_by t p rule ≡ 0
  unfolding unless
  session_granted rule h = rw ((among_iff 64 p).1 admitted.place, found) h

pub taking : (σ : Settings) (α : Relation) (r : ℕ) (s : Session) → unless (among σ.roles r) 25 (unless (entitled_by σ α s.user r) 27 (unless (fitting_by σ s.label r) 28 0)) ≡ 0
    → Among σ.roles r × (entitled_by σ α s.user r ≡ true) × (fitting_by σ s.label r ≡ true)
taking σ α r s h =
    let a = unless_done (among σ.roles r) 25 _ (omega arith) h in
    let b = unless_done (entitled_by σ α s.user r) 27 _ (omega arith) a.1 in
    let c = unless_done (fitting_by σ s.label r) 28 _ (omega arith) b.1 in
    ((among_iff σ.roles r).0 a.0, b.0, c.0)

pub dropping : (σ : Settings) (r : ℕ) → unless (among σ.roles r) 25 0 ≡ 0 → Among σ.roles r
dropping σ r h = (among_iff σ.roles r).0 (unless_done (among σ.roles r) 25 0 (omega arith) h).0

-- the roles held give the use of a card exactly where one of them may
pub gives_iff : (σ : Settings) (m : ℕ) (s : Session) (o : ℕ) → (gives_by σ m s o ≡ true) ↔ ((r : ℕ) × Among σ.roles r × (s.held r ≡ true) × (may σ m r o ≡ true))
unfolding gives_by
gives_iff σ m s o = some_both s.held (λ r. may σ m r o) σ.roles

-- a read or a write that is done
pub record Using (σ : Settings) (m : ℕ) (t : Sessions) (size p o k n : ℕ) : Type 0 where
  pub session : Session
  pub found : t p ≡ some session
  pub card : Among σ.cards o
  pub used : gives_by σ m session o ≡ true
  pub in_card : k + n ≤ 64
  pub in_store : 64 * σ.cards ≤ size

pub part_done : (σ : Settings) (m : ℕ) (t : Sessions) (size p o k n : ℕ) → part_rule σ m t size p o k n ≡ 0 → Using σ m t size p o k n
unfolding part_rule
part_done σ m t size p o k n h =
    let a = session_done t p _ h in
    let (i, b) = unless_done (among σ.cards o) 25 _ (omega arith) a.done in
    let (j, c) = unless_done (gives_by σ m a.session o) 29 _ (omega arith) b in
    let (x, d) = unless_done (leb (k + n) 64) 30 _ (omega arith) c in
    let (y, z) = unless_done (leb (64 * σ.cards) size) 31 _ (omega arith) d in
    record {
      session = a.session;
      found = a.found;
      card = (among_iff σ.cards o).0 i;
      used = j;
      in_card = leb-true (k + n) 64 x;
      in_store = leb-true (64 * σ.cards) size y;
    }

-- ---- each call keeps it so

-- a session with other roles, each in range and fitting its label
pub with_roles : (σ : Settings) (p : ℕ) (s : Session) (held : ℕ → Bool) → Admitted σ p s → ((r : ℕ) → held r ≡ true → Among σ.roles r × (fitting_by σ s.label r ≡ true))
    → Admitted σ p (record { user = s.user; label = s.label; held = held })
with_roles σ p s held a fit = record { place = a.place; user = a.user; label = a.label; roles = fit }

module _ (σ : Settings) (α : Relation) (t : Sessions) (known : Orderly σ t) where
  pub orderly_next : (c : Call) → Orderly σ (sessions_after σ (stand α t) c)
  unfolding sessions_after close_rule take_rule drop_rule
  orderly_next (opens p u l) = either_way (Orderly σ) (open_rule σ t p u l) (put t p (some (session_of u l))) t
      (λ h.
      let o = opening σ t p u l h in
      orderly_put σ t p (some (session_of u l)) known
      (record { place = o.place; user = o.user; label = o.label; roles = λ r e. absurd (false≢true e) }))
      known
  orderly_next (closes p) = either_way (Orderly σ) (close_rule t p) (put t p none) t (λ h. orderly_put σ t p none known tt) known
  orderly_next (takes p r) = either_way (Orderly σ) (take_rule σ α t p r) (put t p (map (holding r) (t p))) t
      (λ h.
      let a = session_done t p _ h in
      let s = a.session in
      let (w, b, c) = taking σ α r s a.done in
      let m = admitted σ t known p s a.found in
      orderly_put σ t p (map (holding r) (t p)) known
      (rw a.found (with_roles σ p s (holding r s).held m (λ q e.
      ⊎_elim (m.roles q) (λ i. rw (eqb-true q r i) (w, c)) ((or_iff (s.held q) (eqb q r)).0 e)))))
      known
  orderly_next (drops p r) = either_way (Orderly σ) (drop_rule σ t p r) (put t p (map (without r) (t p))) t
      (λ h.
      let a = session_done t p _ h in
      let s = a.session in
      let m = admitted σ t known p s a.found in
      orderly_put σ t p (map (without r) (t p)) known
      (rw a.found (with_roles σ p s (without r s).held m (λ q e. m.roles q ((and-iff (s.held q) (not (eqb q r))).0 e).0))))
      known
  orderly_next (reads p o k n) = known
  orderly_next (writes p o k bytes) = known

-- "Sessions" in the policy's own terms: what each call is answered by the settings, by what stands (assignments and sessions) and by the length of the store it is lent, and by nothing
-- else. `answers` under proofs/ shows that the calls are answered so on every state that a load of a file and any calls left. Assumes nothing.
use Rattle.std.specs.Prelude.{ℕ, ◌+◌, ◌*◌, List, [], ◌∷◌, Bool, false, not, ◌&&◌, ◌||◌, leb, eqb, length}
use Rattle.std.proofs.Math.Option.{Option, none, some, map}
use Rattle.search.specs.Search as search
use Rattle.search.specs.Search.{among}
use Rattle.order.specs.Closure.{Relation}
use Rattle.policy.specs.Settings.{Settings}
use Rattle.policy.specs.Policy.{may, r_level, w_level, passes}
use Rattle.monitor.specs.Calls.{unless, if_done}
use Rattle.monitor.specs.Runs.{Call, opens, closes, takes, drops, reads, writes}
use Rattle.monitor.specs.Places.{Places, all_free, is_free, put}

-- ---- the session at each place, by the calls so far

-- the user and the label of its opening, and the roles taken and not dropped since
pub record Session : Type 0 where
  pub user : ℕ
  pub label : ℕ
  pub held : ℕ → Bool

-- the session at each place
abbrev pub Sessions : Type 0
Sessions = Places Session

abbrev pub no_sessions : Sessions
no_sessions = all_free

-- what stands, and a call may change: who is assigned to which role, and the session at each place. (No call changes the assignments yet.)
pub record Standing : Type 0 where
  pub assigned : Relation
  pub sessions : Sessions

abbrev pub stand : Relation → Sessions → Standing
stand α t = record { assigned = α; sessions = t }

-- at first there is no session
abbrev pub begun : Relation → Standing
begun α = stand α no_sessions

-- 24 where the place has no session; else what is asked of the session
abbrev pub session_rule : Option Session → (Session → ℕ) → ℕ
session_rule none asks = 24
session_rule (some s) asks = asks s

-- what a call at a place asks first, that it has a session
abbrev pub at_session_by : Sessions → ℕ → (Session → ℕ) → ℕ
at_session_by t p asks = unless (among 64 p) 22 (session_rule (t p) asks)

-- ---- the rules, which `entitled`, `fitting` and `gives` of Session ask by the state's bytes

-- "the user is assigned to it or to a senior of it"; a role is a senior of itself
unfoldable pub entitled_by : Settings → Relation → ℕ → ℕ → Bool
entitled_by σ α u r = search.some σ.roles (λ q. α u q && σ.senior q r)

-- "the session's label dominates its r-level, and its w-level dominates the session's label"
unfoldable pub fitting_by : Settings → ℕ → ℕ → Bool
fitting_by σ l r = passes (σ.dominates l) (r_level σ r) && passes (λ a. σ.dominates a l) (w_level σ r)

-- "A session may use the permissions of all roles it holds, inherited ones included": to read (m = 1) or write (m = 2) card o
unfoldable pub gives_by : Settings → ℕ → Session → ℕ → Bool
gives_by σ m s o = search.some σ.roles (λ r. s.held r && may σ m r o)

-- ---- the number of each call

unfoldable pub open_rule : Settings → Sessions → ℕ → ℕ → ℕ → ℕ
open_rule σ t p u l =
    unless (among 64 p) 22
    (unless (is_free (t p)) 23
    (unless (among σ.users u) 25
    (unless (among σ.labels l) 25
    (unless (σ.dominates (σ.clearance u) l) 26
    0))))

unfoldable pub close_rule : Sessions → ℕ → ℕ
close_rule t p = at_session_by t p (λ s. 0)

unfoldable pub take_rule : Settings → Relation → Sessions → ℕ → ℕ → ℕ
take_rule σ α t p r =
    at_session_by t p (λ s.
    unless (among σ.roles r) 25
    (unless (entitled_by σ α s.user r) 27
    (unless (fitting_by σ s.label r) 28
    0)))

unfoldable pub drop_rule : Settings → Sessions → ℕ → ℕ → ℕ
drop_rule σ t p r = at_session_by t p (λ s. unless (among σ.roles r) 25 0)

-- n bytes from offset k on of card o of a store of `size` bytes, to be read or written
unfoldable pub part_rule : Settings → ℕ → Sessions → ℕ → ℕ → ℕ → ℕ → ℕ → ℕ
part_rule σ m t size p o k n =
    at_session_by t p (λ s.
    unless (among σ.cards o) 25
    (unless (gives_by σ m s o) 29
    (unless (leb (k + n) 64) 30
    (unless (leb (64 * σ.cards) size) 31
    0))))

unfoldable pub rule : Settings → ℕ → Standing → Call → ℕ
rule σ size now (opens p u l) = open_rule σ now.sessions p u l
rule σ size now (closes p) = close_rule now.sessions p
rule σ size now (takes p r) = take_rule σ now.assigned now.sessions p r
rule σ size now (drops p r) = drop_rule σ now.sessions p r
rule σ size now (reads p o k n) = part_rule σ 1 now.sessions size p o k n
rule σ size now (writes p o k bytes) = part_rule σ 2 now.sessions size p o k (length bytes)

-- ---- the session at each place after a call

abbrev pub session_of : ℕ → ℕ → Session
session_of u l = record { user = u; label = l; held = λ r. false }

abbrev pub holding : ℕ → Session → Session
holding r s = record { user = s.user; label = s.label; held = λ q. s.held q || eqb q r }

abbrev pub without : ℕ → Session → Session
without r s = record { user = s.user; label = s.label; held = λ q. s.held q && not (eqb q r) }

unfoldable pub sessions_after : Settings → Standing → Call → Sessions
sessions_after σ now (opens p u l) = if_done (open_rule σ now.sessions p u l) (put now.sessions p (some (session_of u l))) now.sessions
sessions_after σ now (closes p) = if_done (close_rule now.sessions p) (put now.sessions p none) now.sessions
sessions_after σ now (takes p r) = if_done (take_rule σ now.assigned now.sessions p r) (put now.sessions p (map (holding r) (now.sessions p))) now.sessions
sessions_after σ now (drops p r) = if_done (drop_rule σ now.sessions p r) (put now.sessions p (map (without r) (now.sessions p))) now.sessions
sessions_after σ now (reads p o k n) = now.sessions
sessions_after σ now (writes p o k bytes) = now.sessions

-- ---- what the rules go by after a call

abbrev pub next : Settings → Standing → Call → Standing
next σ now c = stand now.assigned (sessions_after σ now c)

-- after a list of calls
unfoldable pub standing : Settings → Standing → List Call → Standing
standing σ now [] = now
standing σ now (c ∷ cs) = standing σ (next σ now c) cs

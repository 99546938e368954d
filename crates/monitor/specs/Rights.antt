-- What a user could do at a label: whether some role that the user may take there gives a read or a write of a card. By the state's bytes, as `monitor_can` answers, and by the
-- settings. `can_answers` and `can_iff` under proofs/ tie the two, and the session calls. And by the rules, whether a user can take a role in any session at all. Assumes nothing.
use Rattle.std.specs.Prelude.{ℕ, ◌≡◌, List, [], Bool, ◌&&◌, cond, eqb}
use Rattle.search.specs.Search.{among, some}
use Rattle.roleset.specs.Row.{member, row_of}
use Rattle.order.specs.Closure.{Relation}
use Rattle.policy.specs.Settings.{Settings}
use Rattle.policy.specs.Policy.{may}
use Rattle.policy.specs.Tables.{table_of}
use Rattle.monitor.specs.Session.{sound, labels_in, roles_in, users_in, cards_in, cleared, entitled, fitting}
use Rattle.monitor.specs.Calls.{unless, Figured}
use Rattle.monitor.specs.Runs.{Call, opens, takes, reads, writes, Memory, number, after}
use Rattle.monitor.specs.Rules.{entitled_by, fitting_by, begun, rule, standing}
use Rattle.monitor.specs.Granted.{OpenFor}

-- ---- by the state's bytes

unfoldable pub can_number : List ℕ → ℕ → ℕ → ℕ → ℕ → ℕ
can_number xs u l o m =
    unless (sound xs) 21
    (unless (among (users_in xs) u) 25
    (unless (among (labels_in xs) l) 25
    (unless (among (cards_in xs) o) 25
    (unless (among 2 m) 25
    (unless (cleared xs u l) 26
    0)))))

-- the user may take role r at the label, and it gives the card by the table at `at`
unfoldable pub role_could : List ℕ → ℕ → ℕ → ℕ → ℕ → ℕ → Bool
role_could xs u l o at r = entitled xs u r && (fitting xs l r && member xs (row_of at o) r)

-- one of the state's roles could
unfoldable pub could : List ℕ → ℕ → ℕ → ℕ → ℕ → Bool
could xs u l o at = some (roles_in xs) (role_could xs u l o at)

-- the answer of `monitor_can`: its number, and the figure 1 where the user could, else 0
abbrev pub Cans : List ℕ → ℕ → ℕ → ℕ → ℕ → ℕ → ℕ → Type 0
Cans xs u l o m = Figured (can_number xs u l o m) (cond (could xs u l o (table_of m)) 1 0)

-- ---- by the settings

-- the number of `monitor_can` on a state that a load and any calls left
unfoldable pub can_rule : Settings → ℕ → ℕ → ℕ → ℕ → ℕ
can_rule σ u l o m =
    unless (among σ.users u) 25
    (unless (among σ.labels l) 25
    (unless (among σ.cards o) 25
    (unless (among 2 m) 25
    (unless (σ.dominates (σ.clearance u) l) 26
    0))))

-- a role that the user may take at the label may read (m = 1) or write (m = 2) the card
unfoldable pub could_by : Settings → Relation → ℕ → ℕ → ℕ → ℕ → Bool
could_by σ α u l o m = some σ.roles (λ r. entitled_by σ α u r && (fitting_by σ l r && may σ m r o))

-- ---- by the session calls: a use of the card, of no bytes

abbrev pub use_of : ℕ → ℕ → ℕ → Call
use_of m p o = cond (eqb m 1) (reads p o 0 0) (writes p o 0 [])

-- from the memory m₀, opening place p, taking role r there and using the card are answered 0, 0, 0
pub record CouldUse (m₀ : Memory) (p u l o m r : ℕ) : Type 0 where
  pub opened : number m₀ (opens p u l) ≡ 0
  pub taken : number (after m₀ (opens p u l)) (takes p r) ≡ 0
  pub used : number (after (after m₀ (opens p u l)) (takes p r)) (use_of m p o) ≡ 0

-- ---- by the rules: whether a user can take a role at all

-- after some calls a session of user u is open, at some place and label, and taking role r there is answered 0. (No call changes the assignments, and the number of a taking does not
-- depend on the store, hence size 0.)
pub record CouldTake (σ : Settings) (α : Relation) (u r : ℕ) : Type 0 where
  pub calls : List Call
  pub place : ℕ
  pub label : ℕ
  pub session : OpenFor σ α calls place u label
  pub taken : rule σ 0 (standing σ (begun α) calls) (takes place r) ≡ 0

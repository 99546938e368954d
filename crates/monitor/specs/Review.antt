-- What a state says of its users, labels, roles, cards and places: the review calls, as the field calls them, by the state's bytes. They are the server's and not a session's. They change
-- nothing and look at the policy alone, `monitor_session_at` at its place too. `Reviewed` under proofs/ says each by the settings, on every state that a load and calls left. Assumes nothing.
use Rattle.std.specs.Prelude.{ℕ, ◌≡◌, List, Bool, ◌&&◌, cond, eqb}
use Rattle.std.proofs.Math.Option.{Option, none, some}
use Rattle.search.specs.Search as search
use Rattle.search.specs.Search.{among}
use Rattle.roleset.specs.Row.{member, row_of}
use Rattle.roleset.specs.Set.{in_set, low_of, high_of}
use Rattle.order.specs.Closure.{Relation}
use Rattle.policy.specs.Settings.{Settings}
use Rattle.policy.specs.Policy.{may}
use Rattle.policy.specs.Tables.{byte_of, marked, clearances_at, card_labels_at, r_levels_at, w_levels_at, seniors_at, assigned_at, table_of}
use Rattle.monitor.specs.Session.{sound, labels_in, roles_in, users_in, cards_in, user_at, label_at, held_at, cleared, entitled, fitting}
use Rattle.monitor.specs.Calls.{unless, if_done, state_number, close_number, Figured}
use Rattle.monitor.specs.Rules.{Session, entitled_by, fitting_by}

-- 21, then 25 where a user, label, role, card or mode that was handed in is out of its range
unfoldable pub review_number : List ℕ → Bool → ℕ
review_number xs in_range = unless (sound xs) 21 (unless in_range 25 0)

-- ---- what there is: on a refusal every number but the first is 0

pub record CountsOf (xs : List ℕ) (n a b c d : ℕ) : Type 0 where
  pub number : n ≡ state_number xs
  pub labels : a ≡ if_done (state_number xs) (labels_in xs) 0
  pub roles : b ≡ if_done (state_number xs) (roles_in xs) 0
  pub users : c ≡ if_done (state_number xs) (users_in xs) 0
  pub cards : d ≡ if_done (state_number xs) (cards_in xs) 0

-- the session at a place: 21, 22, 24 as a closing; the roles that it holds as two numbers
pub record SessionOf (xs : List ℕ) (p n u l a b : ℕ) : Type 0 where
  pub number : n ≡ close_number xs p
  pub user : u ≡ if_done (close_number xs p) (user_at xs p) 0
  pub label : l ≡ if_done (close_number xs p) (label_at xs p) 0
  pub low : a ≡ if_done (close_number xs p) (low_of (member xs (held_at p))) 0
  pub high : b ≡ if_done (close_number xs p) (high_of (member xs (held_at p))) 0

-- ---- one figure: a label, a level, or 1 for yes and 0 for no

abbrev pub ClearanceOf : List ℕ → ℕ → ℕ → ℕ → Type 0
ClearanceOf xs u = Figured (review_number xs (among (users_in xs) u)) (byte_of xs clearances_at u)

abbrev pub CardLabelOf : List ℕ → ℕ → ℕ → ℕ → Type 0
CardLabelOf xs o = Figured (review_number xs (among (cards_in xs) o)) (byte_of xs card_labels_at o)

-- where the r-levels (m = 1) or the w-levels (m = 2) stand
abbrev pub levels_of : ℕ → ℕ
levels_of m = cond (eqb m 1) r_levels_at w_levels_at

-- a label, 0 free, 99 undefined
abbrev pub LevelOf : List ℕ → ℕ → ℕ → ℕ → ℕ → Type 0
LevelOf xs r m = Figured (review_number xs (among (roles_in xs) r && among 2 m)) (byte_of xs (levels_of m) r)

-- label a dominates label b
abbrev pub Dominates : List ℕ → ℕ → ℕ → ℕ → ℕ → Type 0
Dominates xs a b = Figured (review_number xs (among (labels_in xs) a && among (labels_in xs) b)) (cond (marked xs a b) 1 0)

-- role r is a senior of role q, or the same
abbrev pub SeniorTo : List ℕ → ℕ → ℕ → ℕ → ℕ → Type 0
SeniorTo xs r q = Figured (review_number xs (among (roles_in xs) r && among (roles_in xs) q)) (cond (member xs (row_of seniors_at q) r) 1 0)

-- the user is assigned to the role itself
abbrev pub AssignedTo : List ℕ → ℕ → ℕ → ℕ → ℕ → Type 0
AssignedTo xs u r = Figured (review_number xs (among (users_in xs) u && among (roles_in xs) r)) (cond (member xs (row_of assigned_at u) r) 1 0)

-- ---- what a user may take at a label, and what a set of roles gives

unfoldable pub takable_number : List ℕ → ℕ → ℕ → ℕ
takable_number xs u l =
    unless (sound xs) 21
    (unless (among (users_in xs) u) 25
    (unless (among (labels_in xs) l) 25
    (unless (cleared xs u l) 26
    0)))

-- a session of the user at the label may take the role
unfoldable pub takable_in : List ℕ → ℕ → ℕ → ℕ → Bool
takable_in xs u l r = among (roles_in xs) r && (entitled xs u r && fitting xs l r)

pub record TakableOf (xs : List ℕ) (u l n a b : ℕ) : Type 0 where
  pub number : n ≡ takable_number xs u l
  pub low : a ≡ if_done (takable_number xs u l) (low_of (takable_in xs u l)) 0
  pub high : b ≡ if_done (takable_number xs u l) (high_of (takable_in xs u l)) 0

-- a role of the set gives the read (m = 1) or the write (m = 2) of the card
unfoldable pub gives_in : List ℕ → ℕ → ℕ → ℕ → ℕ → Bool
gives_in xs low high o m = search.some 128 (λ r. member xs (row_of (table_of m) o) r && in_set low high r)

-- to a session at the label, which today makes no difference
abbrev pub GivesOf : List ℕ → ℕ → ℕ → ℕ → ℕ → ℕ → ℕ → ℕ → Type 0
GivesOf xs low high l o m =
    Figured (review_number xs (among (labels_in xs) l && (among (cards_in xs) o && among 2 m))) (cond (gives_in xs low high o m) 1 0)

-- ---- the same by the settings σ, the assignments α and the session at each place

-- what is told of a session, or 0
abbrev pub of_session : Option Session → (Session → ℕ) → ℕ
of_session none told = 0
of_session (some s) told = told s

unfoldable pub takable_rule : Settings → ℕ → ℕ → ℕ
takable_rule σ u l =
    unless (among σ.users u) 25
    (unless (among σ.labels l) 25
    (unless (σ.dominates (σ.clearance u) l) 26
    0))

unfoldable pub takable_by : Settings → Relation → ℕ → ℕ → ℕ → Bool
takable_by σ α u l r = among σ.roles r && (entitled_by σ α u r && fitting_by σ l r)

unfoldable pub set_gives_by : Settings → ℕ → ℕ → ℕ → ℕ → Bool
set_gives_by σ low high o m = search.some σ.roles (λ r. in_set low high r && may σ m r o)

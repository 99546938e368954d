-- The places of a state, and what the calls read of a state. Every accessor is total: a byte past the end is 0. Assumes nothing.
use Rattle.std.specs.Prelude.{ℕ, ◌+◌, ◌*◌, ◌-◌, List, Bool, ◌&&◌, eqb, get_or}
use Rattle.roleset.specs.Row.{row_of, common}
use Rattle.rolefile.specs.Form.{within_limits}
use Rattle.policy.specs.Tables.{label_count_at, role_count_at, user_count_at, card_count_at, word, byte_of, marked, is_state, passes_in, clearances_at, r_levels_at, w_levels_at, seniors_at, assigned_at}

-- ---- counts

abbrev pub labels_in : List ℕ → ℕ
labels_in xs = word xs label_count_at

abbrev pub roles_in : List ℕ → ℕ
roles_in xs = word xs role_count_at

abbrev pub users_in : List ℕ → ℕ
users_in xs = word xs user_count_at

abbrev pub cards_in : List ℕ → ℕ
cards_in xs = word xs card_count_at

-- what 21 tests: 65,536 bytes, and the counts as in 3
unfoldable pub sound : List ℕ → Bool
sound xs = is_state xs && within_limits (labels_in xs) (roles_in xs) (users_in xs) (cards_in xs)

-- ---- places, document 01's word for the 64 numbered entries that hold a session each: 20 bytes, 1 where in use, the user less 1, the label, 0, and the row of held roles

abbrev pub places_at : ℕ
places_at = 61456

abbrev pub place_at : ℕ → ℕ
place_at p = places_at + 20 * (p - 1)

unfoldable pub in_use : List ℕ → ℕ → Bool
in_use xs p = eqb (get_or xs (place_at p) 0) 1

unfoldable pub user_at : List ℕ → ℕ → ℕ
user_at xs p = get_or xs (place_at p + 1) 0 + 1

unfoldable pub label_at : List ℕ → ℕ → ℕ
label_at xs p = get_or xs (place_at p + 2) 0

abbrev pub held_at : ℕ → ℕ
held_at p = place_at p + 4

-- ---- what the rules ask

-- "a label that the clearance dominates"
unfoldable pub cleared : List ℕ → ℕ → ℕ → Bool
cleared xs u l = marked xs (byte_of xs clearances_at u) l

-- "the user is assigned to it or to a senior of it"
unfoldable pub entitled : List ℕ → ℕ → ℕ → Bool
entitled xs u r = common xs (row_of assigned_at u) (row_of seniors_at r)

-- "the session's label dominates its r-level, and its w-level dominates the session's label"
unfoldable pub fitting : List ℕ → ℕ → ℕ → Bool
fitting xs l r =
    let reads = byte_of xs r_levels_at r in
    let writes = byte_of xs w_levels_at r in
    passes_in xs reads l reads && passes_in xs writes writes l

-- a role that place p holds gives the read, or the write, of card o: `at` is the table of its readers, or of its writers
unfoldable pub gives : List ℕ → ℕ → ℕ → ℕ → Bool
gives xs at p o = common xs (held_at p) (row_of at o)

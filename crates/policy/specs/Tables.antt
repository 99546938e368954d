-- The counts and tables of a policy in a list of bytes: where each stands, and how it is read. Assumes nothing.
use Rattle.std.specs.Prelude.{ℕ, ◌+◌, ◌*◌, ◌-◌, min, List, Bool, not, ◌&&◌, ◌||◌, cond, leb, eqb, length, get_or}
use Rattle.search.specs.Search.{among, some}
use Rattle.roleset.specs.Row.{member, row_of}
use Rattle.order.specs.Closure.{Relation, circle}

-- ---- where the counts and the tables start

abbrev pub label_count_at : ℕ
label_count_at = 0

abbrev pub role_count_at : ℕ
role_count_at = 2

abbrev pub user_count_at : ℕ
user_count_at = 4

abbrev pub card_count_at : ℕ
card_count_at = 6

abbrev pub dominance_at : ℕ
dominance_at = 16

abbrev pub clearances_at : ℕ
clearances_at = 1040

abbrev pub card_labels_at : ℕ
card_labels_at = 1296

abbrev pub r_levels_at : ℕ
r_levels_at = 1808

abbrev pub w_levels_at : ℕ
w_levels_at = 1936

abbrev pub seniors_at : ℕ
seniors_at = 2064

abbrev pub assigned_at : ℕ
assigned_at = 4112

abbrev pub readers_at : ℕ
readers_at = 12304

abbrev pub writers_at : ℕ
writers_at = 20496

-- where the table starts of those who may read, mode 1, or write, mode 2; used only where m is 1 or 2
abbrev pub table_of : ℕ → ℕ
table_of m = cond (eqb m 1) readers_at writers_at

-- the state's size
abbrev pub state_size : ℕ
state_size = 65536

-- ---- how they are read

-- two bytes, the lower first
abbrev pub word : List ℕ → ℕ → ℕ
word xs at = get_or xs at 0 + 256 * get_or xs (at + 1) 0

-- thing x's byte in a table of bytes
abbrev pub byte_of : List ℕ → ℕ → ℕ → ℕ
byte_of xs at x = get_or xs (at + (x - 1)) 0

-- where the mark of label a over label b stands
abbrev pub mark_at : ℕ → ℕ → ℕ
mark_at a b = dominance_at + (32 * (a - 1) + (b - 1))

-- the marks of dominance
abbrev pub marked : List ℕ → Relation
marked xs a b = among 32 a && (among 32 b && eqb (get_or xs (mark_at a b) 0) 1)

-- ---- role flow by the rows of the first n cards

-- r may write card o, and q may read or write it
abbrev pub flows_by_card : List ℕ → ℕ → ℕ → ℕ → Bool
flows_by_card xs r q o = member xs (row_of writers_at o) r && (member xs (row_of readers_at o) q || member xs (row_of writers_at o) q)

unfoldable pub flowing : List ℕ → ℕ → Relation
flowing xs n r q = not (eqb r q) && some n (flows_by_card xs r q)

-- the count at `at`, or `most` where it is higher
abbrev pub up_to : List ℕ → ℕ → ℕ → ℕ
up_to xs at most = min (word xs at) most

-- those of the roles and of the cards
abbrev pub roles_up_to : List ℕ → ℕ
roles_up_to xs = up_to xs role_count_at 128

abbrev pub cards_up_to : List ℕ → ℕ
cards_up_to xs = up_to xs card_count_at 512

-- a whole state
abbrev pub is_state : List ℕ → Bool
is_state xs = leb state_size (length xs)

-- ---- what a list of bytes tells of its roles and cards; what is too short for a state has none

-- the count at `at`, or `most` where it is higher
abbrev pub count_in : List ℕ → ℕ → ℕ → ℕ
count_in xs at most = cond (is_state xs) (up_to xs at most) 0

-- that of the roles
abbrev pub role_count : List ℕ → ℕ
role_count xs = count_in xs role_count_at 128

-- the role's byte of the table of levels at `at`
abbrev pub level_in : List ℕ → ℕ → ℕ → ℕ
level_in xs at role = cond (is_state xs && among 128 role) (byte_of xs at role) 0

abbrev pub flows_in : List ℕ → Relation
flows_in xs r q = is_state xs && flowing xs (cards_up_to xs) r q

-- the lowest role on a circle of flow, or 0
abbrev pub circle_in : List ℕ → ℕ
circle_in xs = cond (is_state xs) (circle (roles_up_to xs) (flowing xs (cards_up_to xs))) 0

-- ---- levels

-- label a dominates label b, one of which is a level: 0, a free one, always passes; 99, an undefined one, is no label and never does
abbrev pub passes_in : List ℕ → ℕ → ℕ → ℕ → Bool
passes_in xs level a b = eqb level 0 || marked xs a b

-- Sets of roles 1 to 128, each a row of 16 bytes of a list: role r is bit (r - 1) % 8 (`role_bit`) of byte (r - 1) / 8 (`role_byte`).
--     whole xs at              the row at `at` lies wholly in xs
--     row_of at x              where the row of thing x begins, in a table of rows at `at`
--     member xs at r           the row of xs at `at` holds role r
--     common xs a b            the rows at a and at b have a role in common
--     next_member xs at after  the lowest role above `after` that the row holds, or 0
--     RowCopy xs at row        `row` has the roles of the row of xs at `at`
--     AllBytes xs              each number of xs is a byte
--     Kept a b xs ys           every byte of ys but those from a up to b is xs's
--     Placed at s xs ys        ys is xs with the set s in the row at `at`, and nothing else changed
--     PlacedRows at n s xs ys  the same for n rows from `at` on
-- Assumes nothing.
use Rattle.std.specs.Prelude.{ℕ, ◌+◌, ◌-◌, ◌*◌, ◌/◌, ◌%◌, ◌^◌, ◌≤◌, ◌<◌, ◌≡◌, Bool, true, not, ◌&&◌, ◌||◌, List, leb, eqb, length, get_or}
use Rattle.search.specs.Search.{among, some, first}

-- bit j of x
abbrev pub bit : ℕ → ℕ → Bool
bit x j = eqb (x / 2 ^ j % 2) 1

-- where the row of thing x begins, in a table of rows at `at`
abbrev pub row_of : ℕ → ℕ → ℕ
row_of at x = at + 16 * (x - 1)

-- where role r stands in a row
abbrev pub role_byte : ℕ → ℕ
role_byte r = (r - 1) / 8

abbrev pub role_bit : ℕ → ℕ
role_bit r = (r - 1) % 8

abbrev pub whole : List ℕ → ℕ → Bool
whole xs at = leb (at + 16) (length xs)

unfoldable pub member : List ℕ → ℕ → ℕ → Bool
member xs at r = among 128 r && bit (get_or xs (at + role_byte r) 0) (role_bit r)

unfoldable pub common : List ℕ → ℕ → ℕ → Bool
common xs a b = whole xs a && whole xs b && some 128 (λ r. member xs a r && member xs b r)

-- r comes after `after`, and the row holds it
abbrev pub member_after : List ℕ → ℕ → ℕ → ℕ → Bool
member_after xs at after r = not (leb r after) && member xs at r

abbrev pub next_member : List ℕ → ℕ → ℕ → ℕ
next_member xs at after = first 128 (member_after xs at after)

-- the set in the row at `at` with a role where `on`, and with it; a number that is no role's changes nothing
abbrev pub added_where : List ℕ → ℕ → ℕ → Bool → ℕ → Bool
added_where xs at role on r = member xs at r || (on && (among 128 role && eqb r role))

abbrev pub added : List ℕ → ℕ → ℕ → ℕ → Bool
added xs at role = added_where xs at role true

-- without a role
abbrev pub removed : List ℕ → ℕ → ℕ → ℕ → Bool
removed xs at role r = member xs at r && not (eqb r role)

-- with another's roles
abbrev pub united : List ℕ → ℕ → List ℕ → ℕ → Bool
united xs at other r = member xs at r || member other 0 r

-- with another's roles where it holds the role k
abbrev pub united_where : List ℕ → ℕ → ℕ → List ℕ → ℕ → Bool
united_where xs at k other r = member xs at r || (member xs at k && member other 0 r)

-- with the roles of the row at `from`, which is empty where it does not lie in xs
abbrev pub joined : List ℕ → ℕ → ℕ → ℕ → Bool
joined xs into from r = member xs into r || (whole xs from && member xs from r)

-- `row` has the roles of the row at `at`, and none where it does not lie in xs
abbrev pub RowCopy : List ℕ → ℕ → List ℕ → Type 0
RowCopy xs at row = (r : ℕ) → member row 0 r ≡ (whole xs at && member xs at r)

-- each number of the list is a byte
abbrev pub AllBytes : List ℕ → Type 0
AllBytes xs = (i : ℕ) → get_or xs i 0 < 256

-- every byte but those from a up to b is as it was
abbrev pub Kept : ℕ → ℕ → List ℕ → List ℕ → Type 0
Kept a b xs ys = (i : ℕ) → (a ≤ i → b ≤ i) → get_or ys i 0 ≡ get_or xs i 0

-- a row that does not lie wholly in xs is left alone
pub record Placed (at : ℕ) (s : ℕ → Bool) (xs ys : List ℕ) : Type 0 where
  pub row : at + 16 ≤ length xs → (r : ℕ) → member ys at r ≡ s r
  pub rest : Kept at (at + 16) xs ys
  pub none : length xs < at + 16 → ys ≡ xs

-- ys is xs with the set s i in each row i of the n from `at` on, the first being row 0, and nothing else changed; where not all of them lie in xs,
-- all are left alone
pub record PlacedRows (at n : ℕ) (s : ℕ → ℕ → Bool) (xs ys : List ℕ) : Type 0 where
  pub rows : at + 16 * n ≤ length xs → (i : ℕ) → i < n → (r : ℕ) → member ys (at + 16 * i) r ≡ s i r
  pub rest : Kept at (at + 16 * n) xs ys
  pub none : length xs < at + 16 * n → ys ≡ xs

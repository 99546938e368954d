-- A field of five columns: "A number is right-justified with blanks before it, has no leading zeros, and 0 is the single digit. A field without use is
-- five blanks." Its columns are read from left to right. Assumes nothing.
use Rattle.std.specs.Prelude.{ℕ, ◌+◌, ◌*◌, ◌-◌, List, [], ◌∷◌, Bool, ◌&&◌, cond, leb, eqb, get_or}
use Rattle.search.specs.Search.{among}
use Rattle.rolefile.specs.declared.Field.{Field}
use Rattle.rolefile.specs.declared.Field.TheVariants.{Blank, Number, Bad}

-- the bytes of a blank, of the digit 0 and of the digit 9
abbrev pub blank : ℕ
blank = 32

abbrev pub digit_zero : ℕ
digit_zero = 48

abbrev pub digit_nine : ℕ
digit_nine = 57

abbrev pub is_digit : ℕ → Bool
is_digit b = leb digit_zero b && leb b digit_nine

-- one column more: after blanks a blank or a first digit; after a number, unless it is 0 or has five digits, a digit
unfoldable pub column : Field → ℕ → Field
column Blank b = cond (eqb b blank) Blank (cond (is_digit b) (Number (b - digit_zero)) Bad)
column (Number n) b = cond (is_digit b && among 9999 n) (Number (10 * n + (b - digit_zero))) Bad
column Bad b = Bad

unfoldable pub columns : Field → List ℕ → Field
columns f [] = f
columns f (b ∷ bs) = columns (column f b) bs

-- the five columns of f from `at` on
abbrev pub five : List ℕ → ℕ → List ℕ
five f at = get_or f at 0 ∷ get_or f (at + 1) 0 ∷ get_or f (at + 2) 0 ∷ get_or f (at + 3) 0 ∷ get_or f (at + 4) 0 ∷ []

abbrev pub field_at : List ℕ → ℕ → Field
field_at f at = columns Blank (five f at)

-- the number of a field by its cases, where its line's letter uses it and where not: "A field that doesn't read as a number ends its line with 2"
abbrev pub field_number : Bool → Field → ℕ
field_number used Blank = cond used 2 0
field_number used (Number n) = cond used 0 2
field_number used Bad = 2

-- and its value, for a line that it does not end
abbrev pub value : Field → ℕ
value Blank = 0
value (Number n) = n
value Bad = 0

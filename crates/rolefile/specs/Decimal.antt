-- How numbers and lines are written: "All numbers in the file are decimal. A line is 22 bytes: one letter, four fields of 5 columns, and byte 10. A
-- number is right-justified with blanks before it, has no leading zeros, and 0 is the single digit. A field without use is five blanks." Assumes nothing.
use Rattle.std.specs.Prelude.{ℕ, zero, suc, ◌+◌, ◌-◌, ◌/◌, ◌%◌, ◌<◌, ◌≡◌, List, [], ◌∷◌, ◌++◌, Bool, true, false, cond, ltb, length, replicate}
use Rattle.search.specs.Search.{Among}
use Rattle.rolefile.specs.declared.Line.{Line}
use Rattle.rolefile.specs.Field.{blank, digit_zero}
use Rattle.rolefile.specs.Line.{newline, letter_byte, field_used}

-- the last k digits of n
unfoldable pub last_digits : ℕ → ℕ → List ℕ
last_digits zero n = []
last_digits (suc k) n = cond (ltb n 10) ((digit_zero + n) ∷ []) (last_digits k (n / 10) ++ ((digit_zero + n % 10) ∷ []))

-- n has no more than n + 1 digits
unfoldable pub digits : ℕ → List ℕ
digits n = last_digits (suc n) n

-- up to k digits in k columns, with blanks before them
abbrev pub in_columns : ℕ → List ℕ → List ℕ
in_columns k ds = replicate (k - length ds) blank ++ ds

-- the five columns of a number, and those of a field without use
unfoldable pub padded : ℕ → List ℕ
padded n = in_columns 5 (digits n)

abbrev pub blanks : List ℕ
blanks = in_columns 5 []

-- ---- lines

abbrev pub columns_of : Bool → ℕ → List ℕ
columns_of used n = cond used (padded n) blanks

unfoldable pub as_written : Line → List ℕ
as_written l =
    letter_byte l.letter
    ∷ (padded l.a ++ (padded l.b ++ (columns_of (field_used 3 l.letter) l.c ++ (columns_of (field_used 4 l.letter) l.d ++ (newline ∷ [])))))

-- five columns hold the number of a field in use; that of a field without use is 0
abbrev pub FieldHolds : Bool → ℕ → Type 0
FieldHolds true n = n < 100000
FieldHolds false n = n ≡ 0

-- a line that can be written
pub record Writable (l : Line) : Type 0 where
  pub letter : Among 7 l.letter
  pub a : FieldHolds true l.a
  pub b : FieldHolds true l.b
  pub c : FieldHolds (field_used 3 l.letter) l.c
  pub d : FieldHolds (field_used 4 l.letter) l.d

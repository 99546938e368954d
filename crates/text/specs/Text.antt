-- Text put into a buffer. Assumes nothing.
use Rattle.std.specs.Prelude.{ℕ, zero, suc, ◌≤◌, ◌≡◌, List, [], ◌++◌, Option, Some, None, length, take}
use Rattle.rolefile.specs.Decimal.{last_digits, in_columns, padded, blanks}

-- the texts of the things 1 to n, one after the other
unfoldable pub each : ℕ → (ℕ → List ℕ) → List ℕ
each zero f = []
each (suc n) f = each n f ++ f (suc n)

-- those of their pairs, by the first thing and then by the second
abbrev pub each_pair : ℕ → (ℕ → ℕ → List ℕ) → List ℕ
each_pair n f = each n (λ a. each n (f a))

-- the last five digits of a number, with blanks before them where it has fewer
unfoldable pub last_five : ℕ → List ℕ
last_five n = in_columns 5 (last_digits 5 n)

-- the five columns of any number, or blanks for a field without use
abbrev pub last_columns : Option ℕ → List ℕ
last_columns None = blanks
last_columns (Some n) = last_five n

-- those of a number as it is written
abbrev pub field_columns : Option ℕ → List ℕ
field_columns None = blanks
field_columns (Some n) = padded n

-- `more` has been put into a buffer after its first `at` bytes, as far as there is room: r bytes are then in use. The rest of the buffer is not spoken of.
pub record Puts (more : List ℕ) (at : ℕ) (before : List ℕ) (r : ℕ) (after : List ℕ) : Type 0 where
  pub size : length after ≡ length before
  pub used : r ≤ length after
  pub text : take r after ≡ take (length before) (take at before ++ more)

-- A column of a number. Assumes nothing.
use Rattle.std.specs.Prelude.{ℕ, ◌+◌, ◌%◌, cond, eqb}
use Rattle.rolefile.specs.Field.{blank, digit_zero}

-- what a column before the last shows, of a number less its digits after that column: the last digit of what is left, or a blank where nothing is
abbrev pub digit_of : ℕ → ℕ
digit_of n = cond (eqb n 0) blank (digit_zero + n % 10)

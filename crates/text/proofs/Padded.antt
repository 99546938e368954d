-- The columns of a number, made digit by digit, are its last five digits with blanks before them; below 100,000 they are the number as it is written.
-- Assumes nothing.
use Prim.Native.Nat.{ℕ, zero, suc, ◌+◌, ◌-◌, ◌/◌, ◌%◌, ◌≤◌, ◌<◌}
use mathlib.Core.Path.{◌≡◌, refl}
use mathlib.Core.List.{List, [], ◌∷◌, ◌++◌, append_assoc}
use native.Mathlib.Omega.{arith}
use native.Mathlib.Decide.{dec_lt}
use native.Mathlib.Numerals.{add-one}
use Rattle.std.specs.Prelude.{Option, Some, None, IfSome}
use lib.ListN.{length, replicate, length-append, replicate-append-replicate}
use borrow.Author.Tests.{ne_eqb}
use Rattle.rolefile.specs.Decimal.{last_digits, digits, in_columns, padded}
use Rattle.rolefile.proofs.Decimals.{last_single, last_more, same_digits}
use Rattle.text.specs.Text.{last_five, last_columns, field_columns}
use Rattle.text.specs.inner.Digit.{digit_of}

-- ---- the last digits of n

pub all_digits : (n : ℕ) → n < 100000 → last_digits 5 n ≡ digits n
unfolding digits
all_digits n l = same_digits 4 (suc n) n l (omega arith)

-- ---- a number in columns

-- the last k places of m, a blank for each that it does not reach
abbrev places : ℕ → ℕ → List ℕ
places zero m = []
places (suc k) m = places k (m / 10) ++ (digit_of m ∷ [])

blank_places : (k : ℕ) → places k 0 ≡ replicate k 32
blank_places zero = refl
blank_places (suc k) = rw (blank_places k) (rw add-one at (replicate-append-replicate {A = ℕ} k 1 32))

filled_more : (k d : ℕ) (ds : List ℕ) → in_columns k ds ++ (d ∷ []) ≡ in_columns (suc k) (ds ++ (d ∷ []))
filled_more k d ds =
    let same : suc k - (length ds + 1) ≡ k - length ds = omega arith in
    rw (length-append, same, append_assoc)

-- the columns up to the last, where those before it are the digits of n / 10
last_filled : (k n : ℕ) → (1 ≤ n / 10 → places k (n / 10) ≡ in_columns k (last_digits k (n / 10)))
    → places k (n / 10) ++ ((48 + n % 10) ∷ []) ≡ in_columns (suc k) (last_digits (suc k) n)
last_filled k n before = elim (dec_lt n 10) [
  | yes s ↦
      let none : n / 10 ≡ 0 = omega arith in
      let whole : n % 10 ≡ n = omega arith in
      let one : suc k - length ((48 + n) ∷ []) ≡ k = omega arith in
      rw (last_single k n s, none, whole, blank_places k, one)
  | no s ↦ rw (last_more k n (omega arith), before (omega arith)) (filled_more k (48 + n % 10) (last_digits k (n / 10)))
]

places_filled : (k n : ℕ) → 1 ≤ n → places k n ≡ in_columns k (last_digits k n)
unfolding last_digits
places_filled zero n l = refl
places_filled (suc k) n l = rw (ne_eqb n 0 (λ e. omega arith)) (last_filled k n (places_filled k (n / 10)))

module _ (n : ℕ) where
  pub columns_last : {a b c d : ℕ} → a ≡ digit_of (n / 10000) → b ≡ digit_of (n / 1000) → c ≡ digit_of (n / 100) → d ≡ digit_of (n / 10)
      → (a ∷ b ∷ c ∷ d ∷ (48 + n % 10) ∷ []) ≡ last_five n
  unfolding last_five
  columns_last p q r s =
      let two : n / 10 / 10 ≡ n / 100 = omega arith in
      let three : n / 100 / 10 ≡ n / 1000 = omega arith in
      let four : n / 1000 / 10 ≡ n / 10000 = omega arith in
      rw (p, q, r, s) (rw (two, three, four) at (last_filled 4 n (places_filled 4 (n / 10))))

  pub last_padded : n < 100000 → last_five n ≡ padded n
  unfolding last_five padded
  last_padded l = rw (all_digits n l)

pub as_written_below : (number : Option ℕ) → IfSome number (λ n. n < 100000) → last_columns number ≡ field_columns number
as_written_below None few = refl
as_written_below (Some n) few = last_padded n few

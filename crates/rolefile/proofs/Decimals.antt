-- A field reads as the number n just where its five columns are n in decimal, as blank just where they are blanks, and as bad otherwise; and the number
-- read is also the columns' last four bits in decimal. Assumes nothing.
use Rattle.std.proofs.Common.{ℕ, zero, suc, ◌+◌, ◌*◌, ◌-◌, ◌/◌, ◌%◌, ◌^◌, ◌≤◌, ◌<◌, ◌≡◌, refl, sym, ap, ◌∙◌, ◌↔◌, List, [], ◌∷◌, ◌++◌, append_assoc, append-nil, true, ◌&&◌, arith, leb, eqb, length, replicate, length-append, lt-ltb, le-ltb, eqb-true, ne_eqb}
use native.Mathlib.Decide.{dec_lt}
use lib.ListN.{length-replicate, replicate-append-replicate}
use Rattle.search.specs.Search.{among, Among}
use Rattle.search.proofs.Truth.{leb_iff, and-iff, and_both, among_iff, either_by}
use Rattle.rolefile.specs.declared.Field.{Field}
use Rattle.rolefile.specs.declared.Field.TheVariants.{Blank, Number, Bad}
use Rattle.rolefile.specs.Field.{blank, digit_zero, digit_nine, is_digit, column, columns, five, field_at}
use Rattle.rolefile.specs.inner.Section.{figure}
use Rattle.rolefile.specs.Decimal.{last_digits, digits, padded, blanks}

-- a digit, from the digit `low` on
abbrev pub DigitFrom : ℕ → ℕ → Type 0
DigitFrom low b = (low ≤ b) × (b ≤ digit_nine)

pub digit_from_iff : (low b : ℕ) → ((leb low b && leb b digit_nine) ≡ true) ↔ DigitFrom low b
digit_from_iff low b = and_both (leb_iff low b) (leb_iff b digit_nine)

abbrev pub IsDigit : ℕ → Type 0
IsDigit = DigitFrom digit_zero

pub is_digit_iff : (b : ℕ) → (is_digit b ≡ true) ↔ IsDigit b
is_digit_iff = digit_from_iff digit_zero

-- ---- what one column more reads as

module _ (P : Field → Type 0) (bad : P Bad) where
  after_blank : (b : ℕ) → (b ≡ blank → P Blank) → (IsDigit b → P (Number (b - digit_zero))) → P (column Blank b)
  unfolding column
  after_blank b onBlank onDigit =
      either_by P (eqb b blank) Blank _ (λ p. onBlank (eqb-true b blank p)) (λ p.
      either_by P (is_digit b) (Number (b - digit_zero)) Bad (λ q. onDigit ((is_digit_iff b).0 q)) (λ q. bad))

  after_number : (n b : ℕ) → (IsDigit b → Among 9999 n → P (Number (10 * n + (b - digit_zero)))) → P (column (Number n) b)
  unfolding column
  after_number n b onDigit =
      either_by P (is_digit b && among 9999 n) (Number (10 * n + (b - digit_zero))) Bad
      (λ p. let (d, a) = (and-iff (is_digit b) (among 9999 n)).0 p in onDigit ((is_digit_iff b).0 d) ((among_iff 9999 n).0 a)) (λ p. bad)

first_column : (b : ℕ) → IsDigit b → column Blank b ≡ Number (b - digit_zero)
unfolding column
first_column b d = rw (ne_eqb b blank (omega arith), (is_digit_iff b).1 d)

next_column : (n b : ℕ) → Among 9999 n → IsDigit b → column (Number n) b ≡ Number (10 * n + (b - digit_zero))
unfolding column
next_column n b a d = rw ((is_digit_iff b).1 d, (among_iff 9999 n).1 a)

-- ---- three columns, of which the last is a digit

-- a digit that others may follow
abbrev LeadingDigit : ℕ → Type 0
LeadingDigit = DigitFrom (digit_zero + 1)

module _ (x y z : ℕ) (d : IsDigit z) where
  pub one_digit : x ≡ blank → y ≡ blank → columns Blank (x ∷ y ∷ z ∷ []) ≡ Number (z - digit_zero)
  unfolding column columns
  one_digit p q = rw (p, q) (first_column z d)

  pub two_digits : x ≡ blank → LeadingDigit y → columns Blank (x ∷ y ∷ z ∷ []) ≡ Number (10 * (y - digit_zero) + (z - digit_zero))
  unfolding column columns
  two_digits p e = rw (p, first_column y (omega arith)) (next_column (y - digit_zero) z (omega arith) d)

  pub three_digits : LeadingDigit x → IsDigit y → columns Blank (x ∷ y ∷ z ∷ []) ≡ Number (100 * (x - digit_zero) + (10 * (y - digit_zero) + (z - digit_zero)))
  unfolding columns
  three_digits e f =
      let sum : 100 * (x - digit_zero) + (10 * (y - digit_zero) + (z - digit_zero)) ≡ 10 * (10 * (x - digit_zero) + (y - digit_zero)) + (z - digit_zero) = omega arith in
      rw (first_column x (omega arith), next_column (x - digit_zero) y (omega arith) f, next_column (10 * (x - digit_zero) + (y - digit_zero)) z (omega arith) d, sum)

-- ---- the digits of n, by those of n / 10

pub last_single : (k n : ℕ) → n < 10 → last_digits (suc k) n ≡ (digit_zero + n) ∷ []
unfolding last_digits
last_single k n l = rw (lt-ltb n 10 l)

pub last_more : (k n : ℕ) → 10 ≤ n → last_digits (suc k) n ≡ last_digits k (n / 10) ++ ((digit_zero + n % 10) ∷ [])
unfolding last_digits
last_more k n l = rw (le-ltb n 10 l)

-- more places than n has digits change nothing
pub same_digits : (k m n : ℕ) → n < 10 ^ suc k → n < m → last_digits (suc k) n ≡ last_digits m n
same_digits k zero n high l = absurd (omega arith)
same_digits zero (suc m) n high l = last_single 0 n high ∙ sym (last_single m n high)
same_digits (suc k) (suc m) n high l = elim (dec_lt n 10) [
  | yes s ↦ rw (last_single (suc k) n s, last_single m n s)
  | no s ↦
      let p : 10 ≤ n = omega arith in
      rw (last_more (suc k) n p, last_more m n p, same_digits k m (n / 10) (omega arith) (omega arith))
]

power_above : (n : ℕ) → n < 10 ^ suc n
power_above zero = omega arith
power_above (suc n) = omega (arith, power_above n)

single_digit : (n : ℕ) → n < 10 → digits n ≡ (digit_zero + n) ∷ []
unfolding digits
single_digit n l = last_single n n l

more_digits : (n : ℕ) → 10 ≤ n → digits n ≡ digits (n / 10) ++ ((digit_zero + n % 10) ∷ [])
unfolding digits
more_digits n l = rw (last_more n n l, same_digits (n / 10) n (n / 10) (power_above (n / 10)) (omega arith))

pub few_digits : (k n : ℕ) → n < 10 ^ suc k → length (digits n) ≤ suc k
few_digits zero n p = rw (single_digit n p) (omega arith)
few_digits (suc k) n p = elim (dec_lt n 10) [
  | yes l ↦ rw (single_digit n l) (omega arith)
  | no l ↦ rw (more_digits n (omega arith), length-append) (omega (arith, few_digits k (n / 10) (omega arith)))
]

pub padded_length : (n : ℕ) → n < 100000 → length (padded n) ≡ 5
unfolding padded
padded_length n l = simp (length-append, length-replicate) (omega (arith, few_digits 4 n l))

-- ---- what is read is shown

-- the columns cs show what f says: blanks, or blanks and then the digits of a number
abbrev Shows : List ℕ → Field → Type 0
Shows cs Blank = (k : ℕ) × (cs ≡ replicate k blank)
Shows cs (Number n) = (k : ℕ) × (n < 100000) × (cs ≡ replicate k blank ++ digits n)
Shows cs Bad = Unit {0}

shown_first : (b : ℕ) → IsDigit b → digits (b - digit_zero) ≡ b ∷ []
shown_first b d =
    let whole : digit_zero + (b - digit_zero) ≡ b = omega arith in
    single_digit (b - digit_zero) (omega arith) ∙ rw whole

shown_next : (n b : ℕ) → 1 ≤ n → IsDigit b → digits (10 * n + (b - digit_zero)) ≡ digits n ++ (b ∷ [])
shown_next n b l d =
    let front : (10 * n + (b - digit_zero)) / 10 ≡ n = omega arith in
    let last : digit_zero + (10 * n + (b - digit_zero)) % 10 ≡ b = omega arith in
    more_digits (10 * n + (b - digit_zero)) (omega arith) ∙ rw (front, last)

shows_more : (cs : List ℕ) (f : Field) (b : ℕ) → Shows cs f → Shows (cs ++ (b ∷ [])) (column f b)
unfolding column
shows_more cs Blank b (k, e) =
    after_blank (Shows (cs ++ (b ∷ []))) tt b (λ p. (k + 1, rw (e, p) (replicate-append-replicate k 1 blank))) (λ d. (k, omega arith, rw (e, shown_first b d)))
shows_more cs (Number n) b (k, l, e) =
    after_number (Shows (cs ++ (b ∷ []))) tt n b (λ d w. (k, omega arith, rw (e, shown_next n b w.0 d, append_assoc)))
shows_more cs Bad b s = tt

shows_all : (done cs : List ℕ) (f : Field) → Shows done f → Shows (done ++ cs) (columns f cs)
unfolding columns
shows_all done [] f s = rw append-nil s
shows_all done (b ∷ cs) f s = rw append_assoc at (shows_all (done ++ (b ∷ [])) cs (column f b) (shows_more done f b s))

shows : (cs : List ℕ) → Shows cs (columns Blank cs)
shows cs = shows_all [] cs Blank (0, refl)

-- ---- what is shown is read

pub columns_append : (f : Field) (xs ys : List ℕ) → columns f (xs ++ ys) ≡ columns (columns f xs) ys
unfolding columns
columns_append f [] ys = refl
columns_append f (b ∷ xs) ys = columns_append (column f b) xs ys

blanks_read : (k : ℕ) → columns Blank (replicate k blank) ≡ Blank
unfolding columns column
blanks_read zero = refl
blanks_read (suc k) = blanks_read k

first_read : (n : ℕ) → n < 10 → column Blank (digit_zero + n) ≡ Number n
first_read n l =
    let whole : digit_zero + n - digit_zero ≡ n = omega arith in
    first_column (digit_zero + n) (omega arith) ∙ rw whole

next_read : (n : ℕ) → 10 ≤ n → n < 100000 → column (Number (n / 10)) (digit_zero + n % 10) ≡ Number n
next_read n l m =
    let whole : 10 * (n / 10) + (digit_zero + n % 10 - digit_zero) ≡ n = omega arith in
    next_column (n / 10) (digit_zero + n % 10) (omega arith) (omega arith) ∙ rw whole

digits_read : (k n : ℕ) → n < k → n < 100000 → columns Blank (digits n) ≡ Number n
unfolding columns
digits_read zero n p q = absurd (omega arith)
digits_read (suc k) n p q = elim (dec_lt n 10) [
  | yes l ↦ rw (single_digit n l) (first_read n l)
  | no l ↦
      let m : 10 ≤ n = omega arith in
      rw (more_digits n m, columns_append, digits_read k (n / 10) (omega arith) (omega arith)) (next_read n m q)
]

padded_read : (n : ℕ) → n < 100000 → columns Blank (padded n) ≡ Number n
unfolding padded
padded_read n l = rw (columns_append, blanks_read) (digits_read (suc n) n (omega arith) l)

-- ---- five columns

module _ (cs : List ℕ) (h : length cs ≡ 5) where
  pub reads_number : (n : ℕ) → (columns Blank cs ≡ Number n) ↔ ((n < 100000) × (cs ≡ padded n))
  unfolding padded
  reads_number n = (to, λ (l, e). rw e (padded_read n l))
    where
      to : columns Blank cs ≡ Number n → (n < 100000) × (cs ≡ padded n)
      to e =
          let (k, l, s) = rw e at (shows cs) in
          let before : 5 - length (digits n) ≡ k = omega (arith, simp (length-append, length-replicate) at (ap length s)) in
          (l, rw before s)

  pub reads_blank : (columns Blank cs ≡ Blank) ↔ (cs ≡ blanks)
  reads_blank = (to, λ e. rw e (blanks_read 5))
    where
      to : columns Blank cs ≡ Blank → cs ≡ blanks
      to e =
          let (k, s) = rw e at (shows cs) in
          let all : k ≡ 5 = omega (arith, simp length-replicate at (ap length s)) in
          rw all at s

  pub reads_bad : (columns Blank cs ≡ Bad) ↔ ((cs ≡ blanks → ⊥) × ((n : ℕ) → n < 100000 → cs ≡ padded n → ⊥))
  reads_bad = (
    λ e. (
      λ s. let b = reads_blank.1 s in let z : ◌≡◌ {A = ℕ} 0 1 = cc in omega arith,
      λ n l s. let m = (reads_number n).1 (l, s) in let z : ◌≡◌ {A = ℕ} 0 1 = cc in omega arith,
    ),
    only (columns Blank cs) refl,
  )
    where
      only : (f : Field) → columns Blank cs ≡ f → (cs ≡ blanks → ⊥) × ((n : ℕ) → n < 100000 → cs ≡ padded n → ⊥) → f ≡ Bad
      only Blank e w = absurd (w.0 (reads_blank.0 e))
      only (Number n) e w = let (l, s) = (reads_number n).0 e in absurd (w.1 n l s)
      only Bad e w = refl

-- ---- a field of a file

module _ (f : List ℕ) (at : ℕ) where
  pub field_number_lem : (n : ℕ) → (field_at f at ≡ Number n) ↔ ((n < 100000) × (five f at ≡ padded n))
  field_number_lem = reads_number (five f at) refl

  pub field_blank : (field_at f at ≡ Blank) ↔ (five f at ≡ blanks)
  field_blank = reads_blank (five f at) refl

-- ---- a number by its columns' last four bits: a blank is 32, the digit 0 is 48, and both are multiples of 16

-- the figures v are the number that f says
abbrev Worth : Field → ℕ → Type 0
Worth Blank v = v ≡ 0
Worth (Number n) v = v ≡ n
Worth Bad v = Unit {0}

worth_more : (f : Field) (v b : ℕ) → Worth f v → Worth (column f b) (10 * v + b % 16)
unfolding column
worth_more Blank v b w = after_blank (λ f. Worth f (10 * v + b % 16)) tt b (λ p. omega arith) (λ d. omega arith)
worth_more (Number n) v b w = after_number (λ f. Worth f (10 * v + b % 16)) tt n b (λ d a. omega arith)
worth_more Bad v b w = tt

-- the figures v and then those of the columns bs
abbrev figured : ℕ → List ℕ → ℕ
figured v [] = v
figured v (b ∷ bs) = figured (10 * v + b % 16) bs

worth_all : (f : Field) (v : ℕ) (bs : List ℕ) → Worth f v → Worth (columns f bs) (figured v bs)
unfolding columns
worth_all f v [] w = w
worth_all f v (b ∷ bs) w = worth_all (column f b) (10 * v + b % 16) bs (worth_more f v b w)

pub figures : (f : List ℕ) (at n : ℕ) → field_at f at ≡ Number n → figure f at ≡ n
figures f at n e = omega (arith, rw e at (worth_all Blank 0 (five f at) refl))

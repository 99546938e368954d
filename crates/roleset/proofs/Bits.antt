-- The bits of a number: of one made by `|`, `&`, `^`, `>>` and `<<`, of 2 ^ k, of 2 ^ k - 1 and of 0; and a number below 2 ^ k is settled by its first k bits.
-- The lowest bit that is set stands above the trailing zeros.
-- Assumes nothing.
use Prim.Native.Nat.{ℕ, zero, suc, ◌+◌, ◌-◌, ◌*◌, ◌/◌, ◌%◌, ◌^◌, ◌<◌}
use mathlib.Core.Path.{◌≡◌, refl, sym, ap, ap₂, ◌∙◌}
use mathlib.Core.Logic.{◌↔◌}
use mathlib.Core.Bool.{Bool, true, false, not, ◌&&◌, ◌||◌, cond, or-true, or-false}
use native.Mathlib.Nat.{one-mul, zero-mul, zero-div, zero-mod, div-one, mul-mod_left, mul-div_cancel, div-div-eq-div-mul, pow-suc, pow-succ'}
use native.Mathlib.Omega.{arith}
use native.Mathlib.Decide.{dec_lt}
use lib.Count.{under, count_trailing_zeros}
use lib.Dec.{leb, eqb, eqb-zero-suc, eqb-suc-zero, eqb-suc-suc, leb-suc-zero, leb-suc-suc}
use lib.Pow.{pow_pos, pow-add, shl_exact, shr-shr, field, mod-mod-pow}
use mir.Val.{bool_byte}
use lib.Bits.{bit_and, bit_or, bit_xor, and_shr, and_mod, and_lt, and_le_l, and_le_r, or_shr, or_mod, or_add_and, xor_shr, xor_mod}
use borrow.Author.Tests.{eqb-true, eq-eqb, ne_eqb, le-leb}
use Rattle.search.specs.Search.{every, implies}
use Rattle.search.proofs.Truth.{and-iff, same, either}
use Rattle.search.proofs.Found.{None, every_in}
use Rattle.roleset.specs.Row.{bit}
use Rattle.roleset.specs.Set.{bits_of}

-- a binary digit, from whether it is 1
abbrev digit : Bool → ℕ
digit b = cond b 1 0

digit_of_lem : (x : ℕ) → x % 2 ≡ digit (eqb (x % 2) 1)
digit_of_lem x = which (x % 2) (omega arith)
  where
    which : (d : ℕ) → d < 2 → d ≡ digit (eqb d 1)
    which zero l = refl
    which (suc zero) l = refl
    which (suc (suc d)) l = absurd (omega arith)

-- an operation that goes digit by digit does at each bit what it does to two digits
module _ (f : ℕ → ℕ → ℕ) (g : Bool → Bool → Bool)
    (high : (x y k : ℕ) → f x y / 2 ^ k ≡ f (x / 2 ^ k) (y / 2 ^ k))
    (low : (x y k : ℕ) → f x y % 2 ^ k ≡ f (x % 2 ^ k) (y % 2 ^ k))
    (one-one : eqb (f 1 1) 1 ≡ g true true) (one-zero : eqb (f 1 0) 1 ≡ g true false)
    (zero_one : eqb (f 0 1) 1 ≡ g false true) (zero-zero : eqb (f 0 0) 1 ≡ g false false) where
  digits : (a b : Bool) → eqb (f (digit a) (digit b)) 1 ≡ g a b
  digits true true = one-one
  digits true false = one-zero
  digits false true = zero_one
  digits false false = zero-zero

  each_bit : (x y j : ℕ) → bit (f x y) j ≡ g (bit x j) (bit y j)
  each_bit x y j =
      ap (λ (d : ℕ). eqb (d % 2) 1) (high x y j) ∙ ap (λ (d : ℕ). eqb d 1) (low (x / 2 ^ j) (y / 2 ^ j) 1)
      ∙ ap₂ (λ (d e : ℕ). eqb (f d e) 1) (digit_of_lem (x / 2 ^ j)) (digit_of_lem (y / 2 ^ j)) ∙ digits (bit x j) (bit y j)

pub bit_or_lem : (x y j : ℕ) → bit (bit_or x y) j ≡ (bit x j || bit y j)
bit_or_lem = each_bit bit_or ◌||◌ or_shr or_mod refl refl refl refl

pub bit_and_lem : (x y j : ℕ) → bit (bit_and x y) j ≡ (bit x j && bit y j)
bit_and_lem = each_bit bit_and ◌&&◌ and_shr and_mod refl refl refl refl

bit_xor_lem : (x y j : ℕ) → bit (bit_xor x y) j ≡ cond (bit y j) (not (bit x j)) (bit x j)
bit_xor_lem = each_bit bit_xor (λ a b. cond b (not a) a) xor_shr xor_mod refl refl refl refl

pub bit_zero : (j : ℕ) → bit 0 j ≡ false
bit_zero j = rw zero-div

bit_first : (x : ℕ) → bit x 0 ≡ eqb (x % 2) 1
bit_first x = rw div-one

bit_next : (x j : ℕ) → bit x (suc j) ≡ bit (x / 2) j
bit_next x j = rw (pow-succ' 2 j, ← div-div-eq-div-mul x 2 (2 ^ j))

bit_pow : (k j : ℕ) → bit (2 ^ k) j ≡ eqb j k
bit_pow zero zero = refl
bit_pow zero (suc j) = bit_next 1 j ∙ bit_zero j ∙ sym (eqb-suc-zero j)
bit_pow (suc k) zero = bit_first (2 ^ suc k) ∙ rw (pow-suc 2 k, mul-mod_left (2 ^ k) 2) (sym (eqb-zero-suc k))
bit_pow (suc k) (suc j) =
    bit_next (2 ^ suc k) j ∙ rw (pow-suc 2 k, mul-div_cancel (2 ^ k) {n = 2} (omega arith)) (bit_pow k j) ∙ sym (eqb-suc-suc j k)

pub bit_ones : (k j : ℕ) → bit (2 ^ k - 1) j ≡ leb (suc j) k
bit_ones zero j = bit_zero j ∙ sym (leb-suc-zero j)
bit_ones (suc k) zero =
    let odd : (2 ^ suc k - 1) % 2 ≡ 1 = omega (arith, pow_pos k, pow-suc 2 k) in
    bit_first (2 ^ suc k - 1) ∙ eq-eqb ((2 ^ suc k - 1) % 2) 1 odd ∙ sym (le-leb 1 (suc k) (omega arith))
bit_ones (suc k) (suc j) =
    let half : (2 ^ suc k - 1) / 2 ≡ 2 ^ k - 1 = omega (arith, pow_pos k, pow-suc 2 k) in
    bit_next (2 ^ suc k - 1) j ∙ rw half (bit_ones k j) ∙ sym (leb-suc-suc (suc j) k)

pub same_bits : (k x y : ℕ) → x < 2 ^ k → y < 2 ^ k → ((j : ℕ) → j < k → bit x j ≡ bit y j) → x ≡ y
same_bits zero x y l m h = omega arith
same_bits (suc k) x y l m h =
    let next : (j : ℕ) → j < k → bit (x / 2) j ≡ bit (y / 2) j = λ j i. sym (bit_next x j) ∙ h (suc j) (omega arith) ∙ bit_next y j in
    let rest : x / 2 ≡ y / 2 = same_bits k (x / 2) (y / 2) (omega arith) (omega arith) next in
    let last : x % 2 ≡ y % 2 = digit_of_lem x ∙ ap digit (sym (bit_first x) ∙ h 0 (omega arith) ∙ bit_first y) ∙ sym (digit_of_lem y) in
    omega arith

pub bit_shr : (x k j : ℕ) → bit (x / 2 ^ k) j ≡ bit x (k + j)
bit_shr x k j = rw shr-shr

bit_mod : (k x j : ℕ) → j < k → bit (x % 2 ^ k) j ≡ bit x j
bit_mod k x j l =
    let e : (k - (1 + j)) + (1 + j) ≡ k = omega arith in
    let cut : x % 2 ^ k % 2 ^ (1 + j) ≡ x % 2 ^ (1 + j) = rw e at (mod-mod-pow x (k - (1 + j)) (1 + j)) in
    ap (λ (d : ℕ). eqb d 1) (sym (field (x % 2 ^ k) 1 j) ∙ ap (λ (d : ℕ). d / 2 ^ j) cut ∙ field x 1 j)

-- `1 << k` at a number of w bits, and at a byte
pub one_shifted : (w k : ℕ) → k < w → 1 * 2 ^ k % 2 ^ w ≡ 2 ^ k
one_shifted w k l = shl_exact {a = 1} 1 k w (omega arith) (omega arith) ∙ one-mul (2 ^ k)

pub shifted : (k : ℕ) → k < 8 → 1 * 2 ^ k % 256 ≡ 2 ^ k
shifted = one_shifted 8

bit_shifted : (w k : ℕ) → k < w → (d : Bool) (j : ℕ) → bit (bool_byte d * 2 ^ k % 2 ^ w) j ≡ (d && eqb j k)
bit_shifted w k l true j = ap (λ (x : ℕ). bit x j) (one_shifted w k l) ∙ bit_pow k j
bit_shifted w k l false j = rw (zero-mul (2 ^ k), zero-mod (2 ^ w)) (bit_zero j)

-- bit k is set too where d is
pub bit_put : (w x k : ℕ) → k < w → (d : Bool) (j : ℕ) → bit (bit_or x (bool_byte d * 2 ^ k % 2 ^ w)) j ≡ (bit x j || (d && eqb j k))
bit_put w x k l d j = bit_or_lem x (bool_byte d * 2 ^ k % 2 ^ w) j ∙ ap (λ (b : Bool). bit x j || b) (bit_shifted w k l d j)

-- setting bit k of a byte, and flipping it where it is set
module _ (x k : ℕ) (l : k < 8) where
  pub bit_on : (j : ℕ) → bit (bit_or x (1 * 2 ^ k % 256)) j ≡ cond (eqb j k) true (bit x j)
  bit_on j = bit_put 8 x k l true j ∙ on (bit x j) (eqb j k)
    where
      on : (a b : Bool) → (a || b) ≡ cond b true a
      on a true = or-true a
      on a false = or-false a

  pub bit_off : bit x k ≡ true → (j : ℕ) → bit (bit_xor x (1 * 2 ^ k % 256)) j ≡ cond (eqb j k) false (bit x j)
  bit_off h j = bit_xor_lem x (1 * 2 ^ k % 256) j ∙ rw (bit_shifted 8 k l true j) (off (eqb j k) refl)
    where
      off : (b : Bool) → eqb j k ≡ b → cond b (not (bit x j)) (bit x j) ≡ cond b false (bit x j)
      off true e = ap not (ap (bit x) (eqb-true j k e) ∙ h)
      off false e = refl

-- a number of k bits is 0 where it has none, the bits counted from 1
pub none_set : (k x : ℕ) → x < 2 ^ k → (x ≡ 0) ↔ None (λ a. bit x (a - 1)) k
none_set k x l = (
  λ e a w. ap (λ (z : ℕ). bit z (a - 1)) e ∙ bit_zero (a - 1),
  λ none. same_bits k x 0 l (pow_pos k) (λ j i. let place : suc j - 1 ≡ j = omega arith in rw place at (none (suc j) (omega arith)) ∙ sym (bit_zero j)),
)

-- and all its bits are another's where `&` with that leaves it as it is
pub all_within : (k x y : ℕ) → x < 2 ^ k → y < 2 ^ k → eqb (bit_and x y) x ≡ every k (λ a. implies (bit x (a - 1)) (bit y (a - 1)))
all_within k x y l m =
    let within = every_in k (λ a. bit x (a - 1)) (λ a. bit y (a - 1)) in
    same (eqb (bit_and x y) x) (every k (λ a. implies (bit x (a - 1)) (bit y (a - 1))))
    (λ e. within.1 (λ a w h.
    ((and-iff (bit x (a - 1)) (bit y (a - 1))).0 (sym (bit_and_lem x y (a - 1)) ∙ ap (λ (z : ℕ). bit z (a - 1)) (eqb-true (bit_and x y) x e) ∙ h)).1))
    (λ e. eq-eqb (bit_and x y) x (same_bits k (bit_and x y) x (and_lt k x y l m) l (λ j i.
    let place : suc j - 1 ≡ j = omega arith in
    bit_and_lem x y j ∙ same (bit x j && bit y j) (bit x j)
    (λ h. ((and-iff (bit x j) (bit y j)).0 h).0)
    (λ h. (and-iff (bit x j) (bit y j)).1 (h, rw place at (within.0 e (suc j) (omega arith)) h)))))

-- two numbers of k bits share none where their `&` is 0, and two numbers are 0 where their `|` is
pub and_none : (k x y : ℕ) → x < 2 ^ k → y < 2 ^ k → (bit_and x y ≡ 0) ↔ ((j : ℕ) → j < k → (bit x j && bit y j) ≡ false)
and_none k x y l m = (
  λ e j i. sym (bit_and_lem x y j) ∙ ap (λ (z : ℕ). bit z j) e ∙ bit_zero j,
  λ h. same_bits k (bit_and x y) 0 (and_lt k x y l m) (pow_pos k) (λ j i. bit_and_lem x y j ∙ h j i ∙ sym (bit_zero j)),
)

pub or_none : (x y : ℕ) → (bit_or x y ≡ 0) ↔ ((x ≡ 0) × (y ≡ 0))
or_none x y =
    let sum = or_add_and x y in
    let left = and_le_l x y in
    let right = and_le_r x y in
    (λ e. omega arith, λ e. omega arith)

-- the number whose n bytes are f's, the first of them lowest
unfoldable pub little_endian : ℕ → (ℕ → ℕ) → ℕ
little_endian zero f = 0
little_endian (suc n) f = f 0 + 256 * little_endian n (λ k. f (suc k))

-- a number of n bytes has 8 bits for each
pub bytes_below : (n : ℕ) (f : ℕ → ℕ) → ((k : ℕ) → f k < 256) → little_endian n f < 2 ^ (8 * n)
unfolding little_endian
bytes_below zero f l = omega arith
bytes_below (suc n) f l =
    let rest = bytes_below n (λ k. f (suc k)) (λ k. l (suc k)) in
    let first = l 0 in
    let width : 8 * suc n ≡ 8 + 8 * n = omega arith in
    let more : 2 ^ (8 * suc n) ≡ 256 * 2 ^ (8 * n) = ap (λ (k : ℕ). 2 ^ k) width ∙ pow-add 2 8 (8 * n) in
    rw more (omega arith)

-- the bits of a number are those of its bytes
pub bit_byte : (n : ℕ) (f : ℕ → ℕ) → ((k : ℕ) → f k < 256) → (j : ℕ) → j < 8 * n → bit (little_endian n f) j ≡ bit (f (j / 8)) (j % 8)
unfolding little_endian
bit_byte zero f l j i = absurd (omega arith)
bit_byte (suc n) f l j i =
    let rest = little_endian n (λ k. f (suc k)) in
    let first = l 0 in
    elim (dec_lt j 8) [
      | yes m ↦
          let low : (f 0 + 256 * rest) % 256 ≡ f 0 = omega arith in
          let byte : j / 8 ≡ 0 = omega arith in
          let place : j % 8 ≡ j = omega arith in
          rw (byte, place) (sym (bit_mod 8 (f 0 + 256 * rest) j m) ∙ ap (λ (x : ℕ). bit x j) low)
      | no m ↦
          let high : (f 0 + 256 * rest) / 256 ≡ rest = omega arith in
          let next : 8 + (j - 8) ≡ j = omega arith in
          let byte : j / 8 ≡ suc ((j - 8) / 8) = omega arith in
          let place : j % 8 ≡ (j - 8) % 8 = omega arith in
          rw (byte, place)
          (ap (bit (f 0 + 256 * rest)) (sym next) ∙ sym (bit_shr (f 0 + 256 * rest) 8 (j - 8)) ∙ ap (λ (x : ℕ). bit x (j - 8)) high
          ∙ bit_byte n (λ k. f (suc k)) (λ k. l (suc k)) (j - 8) (omega arith))
    ]

-- no bit is set below as many as there are trailing zeros, and then one is
pub trailing_clear : (n x j : ℕ) → j < count_trailing_zeros n x → bit x j ≡ false
unfolding count_trailing_zeros
trailing_clear zero x j l = absurd (omega arith)
trailing_clear (suc n) x j l = go (trailing_clear n (x / 2)) (x % 2) refl j l
  where
    go : ((i : ℕ) → i < count_trailing_zeros n (x / 2) → bit (x / 2) i ≡ false) → (d : ℕ) → x % 2 ≡ d
        → (i : ℕ) → i < under d (count_trailing_zeros n (x / 2)) → bit x i ≡ false
    go rest zero e zero m = bit_first x ∙ rw e
    go rest zero e (suc i) m = bit_next x i ∙ rest i (omega arith)
    go rest (suc d) e i m = absurd (omega arith)

pub trailing_set : (n x : ℕ) → count_trailing_zeros n x < n → bit x (count_trailing_zeros n x) ≡ true
unfolding count_trailing_zeros
trailing_set zero x l = absurd (omega arith)
trailing_set (suc n) x l = go (trailing_set n (x / 2)) (x % 2) refl l
  where
    go : (count_trailing_zeros n (x / 2) < n → bit (x / 2) (count_trailing_zeros n (x / 2)) ≡ true) → (d : ℕ) → x % 2 ≡ d
        → under d (count_trailing_zeros n (x / 2)) < suc n → bit x (under d (count_trailing_zeros n (x / 2))) ≡ true
    go rest zero e m = bit_next x (count_trailing_zeros n (x / 2)) ∙ rest (omega arith)
    go rest (suc d) e m = bit_first x ∙ eq-eqb (x % 2) 1 (omega arith)

-- a number that is not 0 has fewer trailing zeros than digits
pub trailing_within : (n k x : ℕ) → x < 2 ^ k → (x ≡ 0 → ⊥) → count_trailing_zeros n x < k
trailing_within n k x l some = elim (dec_lt (count_trailing_zeros n x) k) [
  | yes m ↦ m
  | no m ↦ absurd (some (same_bits k x 0 l (pow_pos k) (λ j i. trailing_clear n x j (omega arith) ∙ sym (bit_zero j))))
]

-- what a number and the one before it have in common: all but the lowest bit that is set
pub lowest_dropped : (n x : ℕ) → x < 2 ^ n → (x ≡ 0 → ⊥) → (j : ℕ) → (bit x j && bit (x - 1) j) ≡ (bit x j && not (eqb j (count_trailing_zeros n x)))
unfolding count_trailing_zeros
lowest_dropped zero x l some = absurd (some (omega arith))
lowest_dropped (suc n) x l some = go (lowest_dropped n (x / 2)) (x % 2) refl
  where
    twice : (b : Bool) → (b && b) ≡ (b && true)
    twice true = refl
    twice false = refl

    go : (x / 2 < 2 ^ n → (x / 2 ≡ 0 → ⊥) → (i : ℕ) → (bit (x / 2) i && bit (x / 2 - 1) i) ≡ (bit (x / 2) i && not (eqb i (count_trailing_zeros n (x / 2)))))
        → (d : ℕ) → x % 2 ≡ d → (j : ℕ) → (bit x j && bit (x - 1) j) ≡ (bit x j && not (eqb j (under d (count_trailing_zeros n (x / 2)))))
    go rest zero e zero = rw (bit_first x, e)
    go rest zero e (suc j) =
        let halved : (x - 1) / 2 ≡ x / 2 - 1 = omega arith in
        rw (bit_next x j, bit_next (x - 1) j, halved, eqb-suc-suc j (count_trailing_zeros n (x / 2)))
        (rest (omega (arith, pow-suc 2 n)) (λ z. some (omega arith)) j)
    go rest (suc d) e zero =
        let even : (x - 1) % 2 ≡ 0 = omega arith in
        rw (bit_first (x - 1), even)
    go rest (suc d) e (suc j) =
        let halved : (x - 1) / 2 ≡ x / 2 = omega arith in
        rw (bit_next x j, bit_next (x - 1) j, halved, eqb-suc-zero j) (twice (bit (x / 2) j))

-- ---- a number made of its bits

pub bits_below : (n : ℕ) (s : ℕ → Bool) → bits_of n s < 2 ^ n
unfolding bits_of
bits_below zero s = omega arith
bits_below (suc n) s =
    let rest = bits_below n (λ r. s (suc r)) in
    rw (pow-suc 2 n) (either (λ d. d + 2 * bits_of n (λ r. s (suc r)) < 2 ^ n * 2) (s 1) 1 0 (omega arith) (omega arith))

pub bits_bit : (n : ℕ) (s : ℕ → Bool) (j : ℕ) → j < n → bit (bits_of n s) j ≡ s (suc j)
unfolding bits_of
bits_bit zero s j l = absurd (omega arith)
bits_bit (suc n) s zero l = bit_first (digit (s 1) + 2 * bits_of n (λ r. s (suc r))) ∙ lowest (s 1) (bits_of n (λ r. s (suc r)))
  where
    lowest : (b : Bool) (x : ℕ) → eqb ((digit b + 2 * x) % 2) 1 ≡ b
    lowest true x = eq-eqb ((1 + 2 * x) % 2) 1 (omega arith)
    lowest false x = ne_eqb ((0 + 2 * x) % 2) 1 (λ e. omega arith)
bits_bit (suc n) s (suc j) l =
    bit_next (digit (s 1) + 2 * bits_of n (λ r. s (suc r))) j
    ∙ ap (λ (x : ℕ). bit x j) (halved (s 1) (bits_of n (λ r. s (suc r))))
    ∙ bits_bit n (λ r. s (suc r)) j (omega arith)
  where
    halved : (b : Bool) (x : ℕ) → (digit b + 2 * x) / 2 ≡ x
    halved true x = omega arith
    halved false x = omega arith

-- A set of roles as two numbers: what is put in is read back, the halves of a row are its two numbers, and two sets meet where one of two pairs of numbers shares a bit. Assumes nothing.
use Prim.Native.Nat.{ℕ, suc, ◌+◌, ◌-◌, ◌*◌, ◌/◌, ◌%◌, ◌^◌, ◌<◌}
use mathlib.Core.Path.{◌≡◌, sym, ap, ◌∙◌}
use mathlib.Core.Logic.{◌↔◌}
use mathlib.Core.List.{List}
use mathlib.Core.Bool.{Bool, false, not, ◌&&◌, and-false}
use native.Mathlib.Nat.{zero-add}
use native.Mathlib.Omega.{arith}
use native.Mathlib.Decide.{dec_le}
use lib.Bits.{bit_and, bit_or}
use lib.ListN.{get_or}
use lib.Dec.{eqb, leb}
use borrow.Author.Tests.{le-leb, lt-leb}
use Rattle.search.specs.Search.{some, among, Among}
use Rattle.search.proofs.Truth.{and_when, among_iff, either}
use Rattle.search.proofs.Found.{None, some_unless}
use Rattle.roleset.specs.Row.{AllBytes, bit, role_byte, role_bit, member}
use Rattle.roleset.specs.Set.{in_set, bits_of, low_of, high_of}
use Rattle.roleset.proofs.Bits.{bit_zero, same_bits, little_endian, bit_byte, bytes_below, bits_below, bits_bit, and_none, or_none}

-- ---- the roles of each number

low_in : (low high j : ℕ) → j < 64 → in_set low high (suc j) ≡ bit low j
unfolding in_set
low_in low high j l =
    let place : suc j - 1 ≡ j = omega arith in
    rw ((among_iff 128 (suc j)).1 (omega arith), le-leb (suc j) 64 (omega arith), place)

high_in : (low high j : ℕ) → j < 64 → in_set low high (64 + suc j) ≡ bit high j
unfolding in_set
high_in low high j l =
    let place : 64 + suc j - 65 ≡ j = omega arith in
    rw ((among_iff 128 (64 + suc j)).1 (omega arith), lt-leb (64 + suc j) 64 (omega arith), place)

-- what holds of the roles of both numbers holds of all
by_half : (P : ℕ → Type 0) → ((j : ℕ) → j < 64 → P (suc j)) → ((j : ℕ) → j < 64 → P (64 + suc j)) → (r : ℕ) → Among 128 r → P r
by_half P low high r w = elim (dec_le r 64) [
  | yes l ↦ let place : suc (r - 1) ≡ r = omega arith in rw place at (low (r - 1) (omega arith))
  | no l ↦ let place : 64 + suc (r - 65) ≡ r = omega arith in rw place at (high (r - 65) (omega arith))
]

-- the set of the two numbers of s
pub in_set_of : (s : ℕ → Bool) (r : ℕ) → in_set (low_of s) (high_of s) r ≡ (among 128 r && s r)
unfolding in_set
in_set_of s r = and_when (among 128 r) (λ e. rw ((among_iff 128 r).1 ((among_iff 128 r).0 e)) at (told r ((among_iff 128 r).0 e)))
  where
    told : (r : ℕ) → Among 128 r → in_set (low_of s) (high_of s) r ≡ s r
    told = by_half (λ r. in_set (low_of s) (high_of s) r ≡ s r)
        (λ j l. low_in (low_of s) (high_of s) j l ∙ bits_bit 64 s j l)
        (λ j l. high_in (low_of s) (high_of s) j l ∙ bits_bit 64 (λ r. s (64 + r)) j l)

-- the set of 0 and 0 is empty
pub in_no_set : (r : ℕ) → in_set 0 0 r ≡ false
unfolding in_set
in_no_set r = rw (bit_zero (r - 1), bit_zero (r - 65)) (either (λ b. (among 128 r && b) ≡ false) (leb r 64) false false (and-false (among 128 r)) (and-false (among 128 r)))

-- ---- a row as numbers

module _ (row : List ℕ) (bytes : AllBytes row) where
  -- the eight bytes of half h, the first being 0, as one number
  abbrev half : ℕ → ℕ
  half h = little_endian 8 (λ k. get_or row (8 * h + k) 0)

  -- it has the roles from 64 h on
  half_roles : (h : ℕ) → h < 2 → half h ≡ bits_of 64 (λ r. member row 0 (64 * h + r))
  unfolding member
  half_roles h l =
      same_bits 64 _ _ (bytes_below 8 _ (λ k. bytes (8 * h + k))) (bits_below 64 (λ r. member row 0 (64 * h + r)))
      (λ j m. role_bit_lem j m ∙ sym (bits_bit 64 (λ r. member row 0 (64 * h + r)) j m))
    where
      role_bit_lem : (j : ℕ) → j < 64 → bit (half h) j ≡ member row 0 (64 * h + suc j)
      role_bit_lem j m =
          let byte : 0 + role_byte (64 * h + suc j) ≡ 8 * h + j / 8 = omega arith in
          let place : role_bit (64 * h + suc j) ≡ j % 8 = omega arith in
          bit_byte 8 _ (λ k. bytes (8 * h + k)) j (omega arith) ∙ rw ((among_iff 128 (64 * h + suc j)).1 (omega arith), byte, place)

  pub first_half : half 0 ≡ low_of (member row 0)
  first_half = half_roles 0 (omega arith) ∙ ap (bits_of 64) (λ i r. member row 0 (zero-add r i))

  pub second_half : half 1 ≡ high_of (member row 0)
  second_half = half_roles 1 (omega arith)

-- ---- sets that meet

module _ (s : ℕ → Bool) (low high : ℕ) (low_fits : low < 2 ^ 64) (high_fits : high < 2 ^ 64) where
  abbrev Shared : ℕ → Bool
  Shared r = s r && in_set low high r

  abbrev both : ℕ
  both = bit_or (bit_and (low_of s) low) (bit_and (high_of s) high)

  low_shared : (j : ℕ) → j < 64 → (bit (low_of s) j && bit low j) ≡ Shared (suc j)
  low_shared j l = rw (bits_bit 64 s j l, low_in low high j l)

  high_shared : (j : ℕ) → j < 64 → (bit (high_of s) j && bit high j) ≡ Shared (64 + suc j)
  high_shared j l = rw (bits_bit 64 (λ r. s (64 + r)) j l, high_in low high j l)

  apart : (both ≡ 0) ↔ None Shared 128
  apart =
      let either = or_none (bit_and (low_of s) low) (bit_and (high_of s) high) in
      let first = and_none 64 (low_of s) low (bits_below 64 s) low_fits in
      let second = and_none 64 (high_of s) high (bits_below 64 (λ r. s (64 + r))) high_fits in (
        λ e. by_half (λ r. Shared r ≡ false)
            (λ j l. sym (low_shared j l) ∙ first.0 (either.0 e).0 j l)
            (λ j l. sym (high_shared j l) ∙ second.0 (either.0 e).1 j l),
        λ none. either.1 (
          first.1 (λ j l. low_shared j l ∙ none (suc j) (omega arith)),
          second.1 (λ j l. high_shared j l ∙ none (64 + suc j) (omega arith)),
        ),
      )

  pub sets_meet : not (eqb both 0) ≡ some 128 Shared
  sets_meet = some_unless apart

-- A row with one role more, or one less, is the row with one byte changed: `Placed` leaves no other choice. Assumes nothing.
use Rattle.std.proofs.Common.{ℕ, ◌+◌, ◌^◌, ◌≤◌, ◌<◌, ◌≡◌, refl, sym, Bool, true, false, cond, List, arith, ne_eqb, length, get_or, set, length-set, get_or-set_same, get_or-set_other}
use mathlib.Core.Bool.{or-false, and-false}
use native.Mathlib.Decide.{ℕ_discrete}
use lib.Bits.{bit_or, bit_xor, or_lt, xor_lt}
use lib.Pow.{pow-lt}
use Rattle.search.specs.Search.{among, Among}
use Rattle.search.proofs.Truth.{either, either_by}
use Rattle.roleset.specs.Row.{AllBytes, member, Placed, added, removed, role_byte, role_bit}
use Rattle.roleset.proofs.Bits.{shifted}
use Rattle.roleset.proofs.Rows.{added_placed, removed_placed, placed_once, unwritten, none_less}
use Rattle.monitor.specs.Session.{held_at}
use Rattle.monitor.specs.Calls.{taken, dropped}

-- the row with the byte of role r written
module _ (xs : List ℕ) (at r : ℕ) (fits : at + 16 ≤ length xs) (w : Among 128 r) where
  abbrev i : ℕ
  i = at + role_byte r

  abbrev k : ℕ
  k = role_bit r

  small : k < 8
  small = omega arith

  -- one role more
  pub more_placed : Placed at (added xs at r) xs (set xs i (bit_or (get_or xs i 0) (2 ^ k)))
  more_placed = rw (shifted k small) at (added_placed xs at r fits w)

  abbrev less : Bool → List ℕ
  less held = cond held (set xs i (bit_xor (get_or xs i 0) (2 ^ k))) xs

  pub less_placed : Placed at (removed xs at r) xs (less (member xs at r))
  less_placed =
      either_by (Placed at (removed xs at r) xs) (member xs at r) _ xs
      (λ h. rw (shifted k small) at (removed_placed xs at r fits w h)) (λ h. unwritten (λ l. none_less xs at r h))

  -- one byte at most is written
  pub length_less : (b : Bool) → length (less b) ≡ length xs
  length_less b = either (λ (ys : List ℕ). length ys ≡ length xs) b _ xs (length-set xs i _) refl

  module _ (xs-bytes : AllBytes xs) where
    byte_set : (b : ℕ) → b < 256 → AllBytes (set xs i b)
    byte_set b l j = elim (ℕ_discrete j i) [
      | yes e ↦ rw (e, get_or-set_same xs i b 0 (omega arith)) l
      | no n ↦ rw (get_or-set_other xs i j b 0 n) (xs-bytes j)
    ]

    byte_less : (b : Bool) → AllBytes (less b)
    byte_less b =
        either AllBytes b _ xs
        (byte_set (bit_xor (get_or xs i 0) (2 ^ k)) (xor_lt 8 _ _ (xs-bytes i) (pow-lt small))) xs-bytes

    module _ (ys : List ℕ) (long : length ys ≡ length xs) (ys-bytes : AllBytes ys) where
      pub added_is : Placed at (added xs at r) xs ys → ys ≡ set xs i (bit_or (get_or xs i 0) (2 ^ k))
      added_is p =
          placed_once at (added xs at r) xs ys _ p more_placed long (length-set xs i _) ys-bytes
          (byte_set (bit_or (get_or xs i 0) (2 ^ k)) (or_lt 8 _ _ (xs-bytes i) (pow-lt small)))

      pub removed_is : Placed at (removed xs at r) xs ys → ys ≡ less (member xs at r)
      removed_is p =
          placed_once at (removed xs at r) xs ys _ p less_placed long (length_less (member xs at r)) ys-bytes (byte_less (member xs at r))

    -- a role that the row has already changes nothing
    again : member xs at r ≡ true → (q : ℕ) → member xs at q ≡ added xs at r q
    again h q = elim (ℕ_discrete q r) [
      | yes e ↦ rw (e, h)
      | no n ↦ sym (rw (ne_eqb q r n, and-false (among 128 r)) (or-false (member xs at q)))
    ]

    added_again : member xs at r ≡ true → set xs i (bit_or (get_or xs i 0) (2 ^ k)) ≡ xs
    added_again h = sym (added_is xs refl xs-bytes (unwritten (λ l q. again h q)))

-- "Taking a role already held, or dropping one not held, is done and changes nothing"
module _ (xs : List ℕ) (p r : ℕ) where
  pub taken_again : 65536 ≤ length xs → Among 64 p → Among 128 r → AllBytes xs → member xs (held_at p) r ≡ true → taken xs p r ≡ xs
  unfolding taken
  taken_again long v w bytes held = added_again xs (held_at p) r (omega arith) w bytes held

  pub dropped_again : member xs (held_at p) r ≡ false → dropped xs p r ≡ xs
  unfolding dropped
  dropped_again free = rw free

-- The things of a set of 32 taken in turn, the lowest that is left first: `rest & (rest - 1)` is what is left after it. Assumes nothing.
use Prim.Native.Nat.{ℕ, ◌+◌, ◌-◌, ◌^◌, ◌<◌}
use mathlib.Core.Path.{◌≡◌, sym, ◌∙◌}
use mathlib.Core.Bool.{true, false, not, ◌&&◌}
use native.Mathlib.Nat.{add-sub_cancel}
use native.Mathlib.Omega.{arith}
use lib.Bits.{bit_and, and_le_r}
use lib.Count.{count_trailing_zeros}
use lib.Dec.{eqb}
use Rattle.search.specs.Search.{Among}
use Rattle.search.proofs.Truth.{and-iff}
use Rattle.roleset.proofs.Bits.{bit_and_lem, trailing_clear, trailing_set, trailing_within, lowest_dropped}
use Rattle.order.specs.inner.Members.{holds}

-- rest has things of s alone
pub record Left (s rest : ℕ) : Type 0 where
  pub fits : rest < 2 ^ 32
  pub of : (x : ℕ) → Among 32 x → holds rest x ≡ true → holds s x ≡ true

pub all_left : (s : ℕ) → s < 2 ^ 32 → Left s s
all_left s fits = record { fits = fits; of = λ x w h. h }

-- the lowest, counted from 0, and what is left after it
abbrev pub lowest : ℕ → ℕ
lowest rest = count_trailing_zeros 32 rest

abbrev pub dropped : ℕ → ℕ
dropped rest = bit_and rest (rest - 1)

module _ {s rest : ℕ} (left : Left s rest) (some : rest ≡ 0 → ⊥) where
  pub lowest_within : lowest rest < 32
  lowest_within = trailing_within 32 32 rest left.fits some

  pub lowest_left : holds rest (lowest rest + 1) ≡ true
  lowest_left = rw (add-sub_cancel (lowest rest) 1) (trailing_set 32 rest lowest_within)

  pub none_lower : (x : ℕ) → Among 32 x → x < lowest rest + 1 → holds rest x ≡ false
  none_lower x w l = trailing_clear 32 rest (x - 1) (omega arith)

  pub still : (x : ℕ) → holds (dropped rest) x ≡ (holds rest x && not (eqb (x - 1) (lowest rest)))
  still x = bit_and_lem rest (rest - 1) (x - 1) ∙ lowest_dropped 32 rest left.fits some (x - 1)

  pub fewer : dropped rest < rest
  fewer = omega (arith, and_le_r rest (rest - 1))

  pub still_left : Left s (dropped rest)
  still_left = record {
    fits = let less = fewer in let before = left.fits in omega arith;
    of = λ x w h. left.of x w ((and-iff (holds rest x) (not (eqb (x - 1) (lowest rest)))).0 (sym (still x) ∙ h)).0;
  }

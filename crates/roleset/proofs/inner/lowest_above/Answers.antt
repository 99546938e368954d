-- The first bits are passed by a shift, and the lowest of the rest stands above its trailing zeros.
use Prim.Native.Nat.{ℕ, ◌+◌, ◌-◌, ◌/◌, ◌^◌, ◌≤◌, ◌<◌}
use mathlib.Core.Path.{◌≡◌, sym, ◌∙◌}
use mathlib.Core.Bool.{false}
use native.Mathlib.Omega.{arith}
use native.Mathlib.Decide.{dec_lt}
use lib.Count.{count_trailing_zeros}
use lib.Pow.{shr_lt}
use borrow.Author.Tests.{le-leb, lt-leb}
use Rattle.search.specs.Search.{first, Among}
use Rattle.search.proofs.Found.{first_none, first_lowest}
use Rattle.search.proofs.Thing.{thing_none, thing_some}
use Rattle.roleset.specs.Row.{bit}
use Rattle.roleset.specs.inner.Bits.{bit_after}
use Rattle.roleset.proofs.Bits.{bit_zero, bit_shr, trailing_clear, trailing_set, trailing_within}
use Rattle.roleset.proofs.inner.lowest_above.Goals.{Else-rest-eq0}
use Rattle.roleset.proofs.inner.lowest_above.Goals as goal

module _ (x after : ℕ) where
  abbrev rest : ℕ
  rest = x / 2 ^ after

  passed : (b : ℕ) → b ≤ after → bit_after x after b ≡ false
  passed b l = rw (le-leb b after l)

  ahead : (b : ℕ) → after < b → bit_after x after b ≡ bit rest (b - 1 - after)
  ahead b l =
      let place : after + (b - 1 - after) ≡ b - 1 = omega arith in
      rw (lt-leb b after l, bit_shr x after (b - 1 - after), place)

  none_above : ((b : ℕ) → Among 64 b → after < b → bit rest (b - 1 - after) ≡ false) → first 64 (bit_after x after) ≡ 0
  none_above h = (first_none (bit_after x after) 64).1 (λ b w. elim (dec_lt after b) [ yes l ↦ ahead b l ∙ h b w l | no l ↦ passed b (omega arith) ])

  module _ (fits : x < 2 ^ 64) (l : after < 64) (some : rest ≡ 0 → ⊥) where
    within : after + count_trailing_zeros 64 rest < 64
    within =
        let width : 64 - after + after ≡ 64 = omega arith in
        omega (arith, trailing_within 64 (64 - after) rest (shr_lt (64 - after) after (rw width fits)) some)

    lowest : first 64 (bit_after x after) ≡ after + count_trailing_zeros 64 rest + 1
    lowest =
        let zeros = count_trailing_zeros 64 rest in
        let place : after + zeros + 1 - 1 - after ≡ zeros = omega arith in
        let low = within in
        (first_lowest (bit_after x after) 64 (after + zeros + 1) (omega arith)).1 (record {
          inside = omega arith;
          holds = ahead (after + zeros + 1) (omega arith) ∙ rw place (trailing_set 64 rest (omega arith));
          lower = λ b w k. elim (dec_lt after b) [
            | yes m ↦ ahead b m ∙ trailing_clear 64 rest (b - 1 - after) (omega arith)
            | no m ↦ passed b (omega arith)
          ];
        })

pub returns-then-after-ge-HALF_ROLES : goal.returns-then-after-ge-HALF_ROLES
returns-then-after-ge-HALF_ROLES c = let a = c.args in (thing_none _).1 (none_above a.x a.after (λ b w l. absurd (omega arith)))

pub returns-then-rest-eq0 : goal.returns-then-rest-eq0
returns-then-rest-eq0 c = let a = c.args in (thing_none _).1 (none_above a.x a.after (λ b w l. rw c.if-rest-eq0.true (bit_zero (b - 1 - a.after))))

-- what is counted lies within the number
counted : (c : Else-rest-eq0) → c.args.after + count_trailing_zeros 64 (rest c.args.x c.args.after) < 64
counted c = let a = c.args in within a.x a.after (omega arith) (omega arith) c.if-rest-eq0.false

pub returns : goal.returns
returns c = let a = c.args in (thing_some _ _).1 (sym (lowest a.x a.after (omega arith) (omega arith) c.if-rest-eq0.false), omega arith)

pub overflow_cast-result : goal.overflow_cast-result
overflow_cast-result c = omega (arith, counted (goal.at.overflow_cast-result c).Else-rest-eq0)

pub overflow_add-result : goal.overflow_add-result
overflow_add-result c = omega (arith, counted (goal.at.overflow_add-result c).Else-rest-eq0)

pub overflow_add-result-2 : goal.overflow_add-result-2
overflow_add-result-2 c = omega (arith, counted (goal.at.overflow_add-result-2 c).Else-rest-eq0)

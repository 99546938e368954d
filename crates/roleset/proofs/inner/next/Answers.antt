-- A half's bits are its members, so the first half is searched and, where it has none, the second.
use Rattle.std.proofs.Common.{ℕ, suc, ◌+◌, ◌-◌, ◌≤◌, ◌≡◌, sym, ap, ◌∙◌, List, Bool, leb, Some, None, arith}
use Rattle.search.specs.Search.{first, thing, Among}
use Rattle.search.proofs.Truth.{leb_same}
use Rattle.search.proofs.Found.{first_agree, first_sooner, first_never, first_later, first_within}
use Rattle.search.proofs.Thing.{thing_none, thing_some}
use Rattle.roleset.specs.Row.{bit, member, member_after, next_member}
use Rattle.roleset.specs.Set.{bits_of, low_of, high_of}
use Rattle.roleset.specs.inner.Bits.{bit_after}
use Rattle.roleset.proofs.Bits.{bits_bit}
use Rattle.roleset.proofs.inner.next.Goals as goal

role_bit_lem : (s : ℕ → Bool) (b : ℕ) → Among 64 b → bit (bits_of 64 s) (b - 1) ≡ s b
role_bit_lem s b w = let place : suc (b - 1) ≡ b = omega arith in bits_bit 64 s (b - 1) (omega arith) ∙ ap s place

module _ (xs : List ℕ) (at after : ℕ) where
  low_first : first 64 (bit_after (low_of (member xs at)) after) ≡ first 64 (member_after xs at after)
  low_first = first_agree _ _ 64 (λ b w. rw (role_bit_lem (member xs at) b w))

  passed : (b : ℕ) → Among 64 b → leb b (after - 64) ≡ leb (64 + b) after
  passed b w = leb_same b (after - 64) (64 + b) after (λ l. omega arith) (λ l. omega arith)

  high_first : first 64 (bit_after (high_of (member xs at)) (after - 64)) ≡ first 64 (λ b. member_after xs at after (64 + b))
  high_first = first_agree _ _ 64 (λ b w. rw (passed b w, role_bit_lem (λ r. member xs at (64 + r)) b w))

  abbrev low_first_role : ℕ
  low_first_role = first 64 (bit_after (low_of (member xs at)) after)

  abbrev high_first_role : ℕ
  high_first_role = first 64 (bit_after (high_of (member xs at)) (after - 64))

  next_low : (r : ℕ) → Some r ≡ thing low_first_role → Some r ≡ thing (next_member xs at after)
  next_low r e =
      let (q, l) = (thing_some low_first_role r).0 e in
      let p : r ≡ first 64 (member_after xs at after) = q ∙ low_first in
      (thing_some (next_member xs at after) r).1 (p ∙ first_sooner (member_after xs at after) 64 128 (omega arith) (λ z. omega arith), l)

  module _ (none : None ≡ thing low_first_role) where
    vain : first 64 (member_after xs at after) ≡ 0
    vain = sym low_first ∙ (thing_none low_first_role).0 none

    next_none : None ≡ thing high_first_role → None ≡ thing (next_member xs at after)
    next_none e = (thing_none (next_member xs at after)).1 (first_never (member_after xs at after) 64 64 vain (sym high_first ∙ (thing_none high_first_role).0 e))

    next_high : (r : ℕ) → Some r ≡ thing high_first_role → Some (64 + r) ≡ thing (next_member xs at after)
    next_high r e =
        let (q, l) = (thing_some high_first_role r).0 e in
        (thing_some (next_member xs at after) (64 + r)).1 (sym (first_later (member_after xs at after) 64 64 vain r l (sym (q ∙ high_first))), omega arith)

  within : (r : ℕ) → Some r ≡ thing high_first_role → r ≤ 64
  within r e = let (q, l) = (thing_some high_first_role r).0 e in rw q (first_within _ 64)

pub returns-in-Some : goal.returns-in-Some
returns-in-Some c = let a = c.args in next_low a.row.now 0 a.after _ (rw c.low_half.ensures at c.in-Some.ensures)

pub returns-in_err-high-in-None : goal.returns-in_err-high-in-None
returns-in_err-high-in-None c =
    let a = c.args in
    rw c.from_residual.ensures
    (next_none a.row.now 0 a.after
    (rw c.low_half.ensures at c.in-None.ensures)
    (rw (c.high_half.ensures, c.saturating_sub.ensures) at c.in_err-high-in-None.ensures))

pub overflow_add-result : goal.overflow_add-result
overflow_add-result c =
    let a = c.args in
    omega (arith, within a.row.now 0 a.after _ (rw (c.high_half.ensures, c.saturating_sub.ensures) at c.in_ok-high-in-None.ensures))

pub returns-in_ok-high-in-None : goal.returns-in_ok-high-in-None
returns-in_ok-high-in-None c =
    let a = c.args in
    next_high a.row.now 0 a.after
    (rw c.low_half.ensures at c.in-None.ensures)
    _
    (rw (c.high_half.ensures, c.saturating_sub.ensures) at c.in_ok-high-in-None.ensures)

-- Each turn stores the next row; those after the first n stay as they were made, empty.
use Prim.Native.Nat.{ℕ, ◌-◌}
use mathlib.Core.Path.{◌∙◌}
use native.Mathlib.Nat.{add-sub_cancel}
use native.Mathlib.Omega.{arith}
use native.Mathlib.Decide.{dec_le}
use borrow.Author.Rules.{rules}
use borrow.Author.Tests.{le-leb, lt-leb}
use lib.ListN.{get_or-replicate}
use Rattle.roleset.proofs.Bits.{bit_zero}
use Rattle.order.specs.inner.Members.{holds}
use Rattle.order.specs.inner.Rounds.{rows_more}
use Rattle.order.proofs.Stored.{set_row}
use Rattle.order.proofs.bounds.rows.Goals as goal

pub loop-i-preserved : goal.loop-i-preserved
loop-i-preserved c =
    let w = c.loop-i in (
      search rules,
      rows_more 32 _ _ w.i _ _ (search rules) w.invariant.1
          (set_row holds 0 _ w.r w.i c.packed.result (search rules) (simp (add-sub_cancel w.i 1) c.packed.ensures)),
    )

pub returns : goal.returns
returns c a b v u =
    let n = c.args.n in
    let done = c.loop-i.invariant.1 in
    elim (dec_le a n) [
      | yes l ↦ done.done a b (omega arith) u ∙ rw (le-leb a n l)
      | no l ↦ done.left a b (omega arith) v.1 u ∙ rw (lt-leb a n (omega arith), get_or-replicate {A = ℕ} 32 (a - 1) 0 0 (omega arith)) (bit_zero (b - 1))
    ]

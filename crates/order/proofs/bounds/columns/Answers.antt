-- Each turn puts one thing more into the columns, where it has a mark in its row.
use Prim.Native.Nat.{ℕ, ◌-◌}
use mathlib.Core.Path.{◌∙◌}
use native.Mathlib.Nat.{add-sub_cancel}
use native.Mathlib.Omega.{arith}
use borrow.Author.Tests.{lt-leb}
use lib.ListN.{get_or-replicate}
use Rattle.roleset.proofs.Bits.{bit_zero}
use Rattle.order.specs.Table.{mark}
use Rattle.order.proofs.Stored.{put_more}
use Rattle.order.proofs.bounds.columns.Goals as goal

pub loop-i-init : goal.loop-i-init
loop-i-init c a b v u = rw (lt-leb b 0 (omega arith), get_or-replicate {A = ℕ} 32 (a - 1) 0 0 (omega arith)) (bit_zero (b - 1))

pub loop-i-preserved : goal.loop-i-preserved
loop-i-preserved c a b v u =
    let t = c.args.t.now in
    let w = c.loop-i in
    c.spread-wider.ensures a b v u ∙ rw (w.invariant a b v u) (rw (add-sub_cancel w.i 1) at (put_more (λ x. mark t x a) w.i b))

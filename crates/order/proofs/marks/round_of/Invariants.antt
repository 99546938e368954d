-- Each turn stores the next row, made from the old table.
use Prim.Native.Nat.{◌+◌}
use mathlib.Core.Path.{◌≡◌}
use lib.ListN.{length}
use Rattle.order.specs.Closure.{round}
use Rattle.order.specs.Table.{mark, Rows}
use Rattle.order.proofs.marks.round_of.Given as goal

abbrev pub invariant-loop-i : goal.invariant-loop-i
invariant-loop-i l = (length l.t ≡ 32) × Rows 32 l.i (round (mark l.initial.t) (l.k + 1)) (mark l.initial.t) (mark l.t)

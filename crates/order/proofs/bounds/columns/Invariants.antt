-- Each turn puts one thing more into the columns, where it has a mark in its row.
use mathlib.Core.Bool.{◌&&◌}
use lib.Dec.{leb}
use Rattle.order.specs.Closure.{Agree}
use Rattle.order.specs.Table.{mark}
use Rattle.order.specs.inner.Members.{row_holds}
use Rattle.order.proofs.bounds.columns.Given as goal

abbrev pub invariant-loop-i : goal.invariant-loop-i
invariant-loop-i l = Agree 32 32 (row_holds l.r) (λ a b. leb b l.i && mark l.t b a)

-- Each turn stores the next row; those after the first n stay as they were made, empty.
use mathlib.Core.Path.{◌≡◌}
use lib.ListN.{length}
use Rattle.order.specs.Table.{mark, Rows}
use Rattle.order.specs.inner.Members.{row_holds}
use Rattle.order.proofs.bounds.rows.Given as goal

abbrev pub invariant-loop-i : goal.invariant-loop-i
invariant-loop-i l = (length l.r ≡ 32) × Rows 32 l.i (mark l.t) (row_holds l.initial.r) (row_holds l.r)

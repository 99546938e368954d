-- Each turn stores the next row.
use Prim.Native.Nat.{ℕ, ◌+◌}
use mathlib.Core.Path.{◌≡◌}
use mathlib.Core.Bool.{Bool, ◌&&◌, ◌||◌}
use mathlib.Core.List.{List}
use lib.Dec.{eqb}
use lib.ListN.{length}
use Rattle.order.specs.Closure.{Relation}
use Rattle.order.specs.Table.{marks, Rows}
use Rattle.order.specs.inner.Members.{row_holds}
use Rattle.order.proofs.bounds.spread.Given as goal

abbrev pub wider : List ℕ → List Bool → ℕ → Relation
wider t row i a b = row_holds t a b || (marks row a && eqb (i + 1) b)

abbrev pub invariant-loop-j : goal.invariant-loop-j
invariant-loop-j l = (length l.r ≡ 32) × Rows 32 l.j (wider l.t l.row l.i) (row_holds l.initial.r) (row_holds l.r)

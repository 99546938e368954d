-- Each turn stores one mark more, as the contract says it.
use mathlib.Core.Path.{◌≡◌}
use mathlib.Core.Bool.{◌&&◌, ◌||◌}
use lib.ListN.{length}
use Rattle.order.specs.Table.{marks, Upto}
use Rattle.order.proofs.marks.stepped.Given as goal

abbrev pub invariant-loop-j : goal.invariant-loop-j
invariant-loop-j l = (length l.r ≡ 32) × Upto l.j (λ b. marks l.row b || (l.on && marks l.other b)) l.r

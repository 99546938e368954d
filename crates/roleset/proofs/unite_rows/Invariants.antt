-- Each turn places one row more, which has had no turn before.
use Rattle.std.proofs.Common.{◌+◌, ◌*◌}
use Rattle.roleset.specs.Row.{united_where, PlacedRows}
use Rattle.roleset.proofs.unite_rows.Given as goal

abbrev pub invariant-loop-i : goal.invariant-loop-i
invariant-loop-i l = PlacedRows l.at l.i (λ j. united_where l.initial.s (l.at + 16 * j) l.role l.other) l.initial.s l.s

-- The invariant: the first i bytes of b stand in s from `at` on.
use Rattle.std.proofs.Common.{◌≡◌, length}
use lib.Seq.{paste}
use Rattle.monitor.proofs.sessions.put.Given as goal

abbrev pub invariant-loop-i : goal.invariant-loop-i
invariant-loop-i l = (length l.s ≡ length l.initial.s) × (l.s ≡ paste l.initial.s l.at l.b l.i)

-- i bytes are united with the other's.
use Rattle.std.proofs.Common.{get_or, bit_or}
use Rattle.roleset.proofs.Rows.{Written}
use Rattle.roleset.proofs.inner.join.Given as goal

abbrev pub invariant-loop-i : goal.invariant-loop-i
invariant-loop-i l = Written 0 l.i (λ k. bit_or (get_or l.initial.row k 0) (get_or l.other k 0)) l.initial.row l.row

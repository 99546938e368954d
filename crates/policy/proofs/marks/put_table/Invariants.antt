-- Each turn puts one row more.
use Rattle.policy.specs.inner.Filling.{DominanceRows}
use Rattle.policy.proofs.marks.put_table.Given as goal

abbrev pub invariant-loop-i : goal.invariant-loop-i
invariant-loop-i l = DominanceRows l.i l.t l.initial.s l.s

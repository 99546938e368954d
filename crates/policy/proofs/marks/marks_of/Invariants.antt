-- Each turn makes the mark of one line more.
use Rattle.policy.specs.inner.Filling.{Marking}
use Rattle.policy.proofs.marks.marks_of.Given as goal

abbrev pub invariant-loop-i : goal.invariant-loop-i
invariant-loop-i l = Marking l.p l.i l.t

-- Each turn notes the label of one line more.
use Rattle.policy.specs.inner.Filling.{NotedBytes}
use Rattle.policy.proofs.labels.note_lines.Given as goal

abbrev pub invariant-loop-i : goal.invariant-loop-i
invariant-loop-i l = NotedBytes l.table.at l.table.size l.p l.i l.initial.s l.s

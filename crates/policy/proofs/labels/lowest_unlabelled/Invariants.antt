-- A search among the first n things.
use Rattle.std.proofs.Common.{◌≡◌}
use Rattle.search.specs.Search.{first}
use Rattle.policy.specs.inner.Filling.{unlabelled_in}
use Rattle.policy.proofs.labels.lowest_unlabelled.Given as goal

abbrev pub invariant-loop-i : goal.invariant-loop-i
invariant-loop-i l = first l.i (unlabelled_in l.s l.table.at) ≡ 0

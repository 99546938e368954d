-- A search among the first cards, for two roles that differ.
use Rattle.std.proofs.Common.{◌≡◌, false}
use Rattle.search.specs.Search.{some}
use Rattle.policy.specs.Tables.{flows_by_card}
use Rattle.policy.proofs.flow.flows.Given as goal

abbrev pub invariant-loop-o : goal.invariant-loop-o
invariant-loop-o l = some l.o (flows_by_card l.s l.from l.to) ≡ false

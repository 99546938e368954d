-- Each turn relates by one card more.
use Rattle.search.specs.Search.{some}
use Rattle.order.specs.Table.{related}
use Rattle.order.specs.Closure.{Agree}
use Rattle.policy.specs.Tables.{flows_by_card}
use Rattle.policy.proofs.flow.flow_table.Given as goal

abbrev pub invariant-loop-o : goal.invariant-loop-o
invariant-loop-o l = Agree 128 128 (related l.t 0) (λ r q. some l.o (flows_by_card l.s r q))

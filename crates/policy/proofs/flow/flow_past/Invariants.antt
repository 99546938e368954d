-- Each turn gives the next writer's row those who may read or write the card, and the rows before it are no writer's; both sets were taken before the first.
use Rattle.std.proofs.Common.{◌+◌, ◌≤◌, ◌-◌, ◌≡◌, length}
use Rattle.order.specs.Table.{Tabled}
use Rattle.policy.specs.inner.Filling.{past_card}
use Rattle.policy.proofs.flow.flow_past.Given as goal

abbrev pub invariant-loop-writer : goal.invariant-loop-writer
invariant-loop-writer l = record {
  within : l.i ≤ 128;
  same : length l.t ≡ length l.initial.t;
  done : Tabled 0 l.i (past_card l.initial.t l.s (l.o + 1)) l.initial.t l.t;
}

abbrev pub decreases-loop-writer : goal.decreases-loop-writer
decreases-loop-writer l = 128 - l.i

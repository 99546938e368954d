-- Each turn takes one role more out of its own row.
use Rattle.order.specs.Table.{Tabled}
use Rattle.policy.specs.inner.Filling.{without_loops}
use Rattle.policy.proofs.flow.remove_itself.Given as goal

abbrev pub invariant-loop-i : goal.invariant-loop-i
invariant-loop-i l = Tabled 0 l.i (without_loops l.initial.t) l.initial.t l.t

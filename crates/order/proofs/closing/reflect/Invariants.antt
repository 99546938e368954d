-- Each turn relates one thing more to itself.
use Rattle.order.specs.Closure.{with_itself}
use Rattle.order.proofs.closing.reflect.Given as goal

abbrev pub invariant-loop-i : goal.invariant-loop-i
invariant-loop-i g l = g.T.Closing.becomes l.i (with_itself (g.T.Closing.relates l.initial.t)) l.initial.t l.t

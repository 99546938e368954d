-- A search among the first n things.
use Rattle.std.proofs.Common.{◌≡◌}
use Rattle.order.specs.Closure.{loop}
use Rattle.order.proofs.closing.lowest_loop.Given as goal

abbrev pub invariant-loop-i : goal.invariant-loop-i
invariant-loop-i g l = loop l.i (g.T.Closing.relates l.t) ≡ 0

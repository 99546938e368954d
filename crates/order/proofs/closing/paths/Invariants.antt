-- Each round lets paths pass one thing more.
use Rattle.order.specs.Closure.{via}
use Rattle.order.proofs.closing.paths.Given as goal

abbrev pub invariant-loop-k : goal.invariant-loop-k
invariant-loop-k g l = g.T.Closing.becomes l.m (via (g.T.Closing.relates l.initial.t) l.k) l.initial.t l.t

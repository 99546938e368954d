-- Each round lets paths pass one thing more.
use Rattle.std.proofs.Common.{ℕ, ◌+◌, ◌≡◌, add-one, arith}
use Rattle.order.specs.Closure.{Relation, via, round}
use Rattle.order.proofs.closing.paths.Goals as goal

via_next : (e : Relation) (k : ℕ) → via e (k + 1) ≡ round (via e k) (k + 1)
unfolding via
via_next e k = rw add-one

pub loop-k-init : goal.loop-k-init
unfolding via
loop-k-init g c = g.met.T.Closing.before_rounds _ _

pub loop-k-preserved : goal.loop-k-preserved
loop-k-preserved g c =
    let w = c.loop-k in
    rw via_next (g.met.T.Closing.after_round _ w.k _ _ _ _ (omega arith) (omega arith) w.invariant c.pass.ensures)

-- Each turn relates one thing more to itself.
use Rattle.std.proofs.Common.{◌≡◌, min, arith}
use Rattle.order.proofs.closing.reflect.Goals as goal

pub loop-i-preserved : goal.loop-i-preserved
loop-i-preserved g c = let w = c.loop-i in g.met.T.Closing.after_link w.i _ _ _ (omega arith) w.invariant c.link.ensures

pub returns : goal.returns
returns g c =
    let w = c.loop-i in
    let all : w.i ≡ min c.args.n g.T.Closing.ROOM = omega arith in
    rw all at w.invariant

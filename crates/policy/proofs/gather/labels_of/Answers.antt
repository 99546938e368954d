-- Each turn puts in one label more, where its row has the role.
use Rattle.std.proofs.Common.{◌*◌, ◌≡◌, ◌∙◌, le-leb, arith, zero-add}
use Rattle.order.proofs.Placing.{row_tested}
use Rattle.order.proofs.Stored.{put_none, put_more}
use Rattle.order.specs.Table.{related}
use Rattle.policy.proofs.gather.labels_of.Goals as goal

pub loop-i-preserved : goal.loop-i-preserved
loop-i-preserved c l v =
    let w = c.loop-i in
    let a = c.args in
    c.with-r.ensures l v
    ∙ rw (w.invariant l v, row_tested a.g.now 0 w.i _ _ (omega arith) (rw (← (zero-add (16 * w.i))) at c.has.ensures)) (put_more (λ l. related a.g.now 0 l a.role) w.i l)

pub returns : goal.returns
returns c l v =
    let w = c.loop-i in
    let all : w.i ≡ 32 = omega arith in
    rw (all, le-leb l 32 v.1) at (w.invariant l v)

pub loop-i-init : goal.loop-i-init
loop-i-init c l v = put_none l _ v.0

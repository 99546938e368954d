-- Each turn puts one thing more, where it has a mark.
use mathlib.Core.Path.{◌∙◌}
use native.Mathlib.Nat.{add-sub_cancel}
use Rattle.order.specs.Table.{marks}
use Rattle.order.proofs.Stored.{put_more}
use Rattle.order.proofs.bounds.packed.Goals as goal

pub loop-j-preserved : goal.loop-j-preserved
loop-j-preserved c =
    let row = c.args.row in
    let w = c.loop-j in
    λ b v. c.put-r.ensures b v ∙ rw (w.invariant b v) (rw (add-sub_cancel w.j 1) at (put_more (marks row) w.j b))

-- Each turn puts one row more.
use Rattle.policy.proofs.Marked.{put_none, put_more}
use Rattle.policy.proofs.marks.put_table.Goals as goal

pub loop-i-preserved : goal.loop-i-preserved
loop-i-preserved c =
    let w = c.loop-i in
    put_more _ _ w.i w.s _ w.invariant c.put_row.ensures

pub loop-i-init : goal.loop-i-init
loop-i-init c = put_none _ _

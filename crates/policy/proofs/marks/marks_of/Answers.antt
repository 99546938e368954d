-- Each turn makes the mark of one line more.
use Rattle.policy.proofs.Marked.{marks_none, marks_more}
use Rattle.policy.proofs.marks.marks_of.Goals as goal

pub loop-i-preserved : goal.loop-i-preserved
loop-i-preserved c =
    let w = c.loop-i in
    marks_more c.args.p.now w.i w.t c.add_pair.new.t w.invariant (rw (c.first_number.ensures, c.second_number.ensures) at c.add_pair.ensures)

pub loop-i-init : goal.loop-i-init
loop-i-init c = marks_none _

-- Each turn notes the label of one line more.
use Rattle.policy.proofs.Noted.{notes_none, notes_more}
use Rattle.policy.proofs.labels.note_lines.Goals as goal

pub loop-i-preserved : goal.loop-i-preserved
loop-i-preserved c =
    let w = c.loop-i in
    let a = c.args in
    notes_more a.table.at a.table.size a.p.now a.s.now w.i w.s _ w.invariant (rw (c.first_number.ensures, c.second_number.ensures) at c.note.ensures)

pub loop-i-init : goal.loop-i-init
loop-i-init c = notes_none _ _ _ _

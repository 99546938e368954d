-- Each turn puts the line of the flow to one role more. The check finds this alone; an edit of the order is refused here, at the role.
use Rattle.std.proofs.Common.{◌≡◌, ◌+◌, ◌-◌, arith, rules}
use Rattle.text.proofs.Each.{each_next}
use Rattle.rolecheck.proofs.report.flows_from.Goals as goal

pub loop-to-preserved : goal.loop-to-preserved
loop-to-preserved c =
    let w = c.loop-to in
    let same : w.to + 1 - 1 ≡ w.to = omega arith in
    (search rules, rw same (each_next _ w.to (search rules) w.invariant.1 c.flow_line.ensures))

-- The line of the three numbers. The check finds this alone; an edit of the numbers is refused here.
use Rattle.rolecheck.proofs.report.verdict_line.Goals as goal

pub returns : goal.returns
returns c = c.line.ensures

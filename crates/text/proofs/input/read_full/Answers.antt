-- No more is read than there is room for. The check finds this alone; an edit of the count is refused here.
use Rattle.std.proofs.Common.{arith}
use Rattle.text.proofs.input.read_full.Goals as goal

pub returns-after-loop-done-clause-bound : goal.returns-after-loop-done-clause-bound
returns-after-loop-done-clause-bound g c = omega arith

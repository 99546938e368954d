-- A file of a good length is refused as its lines are. The check finds this alone; an edit of the limit is refused here, at the length.
use Rattle.std.proofs.Common.{◌∙◌, arith}
use Rattle.std.proofs.lemmas.Grind.{common_steps}
use Rattle.rolefile.proofs.Scanning.{good_size}
use Rattle.rolefile.proofs.check.lines.Goals as goal

pub returns : goal.returns
returns c =
    c.scan.ensures
    ∙ good_size _ record { some = grind (arith, common_steps); whole = grind (arith, common_steps); short = c.if-f-gt-LENGTH_LIMIT.false }

-- Where there is no row it is empty.
use Rattle.std.proofs.Common.{arith}
use Rattle.roleset.proofs.Rows.{zero_rows}
use Rattle.roleset.proofs.row.Goals as goal

pub returns-in-None : goal.returns-in-None
returns-in-None c r = rw c.in-None.ensures (zero_rows 16 0 r (omega arith))

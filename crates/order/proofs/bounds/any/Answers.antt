-- A number of 32 bits is 0 where it has none.
use native.Mathlib.Omega.{arith}
use Rattle.search.proofs.Found.{some_unless}
use Rattle.roleset.proofs.Bits.{none_set}
use Rattle.order.proofs.bounds.any.Goals as goal

pub returns : goal.returns
returns c = some_unless (none_set 32 c.args.s (omega arith))

-- What the two have in common is all of s where each of s is in t.
use native.Mathlib.Omega.{arith}
use Rattle.roleset.proofs.Bits.{all_within}
use Rattle.order.proofs.bounds.within.Goals as goal

pub returns : goal.returns
returns c = all_within 32 c.args.s c.args.t (omega arith) (omega arith)

-- The first eight bytes are the number's.
use Rattle.std.proofs.Common.{arith}
use Rattle.roleset.proofs.Bits.{little_endian}
use Rattle.roleset.proofs.Sets.{first_half}
use Rattle.roleset.proofs.inner.low_half.Goals as goal

pub returns : goal.returns
unfolding little_endian
returns c = omega (arith, c.from_le_bytes.ensures, first_half c.args.row.now c.fits-row)

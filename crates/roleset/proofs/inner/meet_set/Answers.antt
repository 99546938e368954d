-- The numbers of the row and of the set share no bit exactly where the row and the set share no role.
use Rattle.std.proofs.Common.{arith}
use Rattle.roleset.specs.Row.{member}
use Rattle.roleset.proofs.Sets.{sets_meet}
use Rattle.roleset.proofs.inner.meet_set.Goals as goal

pub returns : goal.returns
returns c =
    let a = c.args in
    rw (c.low_half.ensures, c.high_half.ensures) (sets_meet (member a.row.now 0) a.low a.high (omega arith) (omega arith))

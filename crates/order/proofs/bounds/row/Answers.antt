-- What is none of the 32 has an empty row.
use Rattle.std.proofs.Common.{◌+◌, ◌-◌, arith}
use native.Mathlib.Nat.{add-sub_cancel}
use Rattle.search.specs.Search.{among}
use Rattle.search.proofs.Truth.{among_iff, untrue}
use Rattle.roleset.proofs.Bits.{bit_zero}
use Rattle.order.proofs.bounds.row.Goals as goal

pub returns-in-Some : goal.returns-in-Some
returns-in-Some c b w =
    let i = c.in-Some.i in
    rw (c.in-Some.ensures.1, (among_iff 32 (i + 1)).1 (omega arith), add-sub_cancel i 1)

pub returns-in-None : goal.returns-in-None
returns-in-None c b w = rw (untrue (among 32 c.args.a) (λ e. c.in-None.ensures ((among_iff 32 c.args.a).0 e)), bit_zero (b - 1))

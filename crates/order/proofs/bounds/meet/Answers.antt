-- What the three have in common is 0 where no thing is in all of them.
use Prim.Native.Nat.{◌-◌}
use mathlib.Core.Path.{◌∙◌}
use mathlib.Core.Bool.{◌&&◌}
use native.Mathlib.Omega.{arith}
use lib.Bits.{bit_and, and_lt}
use Rattle.search.proofs.Found.{some_unless, some_agree}
use Rattle.roleset.proofs.Bits.{bit_and_lem, none_set}
use Rattle.order.specs.inner.Members.{holds}
use Rattle.order.proofs.bounds.meet.Goals as goal

pub returns : goal.returns
returns c =
    let s = c.args.s in
    let t = c.args.t in
    let u = c.args.u in
    let both = bit_and t u in
    some_unless (none_set 32 (bit_and s both) (and_lt 32 s both (omega arith) (and_lt 32 t u (omega arith) (omega arith))))
    ∙ some_agree (holds (bit_and s both)) (λ a. holds s a && (holds t a && holds u a)) 32 (λ a w. rw (bit_and_lem s both (a - 1), bit_and_lem t u (a - 1)))

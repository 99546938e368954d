-- All bytes are united with the other's, so all bits are.
use Rattle.std.proofs.Common.{ℕ, ◌≡◌, get_or, bit_or, zero-add, arith, ap, ◌∙◌}
use mathlib.Core.Bool.{and-or_distrib_left}
use Rattle.roleset.specs.Row.{member}
use Rattle.roleset.proofs.Bits.{bit_or_lem}
use Rattle.roleset.proofs.Rows.{write_more, write_all}
use Rattle.roleset.proofs.inner.join.Goals as goal

pub loop-i-preserved : goal.loop-i-preserved
loop-i-preserved c =
    let w = c.loop-i in
    let other = c.args.other in
    let kept : get_or w.row w.i 0 ≡ get_or c.args.row.now w.i 0 = w.invariant.rest w.i (λ l. omega arith) in
    let long = w.invariant.long in
    rw zero-add at (write_more {byte = bit_or (get_or w.row w.i 0) (get_or other w.i 0)} w.invariant (omega arith) (ap (λ (x : ℕ). bit_or x (get_or other w.i 0)) kept))

pub returns : goal.returns
unfolding member
returns c = record {
  long = c.loop-i.invariant.long ∙ c.told-row;
  roles = (write_all c.loop-i.invariant (omega arith) (omega arith) (λ r. rw (bit_or_lem, and-or_distrib_left, zero-add))).row (omega arith);
}

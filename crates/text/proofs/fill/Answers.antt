-- Each turn puts one byte more, up to the end of the part or of the bytes.
use Rattle.std.proofs.Common.{refl, arith}
use native.Mathlib.Numerals.{add-one}
use lib.ListN.{get_or, length-set}
use lib.Seq.{take-suc, take-suc-set}
use Rattle.text.proofs.fill.Goals as goal

pub loop-i-init : goal.loop-i-init
loop-i-init c = (refl, omega arith, refl)

pub loop-i-preserved : goal.loop-i-preserved
loop-i-preserved c =
    let w = c.loop-i in
    let bytes = c.args.bytes.now in (
      simp length-set (omega arith),
      simp length-set (omega arith),
      rw (add-one, take-suc-set w.part w.i (get_or bytes w.i 0) (omega arith), w.invariant.2, take-suc bytes w.i 0 (omega arith)),
    )

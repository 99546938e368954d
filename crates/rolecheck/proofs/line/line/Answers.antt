-- The letter, three fields, and the end.
use Rattle.std.proofs.Common.{◌≡◌, arith}
use Rattle.text.proofs.Added.{adds_then, adds_as}
use Rattle.rolecheck.proofs.Fields.{three_fields}
use Rattle.rolecheck.proofs.line.line.Goals as goal

pub returns : goal.returns
returns c =
    let w = c.loop-place in
    let all : w.place ≡ 3 = omega arith in
    adds_as (three_fields c.args.numbers.now c.args.letter) (adds_then (adds_then c.put.ensures (rw all at w.invariant)) c.put-2.ensures)

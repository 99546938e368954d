-- A digit after one of the numbers 1 to 9999 is a digit more. The check finds this alone; an edit of the test is refused here, at the number.
use Rattle.std.proofs.Common.{◌≡◌, true, false}
use mathlib.Core.Bool.{and-false}
use Rattle.search.specs.Search.{among}
use Rattle.search.proofs.Truth.{passed, failed}
use Rattle.rolefile.specs.Field.{is_digit, column}
use Rattle.rolefile.proofs.read.next_digit.Goals as goal

pub returns : goal.returns
unfolding column
returns c =
    let further : among 9999 c.args.n ≡ true = passed c.among.ensures c.if-not-among.false in
    rw (passed c.is_digit.ensures c.if-not-is_digit.false, further, c.value.ensures.0)

pub returns-then-not-among : goal.returns-then-not-among
unfolding column
returns-then-not-among c =
    let other : among 9999 c.args.n ≡ false = failed c.among.ensures c.if-not-among.true in
    rw (other, and-false (is_digit c.args.b))

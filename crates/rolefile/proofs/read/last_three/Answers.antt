-- Of three digits the first is not 0. The check finds this alone; an edit of the first digit is refused here.
use Rattle.std.proofs.Common.{arith}
use Rattle.rolefile.proofs.Decimals.{DigitFrom, IsDigit, three_digits}
use Rattle.rolefile.proofs.read.last_three.Goals as goal

pub returns-in-49-to-57-48-to-57 : goal.returns-in-49-to-57-48-to-57
returns-in-49-to-57-48-to-57 c =
    let a = c.args in
    let first : DigitFrom 49 a.x = omega arith in
    let second : IsDigit a.y = omega arith in
    rw (c.value-in-49-to-57-48-to-57.ensures.0, c.value-in-49-to-57-48-to-57-2.ensures.0, c.value-in-49-to-57-48-to-57-3.ensures.0)
    (three_digits a.x a.y a.z c.requires first second)

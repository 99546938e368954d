-- What the table by itself becomes, so does the table in the slice.
use Rattle.std.proofs.Common.{◌+◌, ◌-◌, ◌≤◌, ◌≡◌, min, sym, length, arith}
use borrow.Author.Tests.{leb-true}
use Rattle.order.proofs.Placing.{part_size, part_related, tabled_from}
use Rattle.order.proofs.rows.reflect.Goals as goal

pub returns-then-rows_lie : goal.returns-then-rows_lie
returns-then-rows_lie c =
    let a = c.args in
    let xs = a.s.now in
    let k = a.at + 2048 - a.at in
    let m = min a.n 128 in
    let fits : a.at + 2048 ≤ length xs = leb-true _ _ (sym c.if-rows_lie.ensures) in
    let size : k ≡ 2048 = omega arith in
    let few : m ≤ 128 = omega arith in
    let part = part_related a.at k xs fits size in
    let of = c.reflect_of in
    tabled_from a.at k xs fits size m _ _ of.new.table few of.auto.table (of.ensures (part_size a.at k xs fits size)).1
    (λ x y v w. rw (part x y (omega arith) w))

-- A search in the table by itself.
use Rattle.std.proofs.Common.{◌+◌, ◌-◌, ◌≤◌, ◌≡◌, ◌∙◌, ap, min, sym, length, arith}
use borrow.Author.Tests.{leb-true}
use Rattle.search.specs.Search.{thing}
use Rattle.search.proofs.Found.{first_agree}
use Rattle.order.specs.Closure.{to_itself}
use Rattle.order.specs.Table.{related}
use Rattle.order.proofs.Placing.{part_related}
use Rattle.order.proofs.rows.lowest_loop.Goals as goal

pub returns : goal.returns
returns c =
    let a = c.args in
    let xs = a.s.now in
    let k = a.at + 2048 - a.at in
    let fits : a.at + 2048 ≤ length xs = leb-true _ _ (sym c.if-not-rows_lie.ensures) in
    let size : k ≡ 2048 = omega arith in
    let part = part_related a.at k xs fits size in
    let whole = c.in_ok-as_array.ensures.cases.same in
    rw (← c.if-not-rows_lie.ensures)
    (c.lowest_loop.ensures
    ∙ rw whole (ap thing (first_agree _ (to_itself (related xs a.at)) (min a.n 128) (λ x w. part x x (omega arith) (omega arith)))))

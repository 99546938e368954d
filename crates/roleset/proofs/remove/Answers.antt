-- The row is written, if there is one.
use Rattle.std.proofs.Common.{◌+◌, ◌-◌, sym, arith}
use borrow.Author.Tests.{leb-true}
use Rattle.roleset.proofs.Rows.{front, placed_from}
use Rattle.roleset.proofs.remove.Goals as goal

pub returns-then-rows_lie : goal.returns-then-rows_lie
returns-then-rows_lie c =
    let a = c.args in
    let inside = leb-true (a.at + 16) _ (sym c.if-rows_lie.ensures) in
    placed_from a.at _ a.s.now inside (omega arith) c.remove.new.from c.remove.auto.from c.remove.ensures (λ r. rw (front a.at (a.at + 16 - a.at) a.s.now inside (omega arith) r))

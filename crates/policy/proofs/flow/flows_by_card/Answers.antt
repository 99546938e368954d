-- The rows lie in the state, and each test is of the row and the role that flow is defined by.
use Rattle.std.proofs.Common.{◌+◌, ◌≡◌, rules}
use Rattle.order.specs.Table.{related}
use Rattle.order.proofs.Placing.{row_tested}
use Rattle.policy.specs.Tables.{readers_at, writers_at}
use Rattle.policy.proofs.flow.flows_by_card.Goals.{After-has}
use Rattle.policy.proofs.flow.flows_by_card.Goals as goal

-- what the first test asks
writes : (c : After-has) → let a = c.args in c.has.result ≡ related a.s.now writers_at (a.o + 1) a.from
writes c = let a = c.args in row_tested a.s.now writers_at a.o a.from _ (search rules) c.has.ensures

pub returns-else-has : goal.returns-else-has
returns-else-has c = rw (← writes (goal.at.returns-else-has c).After-has, c.if-has.false)

pub returns-then-has : goal.returns-then-has
returns-then-has c =
    let a = c.args in
    rw (
      ← writes (goal.at.returns-then-has c).After-has,
      c.if-has.true,
      row_tested a.s.now readers_at a.o a.to _ (search rules) c.has-then-has.ensures,
      row_tested a.s.now writers_at a.o a.to _ (search rules) c.has-then-has-2.ensures,
    )

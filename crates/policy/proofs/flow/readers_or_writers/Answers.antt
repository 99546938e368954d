-- Both rows lie in the state, and the writers are put into the readers' row.
use Rattle.std.proofs.Common.{rules}
use Rattle.policy.proofs.Flowing.{either_row}
use Rattle.policy.proofs.flow.readers_or_writers.Goals as goal

pub returns : goal.returns
returns c =
    let a = c.args in
    either_row a.s.now c.row-either.result c.row-writers.result _ a.o (search rules) (search rules) (search rules)
    c.row-either.ensures c.row-writers.ensures c.unite.ensures

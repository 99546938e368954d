-- The slice is the table.
use Rattle.order.proofs.rows.paths_of.Goals as goal

pub returns-in-Some : goal.returns-in-Some
returns-in-Some c = rw c.in-Some.ensures.cases.same at c.paths.ensures

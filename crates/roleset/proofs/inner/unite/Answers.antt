-- The row is united.
use Rattle.std.proofs.Common.{◌∙◌}
use Rattle.roleset.proofs.Rows.{first_roles, placed_first}
use Rattle.roleset.proofs.inner.unite.Goals as goal

pub returns-in-Some : goal.returns-in-Some
returns-in-Some c =
    let a = c.args in
    let h = c.in-Some.ensures.cases in
    let row = c.in-Some.row.now in
    placed_first a.from.now c.join.new.row h.enough c.join.ensures.long (λ r. c.join.ensures.roles r ∙ rw (first_roles a.from.now row h r))

-- A number that is none of the table's relates nothing.
use Rattle.std.proofs.Common.{ne_eqb, arith}
use Rattle.search.specs.Search.{Among}
use Rattle.search.proofs.Truth.{one_of, none_of}
use Rattle.policy.proofs.Relating.{related_none, related_one}
use Rattle.policy.proofs.rows.relate.Goals.{Else-not-among}
use Rattle.policy.proofs.rows.relate.Goals as goal

known : (c : Else-not-among) → let a = c.args in Among a.table.size a.x
known c = one_of _ _ c.among.ensures c.if-not-among.false

pub returns-then-not-among : goal.returns-then-not-among
returns-then-not-among c =
    let a = c.args in
    related_none _ _ _ _ (λ y r v w. rw (ne_eqb a.x y (λ e. none_of a.table.size a.x c.among.ensures c.if-not-among.true (rw e v))))

pub returns : goal.returns
returns c =
    let a = c.args in
    let inside = a.table.inside in
    related_one a.table.at a.table.size a.x a.role a.s.now _ (omega arith) (known (goal.at.returns c).Else-not-among) c.add.ensures

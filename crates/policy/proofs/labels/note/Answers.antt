-- One byte is stored, where x is one of the table's things.
use Rattle.std.proofs.Common.{arith}
use Rattle.search.specs.Search.{Among}
use Rattle.search.proofs.Truth.{one_of, none_of}
use Rattle.policy.proofs.Noted.{note_none, note_one}
use Rattle.policy.proofs.labels.note.Goals.{Else-not-among}
use Rattle.policy.proofs.labels.note.Goals as goal

known : (c : Else-not-among) → let a = c.args in Among a.table.size a.x
known c = one_of _ _ c.among.ensures c.if-not-among.false

pub returns-then-not-among : goal.returns-then-not-among
returns-then-not-among c =
    let a = c.args in
    note_none a.table.at a.table.size a.x a.label a.s.now (none_of _ _ c.among.ensures c.if-not-among.true)

pub returns : goal.returns
returns c =
    let a = c.args in
    let w = known (goal.at.returns c).Else-not-among in
    note_one a.table.at a.table.size a.x a.label a.s.now c.noted.result w (omega (arith, w, a.table.inside)) c.noted.ensures

-- Nothing of a slice that is too short, nor of a number that is no role's.
use Rattle.std.proofs.Common.{◌&&◌, arith}
use mathlib.Core.Bool.{and-false}
use Rattle.search.specs.Search.{among, Among}
use Rattle.search.proofs.Truth.{passed, failed, one_of, answered, refused}
use Rattle.policy.specs.Tables.{is_state}
use Rattle.policy.proofs.Flowing.{no_state, a_state, front_byte}
use Rattle.policy.proofs.flow.level.Goals.{Else-not-among}
use Rattle.policy.proofs.flow.level.Goals as goal

known : (c : Else-not-among) → Among c.args.table.size c.args.role
known c = one_of c.args.table.size _ c.among.ensures c.if-not-among.false

pub returns-in_default : goal.returns-in_default
returns-in_default c = let a = c.args in refused {b = is_state a.s.now && among a.table.size a.role} _ (rw (no_state a.s.now c.in_default.ensures.cases))

pub returns-then-not-among : goal.returns-then-not-among
returns-then-not-among c =
    let a = c.args in
    refused {b = is_state a.s.now && among a.table.size a.role} _ (rw (failed c.among.ensures c.if-not-among.true, and-false (is_state a.s.now)))

pub returns : goal.returns
returns c =
    let a = c.args in
    let chunk = c.in-Some.ensures.cases in
    let w = known (goal.at.returns c).Else-not-among in
    answered {b = is_state a.s.now && among a.table.size a.role} (rw (a_state a.s.now chunk.enough, passed c.among.ensures c.if-not-among.false))
    (front_byte a.s.now c.in-Some.s.now chunk.same _ (omega (arith, w, a.table.inside)))

pub bounds-s-table : goal.bounds-s-table
bounds-s-table c = omega (arith, known (goal.at.bounds-s-table c).Else-not-among, c.args.table.inside)

-- None of a slice that is too short, and else the state's.
use Rattle.std.proofs.Common.{arith}
use Rattle.search.proofs.Truth.{answered, refused}
use Rattle.policy.specs.Tables.{role_count_at}
use Rattle.policy.proofs.Flowing.{no_state, a_state, front_up_to}
use Rattle.policy.proofs.flow.roles.Goals as goal

pub returns-in-None : goal.returns-in-None
returns-in-None c = refused _ (no_state c.args.s.now c.in-None.ensures.cases)

pub returns-in-Some : goal.returns-in-Some
returns-in-Some c =
    let chunk = c.in-Some.ensures.cases in
    answered (a_state c.args.s.now chunk.enough) (rw (front_up_to c.args.s.now c.in-Some.s.now chunk.same role_count_at 128 (omega arith)) at c.count.ensures)

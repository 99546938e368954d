-- The roles that may write a card, each with those that may read or write it, and then without itself.
use Rattle.std.proofs.Common.{◌∙◌, arith, rules}
use Rattle.roleset.specs.Row.{row_of}
use Rattle.roleset.proofs.Rows.{zero_rows}
use Rattle.policy.specs.Tables.{cards_up_to}
use Rattle.policy.proofs.Flowing.{no_state, a_state, front_flowing, without_loops_flows}
use Rattle.policy.proofs.flow.table.Goals as goal

pub returns-in_default : goal.returns-in_default
returns-in_default c r q u v = rw (no_state c.args.s.now c.in_default.ensures.cases) (zero_rows 2048 (row_of 0 r) q (omega arith))

pub returns : goal.returns
returns c r q u v =
    let s = c.in-Some.s.now in
    let chunk = c.in-Some.ensures.cases in
    (c.remove_itself.ensures.rows (search rules)).done r q u v
    ∙ without_loops_flows s c.flow_table-t.result (cards_up_to s) (rw c.count.ensures at c.flow_table-t.ensures) r q u v
    ∙ front_flowing c.args.s.now s chunk.same r q
    ∙ rw (a_state c.args.s.now chunk.enough)

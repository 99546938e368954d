-- Each turn relates by one card more.
use Rattle.std.proofs.Common.{sym, ◌∙◌, arith, rules}
use Rattle.roleset.specs.Row.{row_of}
use Rattle.search.proofs.Found.{some_more, some_yet}
use Rattle.roleset.proofs.Rows.{zero_rows}
use Rattle.policy.specs.Tables.{flows_by_card}
use Rattle.policy.proofs.flow.flow_table.Goals as goal

pub loop-o-init : goal.loop-o-init
loop-o-init c r q u v = zero_rows 2048 (row_of 0 r) q (omega arith) ∙ sym (some_yet _)

pub loop-o-preserved : goal.loop-o-preserved
loop-o-preserved c r q u v =
    let w = c.loop-o in
    (c.flow_past.ensures.rows (search rules)).done r q u v
    ∙ rw (w.invariant r q u v) (sym (some_more (flows_by_card c.args.s.now r q) w.o))

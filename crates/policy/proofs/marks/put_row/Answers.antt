-- Each turn stores one byte more.
use Rattle.std.proofs.Common.{add-sub_cancel, arith, rules}
use Rattle.roleset.proofs.Rows.{write_none, write_more}
use Rattle.policy.proofs.Noted.{all_stored}
use Rattle.policy.proofs.marks.put_row.Invariants.{byte_at}
use Rattle.policy.proofs.marks.put_row.Goals as goal

pub loop-j-preserved : goal.loop-j-preserved
loop-j-preserved c =
    let w = c.loop-j in
    write_more w.invariant (search rules) (simp (add-sub_cancel w.j 1) c.byte.ensures)

pub returns : goal.returns
returns c = all_stored (byte_at c.args.row) c.loop-j.invariant (omega arith)

pub loop-j-init : goal.loop-j-init
loop-j-init c = write_none

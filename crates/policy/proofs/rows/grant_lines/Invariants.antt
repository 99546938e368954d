-- Each line grants its own; the seniors' rows stay as they were.
use Rattle.policy.specs.inner.Filling.{granted_by_lines, GrantedRows}
use Rattle.policy.proofs.rows.grant_lines.Given as goal

abbrev pub invariant-loop-i : goal.invariant-loop-i
invariant-loop-i l = GrantedRows (granted_by_lines l.initial.s l.p l.i) l.initial.s l.s

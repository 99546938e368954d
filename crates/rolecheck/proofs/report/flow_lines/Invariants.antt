-- Each turn puts the lines of the flows from one role more.
use Rattle.std.proofs.Common.{◌+◌, ◌-◌, ◌≤◌}
use Rattle.policy.specs.Tables.{flows_in, role_count}
use Rattle.text.specs.Text.{each}
use Rattle.text.specs.Added.{Adds}
use Rattle.rolecheck.specs.Report.{flows_from}
use Rattle.rolecheck.proofs.report.flow_lines.Given as goal

abbrev pub invariant-loop-from : goal.invariant-loop-from
invariant-loop-from l = (l.from ≤ l.roles + 1) × Adds (each (l.from - 1) (flows_from (flows_in l.state) (role_count l.state))) l.initial.text l.text

-- Each turn puts the line of the flow to one role more.
use Rattle.std.proofs.Common.{◌+◌, ◌-◌, ◌≤◌}
use Rattle.policy.specs.Tables.{flows_in}
use Rattle.text.specs.Text.{each}
use Rattle.text.specs.Added.{Adds}
use Rattle.rolecheck.specs.Report.{flow_line}
use Rattle.rolecheck.proofs.report.flows_from.Given as goal

abbrev pub invariant-loop-to : goal.invariant-loop-to
invariant-loop-to l = (l.to ≤ l.roles + 1) × Adds (each (l.to - 1) (flow_line (flows_in l.state) l.from)) l.initial.text l.text

-- Each turn puts the line of one role more.
use Rattle.std.proofs.Common.{◌+◌, ◌-◌, ◌≤◌}
use Rattle.policy.specs.Tables.{r_levels_at, w_levels_at, level_in}
use Rattle.text.specs.Text.{each}
use Rattle.text.specs.Added.{Adds}
use Rattle.rolecheck.specs.Report.{role_line}
use Rattle.rolecheck.proofs.report.role_lines.Given as goal

abbrev pub invariant-loop-role : goal.invariant-loop-role
invariant-loop-role l = (l.role ≤ l.roles + 1) × Adds (each (l.role - 1) (role_line (level_in l.state r_levels_at) (level_in l.state w_levels_at))) l.initial.text l.text

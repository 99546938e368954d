-- The last turn.
use Rattle.std.proofs.Common.{◌≡◌, ◌∙◌, arith, rules}
use Rattle.text.proofs.Each.{each_next}
use Rattle.rolecheck.proofs.report.flow_lines.Goals as goal

pub returns-2 : goal.returns-2
returns-2 c =
    let w = c.loop-from in
    let all : w.from ≡ c.roles-roles.result = omega arith in
    rw (all ∙ c.roles-roles.ensures) at (each_next _ w.from (search rules) w.invariant.1 c.flows_from.ensures)

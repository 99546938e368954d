-- Each line grants its own; the seniors' rows stay as they were.
use Rattle.policy.proofs.Relating.{granted_none, granted_as, granted_more, granted_line, granted_yet}
use Rattle.policy.proofs.rows.grant_lines.Goals as goal

pub loop-i-preserved : goal.loop-i-preserved
loop-i-preserved c =
    let w = c.loop-i in
    let a = c.args in
    granted_as (λ d o r. granted_line a.s.now w.s a.p.now w.i _ _ _ d o r c.first_number-role.ensures c.second_number-card.ensures c.third_number.ensures w.invariant.rest)
    (granted_more w.invariant c.grant.ensures)

pub loop-i-init : goal.loop-i-init
loop-i-init c = granted_none _ _ (λ d o r u t. granted_yet _ _ d o r)

-- What each call leaves, in order: the table of dominance, the permissions, and both levels.
use Rattle.policy.proofs.Granting.{granting}
use Rattle.policy.proofs.build.grant_all.Goals as goal

pub returns : goal.returns
returns c =
    let dominance = c.args.dominance.now in
    let g = c.gather-g.result in
    let (labelled, seniors, no_level, no_role) = c.requires in
    granting dominance.file.now.ready dominance.marks.now dominance.under dominance.over c.args.s.now c.put_table.new.s c.grant_lines.new.s
    c.put_levels.new.s g.readers g.writers
    labelled seniors dominance.marked dominance.lower dominance.upper no_level no_role
    c.put_table.ensures
    c.grant_lines.ensures
    c.gather-g.ensures.readers
    c.gather-g.ensures.writers
    c.put_levels.ensures

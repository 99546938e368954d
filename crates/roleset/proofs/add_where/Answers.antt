-- The role is added where it is wanted; else nothing is written, and the set stays as it is.
use Rattle.std.proofs.Common.{◌≡◌, sym, true}
use mathlib.Core.Bool.{or-false}
use Rattle.roleset.proofs.Rows.{placed_as, unwritten}
use Rattle.roleset.proofs.add_where.Goals as goal

pub returns-then-on : goal.returns-then-on
returns-then-on c =
    let wanted : c.args.on ≡ true = c.if-on.true in
    placed_as (λ q. rw wanted) c.add.ensures

pub returns-else-on : goal.returns-else-on
returns-else-on c = unwritten (λ l q. rw c.if-on.false (sym (or-false _)))

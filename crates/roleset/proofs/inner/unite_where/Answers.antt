-- The row is united, if it holds the role.
use Rattle.std.proofs.Common.{◌≡◌, ◌∙◌, sym, true}
use mathlib.Core.Bool.{or-false}
use Rattle.roleset.specs.Row.{member}
use Rattle.roleset.proofs.Rows.{first_long, first_roles, placed_first}
use Rattle.roleset.proofs.inner.unite_where.Goals as goal

pub returns-then-has : goal.returns-then-has
returns-then-has c =
    let a = c.args in
    let h = c.in-Some.ensures.cases in
    let row = c.in-Some.into.now in
    let roles = first_roles a.from.now row h in
    let held : member a.from.now 0 a.role ≡ true = sym (c.if-has.ensures ∙ roles a.role) in
    placed_first a.from.now c.join.new.row h.enough c.join.ensures.long
    (λ r. c.join.ensures.roles r ∙ rw (roles r, held))

pub returns-else-has : goal.returns-else-has
returns-else-has c =
    let a = c.args in
    let h = c.in-Some.ensures.cases in
    let row = c.in-Some.into.now in
    let roles = first_roles a.from.now row h in
    placed_first a.from.now row h.enough (first_long a.from.now row h) (λ r. roles r ∙ rw (← roles a.role, ← c.if-has.ensures) (sym (or-false _)))

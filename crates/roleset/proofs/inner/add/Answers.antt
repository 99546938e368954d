-- The role's byte is written, if it is a role's.
use Rattle.std.proofs.Common.{◌+◌, ◌-◌, ◌/◌, ◌≡◌, sym, ◌∙◌, arith}
use Rattle.std.proofs.Math.ListN.{length-set}
use mathlib.Core.Bool.{or-false}
use Rattle.search.proofs.Truth.{among_iff}
use Rattle.roleset.specs.Row.{role_byte}
use Rattle.roleset.proofs.Rows.{first_long, first_roles, placed_first, added_placed}
use Rattle.roleset.proofs.inner.add.Goals as goal

pub returns-then-is_role : goal.returns-then-is_role
returns-then-is_role c =
    let a = c.args in
    let h = c.in-Some.ensures.cases in
    let row = c.in-Some.row.now in
    let long = first_long a.from.now row h in
    let place : 0 + role_byte a.role ≡ (a.role - 1) / 8 = omega arith in
    let placed = rw place at (added_placed row 0 a.role (omega arith) ((among_iff 128 a.role).0 (sym c.if-is_role.ensures))) in
    placed_first a.from.now _ h.enough (length-set row _ _ ∙ long) (λ r. placed.row (omega arith) r ∙ rw (first_roles a.from.now row h r))

pub returns-else-is_role : goal.returns-else-is_role
returns-else-is_role c =
    let a = c.args in
    let h = c.in-Some.ensures.cases in
    let row = c.in-Some.row.now in
    placed_first a.from.now row h.enough (first_long a.from.now row h) (λ r. first_roles a.from.now row h r ∙ rw (← c.if-is_role.ensures) (sym (or-false _)))

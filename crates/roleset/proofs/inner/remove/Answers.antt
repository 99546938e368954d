-- The role's byte is written, if the row holds it.
use Rattle.std.proofs.Common.{◌+◌, ◌-◌, ◌/◌, ◌≡◌, sym, ◌∙◌, arith}
use Rattle.std.proofs.Math.ListN.{length-set}
use Rattle.search.specs.Search.{Among}
use Rattle.roleset.specs.Row.{role_byte}
use Rattle.roleset.proofs.Rows.{member_role, first_long, first_roles, placed_first, removed_placed, none_less}
use Rattle.roleset.proofs.inner.remove.Goals.{Then-has}
use Rattle.roleset.proofs.inner.remove.Goals as goal

held : (c : Then-has) → Among 128 c.args.role
held c = member_role c.in-Some.row.now 0 c.args.role (sym c.if-has.ensures)

pub returns-then-has : goal.returns-then-has
returns-then-has c =
    let a = c.args in
    let h = c.in-Some.ensures.cases in
    let row = c.in-Some.row.now in
    let long = first_long a.from.now row h in
    let w = held (goal.at.returns-then-has c).Then-has in
    let place : 0 + role_byte a.role ≡ (a.role - 1) / 8 = omega arith in
    let placed = rw place at (removed_placed row 0 a.role (omega arith) w (sym c.if-has.ensures)) in
    placed_first a.from.now _ h.enough (length-set row _ _ ∙ long) (λ r. placed.row (omega arith) r ∙ rw (first_roles a.from.now row h r))

pub returns-else-has : goal.returns-else-has
returns-else-has c =
    let a = c.args in
    let h = c.in-Some.ensures.cases in
    let row = c.in-Some.row.now in
    let roles = first_roles a.from.now row h in
    placed_first a.from.now row h.enough (first_long a.from.now row h) (λ r. none_less row 0 a.role (sym c.if-has.ensures) r ∙ rw (roles r))

pub overflow_sub-row : goal.overflow_sub-row
overflow_sub-row c = let w = held (goal.at.overflow_sub-row c).Then-has in omega arith

pub overflow_sub-row-then-has : goal.overflow_sub-row-then-has
overflow_sub-row-then-has c = let w = held (goal.at.overflow_sub-row-then-has c).Then-has in omega arith

pub bounds-row-role : goal.bounds-row-role
bounds-row-role c = let w = held (goal.at.bounds-row-role c).Then-has in omega arith

pub bounds-row-role-then-has : goal.bounds-row-role-then-has
bounds-row-role-then-has c = let w = held (goal.at.bounds-row-role-then-has c).Then-has in omega arith

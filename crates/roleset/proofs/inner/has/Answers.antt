-- A role's bit.
use Rattle.std.proofs.Common.{◌+◌, ◌-◌, ◌/◌, ◌≡◌, arith}
use Rattle.roleset.specs.Row.{member, role_byte}
use Rattle.roleset.proofs.inner.has.Goals as goal

pub returns-then-not-is_role : goal.returns-then-not-is_role
unfolding member
returns-then-not-is_role c = rw (← c.if-not-is_role.ensures)

pub returns : goal.returns
unfolding member
returns c =
    let r = c.args.role in
    let place : 0 + role_byte r ≡ (r - 1) / 8 = omega arith in
    rw (← c.if-not-is_role.ensures, place)

-- The row changes by one byte.
use Rattle.std.proofs.Common.{arith, rules}
use Rattle.monitor.specs.Session.{held_at}
use Rattle.monitor.specs.Calls.{dropped}
use Rattle.monitor.proofs.Holding.{removed_is}
use Rattle.monitor.proofs.sessions.remove_role.Goals as goal

pub returns : goal.returns
unfolding dropped
returns c =
    let a = c.args in
    removed_is a.s.now (held_at a.place.number) a.role.number (omega arith) a.role.in_range
    (λ i. search rules)
    c.remove.new.s
    c.remove.auto.s
    (λ i. (c.type_inv.s i).fits)
    (rw c.held_at.ensures at c.remove.ensures)

-- The row changes by one byte.
use Rattle.std.proofs.Common.{arith, rules}
use Rattle.monitor.specs.Session.{held_at}
use Rattle.monitor.specs.Calls.{taken}
use Rattle.monitor.proofs.Holding.{added_is}
use Rattle.monitor.proofs.sessions.hold.Goals as goal

pub returns : goal.returns
unfolding taken
returns c =
    let a = c.args in
    added_is a.s.now (held_at a.place.number) a.role.number (omega arith) a.role.in_range
    (λ i. search rules)
    c.add.new.s
    c.add.auto.s
    (λ i. (c.type_inv.s i).fits)
    (rw c.held_at.ensures at c.add.ensures)

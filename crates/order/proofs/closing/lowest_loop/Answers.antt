-- A search among the first n things.
use Rattle.std.proofs.Common.{sym, arith}
use Rattle.search.proofs.Found.{first_yet, first_more}
use Rattle.search.proofs.Thing.{thing_found}
use Rattle.order.proofs.closing.lowest_loop.Goals as goal

pub loop-i-init : goal.loop-i-init
loop-i-init g c = first_yet _

pub returns-then-loops : goal.returns-then-loops
returns-then-loops g c = let w = c.loop-i in thing_found _ _ w.i (omega arith) w.invariant (sym c.if-loops.ensures)

pub loop-i-preserved : goal.loop-i-preserved
loop-i-preserved g c = let w = c.loop-i in first_more _ w.i w.invariant (sym c.if-loops.ensures)

-- A search for the first thing with a partner, in the order as its columns tell it.
use Rattle.order.specs.Bound.{converse}
use Rattle.order.specs.inner.Members.{row_holds}
use Rattle.order.proofs.Bound.{NoneWithout}
use Rattle.order.proofs.bounds.first_pair.Given as goal

abbrev pub invariant-loop-i : goal.invariant-loop-i
invariant-loop-i l = NoneWithout l.m (converse (row_holds l.up)) l.i

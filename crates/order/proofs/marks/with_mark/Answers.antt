-- One mark is stored, where b is one of the things.
use Rattle.std.proofs.Common.{arith}
use borrow.Author.Tests.{ne_eqb}
use Rattle.order.proofs.Stored.{mark_more}
use Rattle.order.proofs.marks.with_mark.Goals as goal

pub returns-in-Some : goal.returns-in-Some
returns-in-Some c y w = rw c.in-Some.ensures.1 (mark_more c.args.row c.in-Some.i (omega arith) y w.0)

pub returns-in_default : goal.returns-in_default
returns-in_default c y w = rw (ne_eqb c.args.b y (λ e. c.in_default.ensures (rw e w)))

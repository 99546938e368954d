-- What is none of the 32 is none of those that the set may have.
use Rattle.std.proofs.Common.{sym}
use mathlib.Core.Bool.{and-false, or-false}
use borrow.Author.Tests.{ne_eqb}
use Rattle.order.specs.inner.Members.{holds}
use Rattle.order.proofs.bounds.with.Goals as goal

pub returns-in-None : goal.returns-in-None
returns-in-None c b w =
    let a = c.args in
    rw (ne_eqb a.a b (λ e. c.in-None.ensures (rw e w)), and-false a.on)
    (sym (or-false (holds a.s b)))

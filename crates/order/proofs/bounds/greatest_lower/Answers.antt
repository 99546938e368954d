-- The greatest of the lower bounds.
use mathlib.Core.Path.{ap, ◌∙◌}
use Rattle.search.specs.Search.{thing}
use mathlib.Core.Bool.{◌&&◌}
use native.Mathlib.Omega.{arith}
use borrow.Author.Tests.{le-leb}
use Rattle.order.specs.Bound.{converse, upper}
use Rattle.order.specs.inner.Members.{holds, row_holds}
use Rattle.order.proofs.Bound.{least_cut}
use Rattle.order.proofs.bounds.greatest_lower.Goals as goal

pub returns : goal.returns
returns c =
    let a = c.args in
    let order = converse (row_holds a.t.now) in
    let bounds = c.lower_bounds in
    c.greatest.ensures
    ∙ ap thing (least_cut 32 32 order (λ x. holds a.all x && upper 32 order (holds a.s) x) (holds bounds.result) (omega arith) (λ x w.
    bounds.ensures x w ∙ rw (le-leb x 32 w.1)))

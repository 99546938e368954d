-- Each turn puts in one label more, where its row has the role.
use Rattle.std.proofs.Common.{ℕ, ◌≡◌, ◌&&◌, leb}
use Rattle.search.specs.Search.{Among}
use Rattle.order.specs.Table.{related}
use Rattle.order.specs.inner.Members.{holds}
use Rattle.policy.proofs.gather.labels_of.Given as goal

abbrev pub invariant-loop-i : goal.invariant-loop-i
invariant-loop-i l = (k : ℕ) → Among 32 k → holds l.r k ≡ (leb k l.i && related l.g 0 k l.role)

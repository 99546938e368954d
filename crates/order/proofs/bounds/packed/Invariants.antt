-- Each turn puts one thing more, where it has a mark.
use Prim.Native.Nat.{ℕ}
use mathlib.Core.Path.{◌≡◌}
use mathlib.Core.Bool.{◌&&◌}
use lib.Dec.{leb}
use Rattle.search.specs.Search.{Among}
use Rattle.order.specs.Table.{marks}
use Rattle.order.specs.inner.Members.{holds}
use Rattle.order.proofs.bounds.packed.Given as goal

abbrev pub invariant-loop-j : goal.invariant-loop-j
invariant-loop-j l = (b : ℕ) → Among 32 b → holds l.r b ≡ (leb b l.j && marks l.row b)

-- A search among the first m things. The upper bounds of a pair are what is over both.
use Prim.Native.Nat.{ℕ, ◌+◌}
use mathlib.Core.Bool.{Bool}
use mathlib.Core.List.{List}
use mathlib.Core.Path.{◌≡◌}
use Rattle.search.specs.Search.{first}
use Rattle.order.specs.Bound.{converse, pair_without_bound}
use Rattle.order.specs.inner.Members.{row_holds}
use Rattle.order.proofs.bounds.partner.Given as goal

abbrev pub lone : List ℕ → ℕ → ℕ → ℕ → Bool
lone up m i = pair_without_bound m (converse (row_holds up)) (i + 1)

abbrev pub invariant-loop-j : goal.invariant-loop-j
invariant-loop-j l = first l.j (lone l.up l.m l.i) ≡ 0

-- What is not of the set is not its greatest, and of the set the lowest that leads it is found first.
use Prim.Native.Nat.{ℕ}
use mathlib.Core.Path.{◌≡◌}
use mathlib.Core.Bool.{Bool, false}
use mathlib.Core.List.{List}
use Rattle.search.specs.Search.{Among}
use Rattle.order.specs.Bound.{converse, is_least}
use Rattle.order.specs.inner.Members.{holds, row_holds}
use Rattle.order.proofs.Left.{Left}
use Rattle.order.proofs.bounds.greatest.Given as goal

abbrev pub leader : List ℕ → ℕ → ℕ → Bool
leader t s = is_least 32 (converse (row_holds t)) (holds s)

-- what is not left does not lead the set
abbrev pub Tried : List ℕ → ℕ → ℕ → Type 0
Tried t s rest = (x : ℕ) → Among 32 x → holds rest x ≡ false → leader t s x ≡ false

abbrev pub invariant-loop-rest : goal.invariant-loop-rest
invariant-loop-rest l = Left l.s l.rest × Tried l.t l.s l.rest

abbrev pub decreases-loop-rest : goal.decreases-loop-rest
decreases-loop-rest l = l.rest

-- After each turn the set has the things of `all` that are under each of s that is not left.
use Prim.Native.Nat.{ℕ}
use mathlib.Core.Path.{◌≡◌}
use mathlib.Core.Bool.{Bool, not, ◌&&◌}
use mathlib.Core.List.{List}
use Rattle.search.specs.Search.{every, implies, Among}
use Rattle.order.specs.inner.Members.{holds, row_holds}
use Rattle.order.proofs.Left.{Left}
use Rattle.order.proofs.bounds.lower_bounds.Given as goal

-- thing x of s has had its turn
abbrev pub Taken : ℕ → ℕ → ℕ → Bool
Taken s rest x = holds s x && not (holds rest x)

-- c is under each of s that has
abbrev pub Under : List ℕ → ℕ → ℕ → ℕ → Bool
Under t s rest c = every 32 (λ x. implies (Taken s rest x) (row_holds t x c))

abbrev pub invariant-loop-rest : goal.invariant-loop-rest
invariant-loop-rest l = Left l.s l.rest × ((c : ℕ) → Among 32 c → holds l.r c ≡ (holds l.all c && Under l.t l.s l.rest c))

abbrev pub decreases-loop-rest : goal.decreases-loop-rest
decreases-loop-rest l = l.rest

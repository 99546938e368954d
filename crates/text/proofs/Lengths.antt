-- How long a text is at most, so that a buffer holds it whole. Assumes nothing.
use Prim.Native.Nat.{ℕ, ◌≤◌}
use mathlib.Core.Path.{◌≡◌}
use mathlib.Core.List.{List, []}
use mathlib.Core.Bool.{Bool, true, cond}
use native.Mathlib.Omega.{arith}
use lib.Dec.{lit≤}
use lib.ListN.{length}
use Rattle.search.proofs.Truth.{either, either_by}

-- one of two texts
pub one_most : (b : Bool) (x y : List ℕ) {m : ℕ} → length x ≤ m → length y ≤ m → length (cond b x y) ≤ m
one_most b x y {m} = either (λ (l : List ℕ). length l ≤ m) b x y

-- a text where a test holds
pub where_most : (b : Bool) (x : List ℕ) {m : ℕ} → (b ≡ true → length x ≤ m) → length (cond b x []) ≤ m
where_most b x {m} l = either_by (λ (t : List ℕ). length t ≤ m) b x [] l (λ e. omega arith)

pub ruleset most = (one_most, lit≤)

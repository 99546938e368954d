-- The first n bits of 2 ^ n - 1 are set, and no others.
use Prim.Native.Nat.{ℕ, suc, ◌-◌, ◌*◌, ◌%◌, ◌^◌, ◌≤◌}
use mathlib.Core.Path.{◌≡◌, sym, ap, ◌∙◌}
use native.Mathlib.Omega.{arith}
use borrow.Author.Tests.{le-leb}
use lib.Dec.{leb}
use lib.Pow.{pow_pos}
use Rattle.roleset.proofs.Bits.{bit_ones, one_shifted}
use Rattle.order.specs.inner.Members.{holds}
use Rattle.order.proofs.bounds.first_things.Goals.{Else-n-ge-THINGS}
use Rattle.order.proofs.bounds.first_things.Goals as goal

firsts : (n a : ℕ) → 1 ≤ a → holds (2 ^ n - 1) a ≡ leb a n
firsts n a l = let place : suc (a - 1) ≡ a = omega arith in rw place at (bit_ones n (a - 1))

pub returns-then-n-ge-THINGS : goal.returns-then-n-ge-THINGS
returns-then-n-ge-THINGS c a w = firsts 32 a w.0 ∙ le-leb a 32 w.1 ∙ sym (le-leb a c.args.n (omega arith))

power : (c : Else-n-ge-THINGS) → 1 * 2 ^ c.args.n % 2 ^ 32 ≡ 2 ^ c.args.n
power c = one_shifted 32 c.args.n (omega arith)

pub returns : goal.returns
returns c a w = ap (λ (x : ℕ). holds (x - 1) a) (power (goal.at.returns c).Else-n-ge-THINGS) ∙ firsts c.args.n a w.0

pub overflow_sub-result : goal.overflow_sub-result
overflow_sub-result c = rw (power (goal.at.overflow_sub-result c).Else-n-ge-THINGS) (pow_pos c.args.n)

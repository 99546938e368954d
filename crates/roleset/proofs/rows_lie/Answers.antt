-- `at + 16 * n ≤ len` is `at ≤ len - 16 * n` where `len` is at least `16 * n`, and fails where it is less.
use Prim.Native.Nat.{◌+◌, ◌-◌, ◌*◌}
use native.Mathlib.Omega.{arith}
use Rattle.search.proofs.Truth.{leb_same}
use Rattle.roleset.proofs.rows_lie.Goals as goal

pub returns : goal.returns
returns c =
    let a = c.args in
    leb_same a.at (a.len - 16 * a.n) (a.at + 16 * a.n) a.len (λ l. omega arith) (λ l. omega arith)

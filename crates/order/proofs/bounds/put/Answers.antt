-- The bit of thing i + 1 is put.
use Prim.Native.Nat.{ℕ, ◌+◌, ◌-◌}
use mathlib.Core.Path.{◌≡◌, ap, ◌∙◌}
use mathlib.Core.Bool.{Bool, ◌&&◌, ◌||◌}
use native.Mathlib.Omega.{arith}
use borrow.Author.Tests.{eqb-true, eq-eqb}
use lib.Dec.{eqb}
use Rattle.search.specs.Search.{Among}
use Rattle.search.proofs.Truth.{same}
use Rattle.roleset.proofs.Bits.{bit_put}
use Rattle.order.specs.inner.Members.{holds}
use Rattle.order.proofs.bounds.put.Goals as goal

placed : (i b : ℕ) → Among 32 b → eqb (b - 1) i ≡ eqb (i + 1) b
placed i b w =
    same (eqb (b - 1) i) (eqb (i + 1) b)
    (λ e. let q = eqb-true (b - 1) i e in eq-eqb (i + 1) b (omega arith))
    (λ e. let q = eqb-true (i + 1) b e in eq-eqb (b - 1) i (omega arith))

pub returns : goal.returns
returns c b w =
    let a = c.args in
    bit_put 32 a.s a.i c.requires a.on (b - 1) ∙ ap (λ (p : Bool). holds a.s b || (a.on && p)) (placed a.i b w)

-- The 16 bytes from `at` on.
use Rattle.std.proofs.Common.{ℕ, ◌+◌, ◌<◌, ◌≡◌, sym, ◌∙◌, true, false, List, length, Option, Some, None, MatchOption, arith}
use borrow.Author.Tests.{leb-true}
use borrow.Rule.Slice.PartMut.{mid_of}
use denote.Bor.{Bor}
use Rattle.std.specs.Array.{IsFirstChunk}
use Rattle.roleset.specs.Row.{whole, member}
use Rattle.roleset.proofs.Rows.{part_long, front, first_roles}
use Rattle.roleset.proofs.inner.row.Goals as goal

row_found : (xs : List ℕ) (at size : ℕ) → whole xs at ≡ true → size ≡ 16
    → (o : Option (Bor (List ℕ))) → MatchOption o (length (mid_of at size xs) < 16) (λ y. IsFirstChunk (mid_of at size xs) y.now 16)
    → MatchOption o (whole xs at ≡ false) (λ y. (whole xs at ≡ true) × ((r : ℕ) → member y.now 0 r ≡ member xs at r))
row_found xs at size inside sixteen None short =
    let long = part_long at size xs (leb-true (at + 16) (length xs) inside) sixteen in
    absurd (omega arith)
row_found xs at size inside sixteen (Some y) h = (
  inside,
  λ r. first_roles (mid_of at size xs) y.now h r ∙ front at size xs (leb-true (at + 16) (length xs) inside) sixteen r,
)

pub returns : goal.returns
returns c =
    let a = c.args in
    row_found a.s.now a.at _ (sym c.if-not-rows_lie.ensures) (omega arith) c.first_chunk.result c.first_chunk.ensures.cases

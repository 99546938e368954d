-- The fields of a line, one after the other. Assumes nothing.
use Rattle.std.proofs.Common.{ℕ, ◌≡◌, ◌+◌, ◌-◌, ◌<◌, List, [], ◌∷◌, ◌++◌, length, leb, get_or, append_assoc, Option, Some, None, IfSome, All, arith}
use Rattle.std.specs.Option.{option_copied}
use Rattle.std.specs.Slice.{IsItemAt}
use denote.Bor.{Bor}
use borrow.Author.Tests.{le-leb, lt-leb}
use Rattle.rolefile.specs.Line.{newline}
use Rattle.rolefile.specs.Decimal.{blanks, columns_of}
use Rattle.text.specs.Text.{each, field_columns}
use Rattle.rolecheck.specs.Report.{line, line_with}

-- field k of a line of numbers
abbrev pub field_of : List ℕ → ℕ → List ℕ
field_of ns k = columns_of (leb k (length ns)) (get_or ns (k - 1) 0)

module _ (ns : List ℕ) where
  pub field_given : All (λ n. n < 100000) ns → (i : ℕ) (r : Option (Bor ℕ)) → IsItemAt ns i r
      → IfSome (option_copied r) (λ n. n < 100000) × (field_columns (option_copied r) ≡ field_of ns (i + 1))
  field_given few i None h = (tt, rw (lt-leb (i + 1) (length ns) (omega (arith, h.3))))
  field_given few i (Some x) h =
      let same : x.now ≡ get_or ns i 0 = h.4 (omega arith) 0 in
      let place : i + 1 - 1 ≡ i = omega arith in
      (rw same (few i 0 h.3.0), rw (le-leb (i + 1) (length ns) (omega (arith, h.3.0)), place, same))

  pub three_fields : (letter : ℕ) → (letter ∷ []) ++ each 3 (field_of ns) ++ (blanks ++ (newline ∷ [])) ≡ line_with letter ns
  unfolding line each
  three_fields letter = simp append_assoc

-- What a line reader takes out of a field, and a number that is read at once. Assumes nothing.
use Rattle.std.specs.Prelude.{ℕ, ◌≡◌, Bool, cond, eqb, Option, Some, None, IfSome}
use Rattle.rolefile.specs.declared.Field.{Field}
use Rattle.rolefile.specs.declared.Field.TheVariants.{Number}
use Rattle.rolefile.specs.Field.{field_number, value}

-- its value, where its own number is 0
unfoldable pub taken_out : Bool → Field → Option ℕ
taken_out used f = cond (eqb (field_number used f) 0) (Some (value f)) None

-- a number that was read at once is what the field says
abbrev pub AtOnce : Option ℕ → Field → Type 0
AtOnce o f = IfSome o (λ n. f ≡ Number n)

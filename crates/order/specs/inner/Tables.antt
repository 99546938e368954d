-- What a turn leaves of a table of role sets by itself, 2,048 bytes. Assumes nothing.
use Rattle.std.specs.Prelude.{ℕ, ◌+◌, ◌*◌, ◌≡◌, List, length}
use Rattle.roleset.specs.Row.{added, Placed}
use Rattle.order.specs.Closure.{Relation}
use Rattle.order.specs.Table.{Tabled}

-- ys has h in its first n rows and is else xs
abbrev pub BecomesRoles : ℕ → Relation → List ℕ → List ℕ → Type 0
BecomesRoles n h xs ys = length xs ≡ 2048 → (length ys ≡ 2048) × Tabled 0 n h xs ys

-- ys relates thing i + 1 to itself and is else xs
abbrev pub LinksRoles : ℕ → List ℕ → List ℕ → Type 0
LinksRoles i xs ys = length xs ≡ 2048 → (length ys ≡ 2048) × Placed (0 + 16 * i) (added xs (0 + 16 * i) (i + 1)) xs ys

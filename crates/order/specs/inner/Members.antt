-- Sets of the things 1 to 32 as numbers, thing a being bit a - 1; and a relation among them as such a number for each. Assumes nothing.
use Rattle.std.specs.Prelude.{ℕ, ◌-◌, ◌≡◌, Bool, ◌&&◌, List, leb, get_or}
use Rattle.search.specs.Search.{among, Among}
use Rattle.roleset.specs.Row.{bit}
use Rattle.order.specs.Closure.{Relation}

-- the set x has thing a
abbrev pub holds : ℕ → ℕ → Bool
holds x a = bit x (a - 1)

-- x has just the things of f
abbrev pub Has : (ℕ → Bool) → ℕ → Type 0
Has f x = (a : ℕ) → Among 32 a → holds x a ≡ f a

-- x is the set of the first n things
abbrev pub FirstThings : ℕ → ℕ → Type 0
FirstThings n = Has (λ a. leb a n)

-- row a of the numbers has thing b
abbrev pub row_holds : List ℕ → Relation
row_holds xs a b = holds (get_or xs (a - 1) 0) b

-- the same of any number a: what is none of the 32 has an empty row
abbrev pub in_row : List ℕ → Relation
in_row xs a b = among 32 a && row_holds xs a b

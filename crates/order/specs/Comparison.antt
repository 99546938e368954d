-- How two things of an order compare: four outcomes.
--     compare ge a b     equal, above, below or neither, by whether a is over b or is it, and b over a or is it
--     at_least c         equal or above
--     Compares ge a b c  what each outcome says of a and b, as a property; in a partial order a compares with b so exactly there (`compare_iff` under proofs/)
-- Assumes nothing.
use Rattle.std.specs.Prelude.{ℕ, ◌≡◌, Bool, true, false}
use Rattle.order.specs.declared.compare.Comparison.{Comparison}
use Rattle.order.specs.declared.compare.Comparison.TheVariants.{Equal, Above, Below, Neither}
use Rattle.order.specs.Closure.{Relation}

-- by the two marks between the things
abbrev pub by_marks : Bool → Bool → Comparison
by_marks true true = Equal
by_marks true false = Above
by_marks false true = Below
by_marks false false = Neither

unfoldable pub compare : Relation → ℕ → ℕ → Comparison
compare ge a b = by_marks (ge a b) (ge b a)

-- of labels: the first dominates the second
abbrev pub at_least : Comparison → Bool
at_least Equal = true
at_least Above = true
at_least Below = false
at_least Neither = false

abbrev pub Compares : Relation → ℕ → ℕ → Comparison → Type 0
Compares ge a b Equal = a ≡ b
Compares ge a b Above = (ge a b ≡ true) × (a ≡ b → ⊥)
Compares ge a b Below = (ge b a ≡ true) × (a ≡ b → ⊥)
Compares ge a b Neither = (ge a b ≡ false) × (ge b a ≡ false)

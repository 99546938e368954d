-- Bounds of a set s : ℕ → Bool of things in an order ge of the things 1 to n: `ge c x`, c is over x or is x.
--     lub n ge s                    the least upper bound of s, or 0; in the order turned round, the greatest lower bound
--     partner_without_bound n ge a  the lowest b after a with which a has no least upper bound, or 0
--     lowest_without_bound n ge     the lowest a with such a b, or 0: with it, the first pair without a least upper bound
--     first_without_bound n ge      that pair, if there is one
--     IsLub, IsGlb, Joined, FirstPair say the same as properties
-- Assumes nothing.
use Rattle.std.specs.Prelude.{ℕ, ◌<◌, ◌≡◌, Bool, true, ◌&&◌, ◌||◌, Option, option_map, cond, eqb, ltb}
use Rattle.search.specs.Search.{every, first, implies, thing, Among}
use Rattle.order.specs.declared.bounds.Pair.{Pair}
use Rattle.order.specs.Closure.{Relation}

-- the relation turned round
abbrev pub converse : Relation → Relation
converse ge a b = ge b a

-- c is over each of s
unfoldable pub upper : ℕ → Relation → (ℕ → Bool) → ℕ → Bool
upper n ge s c = every n (λ x. implies (s x) (ge c x))

-- c is in s, and each of s is over it
unfoldable pub is_least : ℕ → Relation → (ℕ → Bool) → ℕ → Bool
is_least n ge s c = s c && upper n (converse ge) s c

unfoldable pub least_of : ℕ → Relation → (ℕ → Bool) → ℕ
least_of n ge s = first n (is_least n ge s)

unfoldable pub lub : ℕ → Relation → (ℕ → Bool) → ℕ
lub n ge s = least_of n ge (upper n ge s)

-- the set of a and b
abbrev pub pair : ℕ → ℕ → ℕ → Bool
pair a b x = eqb x a || eqb x b

unfoldable pub pair_without_bound : ℕ → Relation → ℕ → ℕ → Bool
pair_without_bound n ge a b = ltb a b && eqb (lub n ge (pair a b)) 0

unfoldable pub partner_without_bound : ℕ → Relation → ℕ → ℕ
partner_without_bound n ge a = first n (pair_without_bound n ge a)

-- a has no least upper bound with some thing after it
abbrev pub some_without_bound : ℕ → Relation → ℕ → Bool
some_without_bound n ge a = ltb 0 (partner_without_bound n ge a)

unfoldable pub lowest_without_bound : ℕ → Relation → ℕ
lowest_without_bound n ge = first n (some_without_bound n ge)

abbrev pub with_partner : ℕ → Relation → ℕ → Pair
with_partner n ge a = record { lower = a; higher = partner_without_bound n ge a }

-- the first pair without a least upper bound
abbrev pub first_without_bound : ℕ → Relation → Option Pair
first_without_bound n ge = option_map (with_partner n ge) (thing (lowest_without_bound n ge))

-- its lower and its higher thing, or 0 and 0: what is told of it in numbers
pub record FirstWithoutBound (n : ℕ) (ge : Relation) (a b : ℕ) : Type 0 where
  pub lower : a ≡ lowest_without_bound n ge
  pub higher : b ≡ cond (ltb 0 a) (partner_without_bound n ge a) 0

-- ---- the same as properties

abbrev pub Upper : ℕ → Relation → (ℕ → Bool) → ℕ → Type 0
Upper n ge s c = (x : ℕ) → Among n x → s x ≡ true → ge c x ≡ true

-- c is over each of s, and under whatever else is
pub record IsLub (n : ℕ) (ge : Relation) (s : ℕ → Bool) (c : ℕ) : Type 0 where
  pub inside : Among n c
  pub over : Upper n ge s c
  pub least : (d : ℕ) → Among n d → Upper n ge s d → ge d c ≡ true

-- c is under each of s
abbrev pub Lower : ℕ → Relation → (ℕ → Bool) → ℕ → Type 0
Lower n ge s c = Upper n (converse ge) s c

-- c is under each of s, and over whatever else is
abbrev pub IsGlb : ℕ → Relation → (ℕ → Bool) → ℕ → Type 0
IsGlb n ge s c = IsLub n (converse ge) s c

-- a and b have a least upper bound
abbrev pub Joined : ℕ → Relation → ℕ → ℕ → Type 0
Joined n ge a b = (c : ℕ) × IsLub n ge (pair a b) c

-- "every two labels must have a least upper bound"
abbrev pub AllJoined : ℕ → Relation → Type 0
AllJoined n ge = (a b : ℕ) → Among n a → Among n b → Joined n ge a b

-- a and b are the pair without one "that comes first by its lower, then by its higher label"
pub record FirstPair (n : ℕ) (ge : Relation) (a b : ℕ) : Type 0 where
  pub lower : Among n a
  pub higher : Among n b
  pub rising : a < b
  pub without_bound : Joined n ge a b → ⊥
  pub earlier : (x y : ℕ) → Among n x → Among n y → x < y → x < a → Joined n ge x y
  pub sooner : (y : ℕ) → Among n y → a < y → y < b → Joined n ge a y

-- Orders of n things. A relation e : ℕ → ℕ → Bool stands between the things 1 to n: `e a b`, a is directly over b.
--     path n e a b       b is reached from a by one step or more
--     closure n e a b    the reflexive transitive closure: a is b, or b is reached from a
--     circle n e         the lowest thing that is reached from itself, or 0
--     Reach, HasPath, OnCircle, PartialOrder say the same as properties
--     Agree n m f g      f and g say the same of each a among 1 to n and b among 1 to m
-- Assumes nothing.
use Rattle.std.specs.Prelude.{ℕ, zero, suc, ◌≡◌, Bool, true, false, ◌&&◌, ◌||◌, eqb}
use Rattle.search.specs.Search.{Among, first}

abbrev pub Relation : Type 0
Relation = ℕ → ℕ → Bool

-- f and g say the same of each a among 1 to n and b among 1 to m
abbrev pub Agree : ℕ → ℕ → Relation → Relation → Type 0
Agree n m f g = (a b : ℕ) → Among n a → Among m b → f a b ≡ g a b

-- one step, or two by way of k
abbrev pub round : Relation → ℕ → Relation
round e k a b = e a b || (e a k && e k b)

-- each thing with itself
abbrev pub with_itself : Relation → Relation
with_itself e a b = eqb a b || e a b

-- a path whose inner things are among 1 to k; one thing more may be passed once
unfoldable pub via : Relation → ℕ → Relation
via e zero = e
via e (suc k) = round (via e k) (suc k)

abbrev pub path : ℕ → Relation → Relation
path n e = via e n

abbrev pub closure : ℕ → Relation → Relation
closure n e = with_itself (path n e)

abbrev pub to_itself : Relation → ℕ → Bool
to_itself e a = e a a

-- the lowest thing that e relates to itself, or 0
abbrev pub loop : ℕ → Relation → ℕ
loop n e = first n (to_itself e)

-- a circle (document 01's word for a cycle): a path of one step or more from a thing to itself, so a pair a a is one
abbrev pub circle : ℕ → Relation → ℕ
circle n e = loop n (path n e)

-- b is reached from a by any number of steps, each to one of the things 1 to n
pub data Reach (n : ℕ) (e : Relation) : ℕ → ℕ → Type 0 where
  here : {a : ℕ} → Reach n e a a
  step : {a b c : ℕ} → e a b ≡ true → Among n b → Reach n e b c → Reach n e a c

-- c is reached from a by one step or more: a step leads from a to some b, and from there c is reached
abbrev pub HasPath : ℕ → Relation → ℕ → ℕ → Type 0
HasPath n e a c = (b : ℕ) × Among n b × (e a b ≡ true) × Reach n e b c

abbrev pub OnCircle : ℕ → Relation → ℕ → Type 0
OnCircle n e a = HasPath n e a a

pub record PartialOrder (n : ℕ) (ge : Relation) : Type 0 where
  pub reflexive : (a : ℕ) → Among n a → ge a a ≡ true
  pub transitive : (a b c : ℕ) → Among n a → Among n b → Among n c → ge a b ≡ true → ge b c ≡ true → ge a c ≡ true
  pub antisymmetric : (a b : ℕ) → Among n a → Among n b → ge a b ≡ true → ge b a ≡ true → a ≡ b

-- no thing is directly over itself
abbrev pub Irreflexive : ℕ → Relation → Type 0
Irreflexive n e = (a : ℕ) → Among n a → e a a ≡ false

-- Searches among the things 1 to n ("Things are numbered from 1").
--     among n a     a is one of them
--     some n p      p holds of one of them
--     every n p     p holds of each of them
--     first n p     the lowest of which p holds, or 0
--     thing a       a number that is a thing or 0 for none, as an option
-- `Among` and `Lowest` say `among` and `first` as properties, and `LowestOf` is `Lowest` of properties. Assumes nothing.
use Rattle.std.specs.Prelude.{ℕ, zero, suc, ◌≤◌, ◌<◌, ◌≡◌, Bool, true, false, not, ◌&&◌, ◌||◌, Option, None, Some, cond, leb}

abbrev pub among : ℕ → ℕ → Bool
among n a = leb 1 a && leb a n

unfoldable pub some : ℕ → (ℕ → Bool) → Bool
some zero p = false
some (suc n) p = some n p || p (suc n)

unfoldable pub every : ℕ → (ℕ → Bool) → Bool
every zero p = true
every (suc n) p = every n p && p (suc n)

-- a, or b where a is 0
abbrev pub or_else : ℕ → ℕ → ℕ
or_else zero b = b
or_else (suc a) b = suc a

unfoldable pub first : ℕ → (ℕ → Bool) → ℕ
first zero p = 0
first (suc n) p = or_else (first n p) (cond (p (suc n)) (suc n) 0)

-- none where a is 0, else a
abbrev pub thing : ℕ → Option ℕ
thing zero = None
thing (suc a) = Some (suc a)

-- where a holds, b does
abbrev pub implies : Bool → Bool → Bool
implies a b = not a || b

abbrev pub Among : ℕ → ℕ → Type 0
Among n a = (1 ≤ a) × (a ≤ n)

-- a has P, and every lower one has N
pub record LowestOf (n : ℕ) (P N : ℕ → Type 0) (a : ℕ) : Type 0 where
  pub inside : Among n a
  pub holds : P a
  pub lower : (b : ℕ) → Among n b → b < a → N b

-- p holds of a, and of no lower one
abbrev pub Lowest : ℕ → (ℕ → Bool) → ℕ → Type 0
Lowest n p = LowestOf n (λ b. p b ≡ true) (λ b. p b ≡ false)

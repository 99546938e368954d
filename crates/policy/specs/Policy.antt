-- "Orders and levels": inherited permissions, and the levels of a role, of any settings. Assumes nothing.
use Rattle.std.specs.Prelude.{ℕ, zero, suc, Bool, true, false, ◌&&◌, cond, eqb}
use Rattle.search.specs.Search.{some}
use Rattle.order.specs.Closure.{Relation}
use Rattle.order.specs.Bound.{lub, converse}
use Rattle.policy.specs.Settings.{Settings}

-- "A role has the permissions of its own P lines and of all its juniors": r may read (m = 1) or write (m = 2) card o
unfoldable pub may : Settings → ℕ → Relation
may σ m r o = some σ.roles (λ q. σ.senior r q && σ.permits m q o)

-- r may read, or write, a card of label l
unfoldable pub may_at : Settings → ℕ → Relation
may_at σ m r l = some σ.cards (λ o. may σ m r o && eqb (σ.card_label o) l)

-- the level of a role for reading or for writing. Free is document 01's word: with nothing to read, or to write, the level is no limit
pub data Level : Type 0 where
  Free : Level
  Label : ℕ → Level
  Undefined : Level

-- the level at a bound, where 0 is no bound: "where no such bound exists it is undefined"
abbrev pub level_at : ℕ → Level
level_at zero = Undefined
level_at (suc a) = Label (suc a)

-- the least upper bound of the labels of s; "with no read it is free, no limit"
unfoldable pub level : ℕ → Relation → (ℕ → Bool) → Level
level n ge s = cond (some n s) (level_at (lub n ge s)) Free

-- "Its r-level is the least upper bound of the labels it may read"
unfoldable pub r_level : Settings → ℕ → Level
r_level σ r = level σ.labels σ.dominates (may_at σ 1 r)

-- "Its w-level is the greatest lower bound of the labels it may write": the least upper bound in the order turned round
unfoldable pub w_level : Settings → ℕ → Level
w_level σ r = level σ.labels (converse σ.dominates) (may_at σ 2 r)

-- "A free level always passes; an undefined one never"
abbrev pub passes : (ℕ → Bool) → Level → Bool
passes p Free = true
passes p (Label a) = p a
passes p Undefined = false

abbrev pub is_defined : Level → Bool
is_defined Free = true
is_defined (Label a) = true
is_defined Undefined = false

-- how a level is printed and kept: "0 free, 99 undefined"
abbrev pub level_number : Level → ℕ
level_number Free = 0
level_number (Label a) = a
level_number Undefined = 99

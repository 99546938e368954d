-- What each of the places has, as the calls so far tell: a session, or its label. Assumes nothing.
use Rattle.std.specs.Prelude.{ℕ, Bool, true, false, cond, eqb}
use Rattle.std.proofs.Math.Option.{Option, none, some}

-- none where the place is free
abbrev pub Places : Type 0 → Type 0
Places A = ℕ → Option A

-- every place is free
abbrev pub all_free : {A : Type 0} → Places A
all_free p = none

abbrev pub is_free : {A : Type 0} → Option A → Bool
is_free none = true
is_free (some x) = false

-- x, or none, put at place p
abbrev pub put : {A : Type 0} → Places A → ℕ → Option A → Places A
put t p x q = cond (eqb q p) x (t q)

-- A set of roles 1 to 128 as two numbers: role r is bit r - 1 of the low one, or from 65 on bit r - 65 of the high one. Assumes nothing.
use Rattle.std.specs.Prelude.{ℕ, zero, suc, ◌+◌, ◌-◌, ◌*◌, Bool, ◌&&◌, cond, leb}
use Rattle.search.specs.Search.{among}
use Rattle.roleset.specs.Row.{bit}

-- the set of the two numbers has role r
unfoldable pub in_set : ℕ → ℕ → ℕ → Bool
in_set low high r = among 128 r && cond (leb r 64) (bit low (r - 1)) (bit high (r - 65))

-- the number of n bits that has bit r - 1 where s holds of r
unfoldable pub bits_of : ℕ → (ℕ → Bool) → ℕ
bits_of zero s = 0
bits_of (suc n) s = cond (s 1) 1 0 + 2 * bits_of n (λ r. s (suc r))

-- the two numbers of the set of the roles that s holds of: `in_set_of` under proofs/ reads it back
abbrev pub low_of : (ℕ → Bool) → ℕ
low_of s = bits_of 64 s

abbrev pub high_of : (ℕ → Bool) → ℕ
high_of s = bits_of 64 (λ r. s (64 + r))

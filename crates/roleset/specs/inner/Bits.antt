-- Bits counted from 1. Assumes nothing.
use Rattle.std.specs.Prelude.{ℕ, ◌-◌, Bool, not, ◌&&◌, leb}
use Rattle.roleset.specs.Row.{bit}

-- b comes after `after`, and bit b of x is set
abbrev pub bit_after : ℕ → ℕ → ℕ → Bool
bit_after x after b = not (leb b after) && bit x (b - 1)

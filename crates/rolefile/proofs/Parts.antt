-- "Each letter's lines are handed on as the part of the file that starts there": the part that starts after j lines has the file's other lines, and
-- its line k is the file's line j + k. Assumes nothing.
use Rattle.std.proofs.Common.{ℕ, ◌+◌, ◌*◌, ◌-◌, ◌≤◌, ◌≡◌, List, arith, add_assoc, length-drop, get_or-drop}
use Rattle.rolefile.specs.Line.{line_length, start, line_at, lines, part}

-- line k of the part starts where the file's line j + k does
pub part_start : (j k : ℕ) → 1 ≤ k → start (j + k) ≡ line_length * j + start k
part_start j k l = omega arith

pub part_line : (f : List ℕ) (j k : ℕ) → 1 ≤ k → line_at (part f j) k ≡ line_at f (j + k)
unfolding line_at
part_line f j k l = simp (get_or-drop, part_start j k l, add_assoc)

pub part_lines : (f : List ℕ) (j : ℕ) → lines (part f j) ≡ lines f - j
part_lines f j = rw length-drop (omega arith)

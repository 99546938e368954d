-- Tables of marks and what the functions over them say.
--     marks s a          s has a mark at a: a set of the things 1 to 32
--     mark t a b         t has a mark in row a and column b: a relation among them
--     Upto i f s         of the things 1 to i, s has just those of f
--     Rows size n h e f  f is h in its rows 1 to n, and e in the rows after, up to `size`
--     related xs at a b  the table of role sets at `at` relates a to b
-- Assumes nothing.
use Rattle.std.specs.Prelude.{ℕ, ◌+◌, ◌*◌, ◌-◌, ◌≤◌, ◌<◌, ◌≡◌, Bool, false, List, [], length, get_or}
use Rattle.search.specs.Search.{Among}
use Rattle.roleset.specs.Row.{member, row_of, Kept}
use Rattle.order.specs.Closure.{Relation, Agree}

abbrev pub marks : List Bool → ℕ → Bool
marks s a = get_or s (a - 1) false

abbrev pub mark : List (List Bool) → Relation
mark t a b = marks (get_or t (a - 1) []) b

-- s has the marks of f up to thing i
abbrev pub Upto : ℕ → (ℕ → Bool) → List Bool → Type 0
Upto i f s = (a : ℕ) → Among i a → marks s a ≡ f a

pub record Rows (size n : ℕ) (h e f : Relation) : Type 0 where
  pub done : Agree n size f h
  pub left : (a b : ℕ) → n < a → a ≤ size → Among size b → f a b ≡ e a b

-- ---- the same for up to 128 things, each row a set of roles: the row of thing a starts 16 × (a - 1) bytes after `at`

abbrev pub related : List ℕ → ℕ → Relation
related xs at a b = member xs (row_of at a) b

-- ys is xs with the rows 1 to n of the table at `at` as h says, and nothing else changed; a table that does not lie wholly in xs is left alone
pub record Tabled (at n : ℕ) (h : Relation) (xs ys : List ℕ) : Type 0 where
  pub rows : at + 2048 ≤ length xs → Rows 128 n h (related xs at) (related ys at)
  pub rest : Kept at (at + 16 * n) xs ys
  pub none : length xs < at + 2048 → ys ≡ xs

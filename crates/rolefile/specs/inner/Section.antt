-- The lines of one letter as a section of the file, and the numbers of a line that is known to be well formed. Assumes nothing.
use Rattle.std.specs.Prelude.{ℕ, ◌+◌, ◌*◌, ◌%◌, ◌≤◌, ◌<◌, ◌≡◌, List, Bool, ◌&&◌, cond, leb, eqb, get_or}
use Rattle.search.specs.Search.{Among, some}
use Rattle.rolefile.specs.Line.{start, lines}

-- what five columns come to, each by its last four bits: a blank counts 0, and a digit its value
abbrev pub figure : List ℕ → ℕ → ℕ
figure p at =
    10000 * (get_or p at 0 % 16)
    + (1000 * (get_or p (at + 1) 0 % 16) + (100 * (get_or p (at + 2) 0 % 16) + (10 * (get_or p (at + 3) 0 % 16) + get_or p (at + 4) 0 % 16)))

-- what the five columns from column k on of line i of a part come to, or 0 where the part has no such line
abbrev pub figure_of : ℕ → List ℕ → ℕ → ℕ
figure_of k p i = cond (leb i (lines p)) (figure p (start i + k)) 0

-- the first three numbers of line i of a part
unfoldable pub one : List ℕ → ℕ → ℕ
one = figure_of 1

unfoldable pub two : List ℕ → ℕ → ℕ
two = figure_of 6

unfoldable pub three : List ℕ → ℕ → ℕ
three = figure_of 11

-- one of the first m lines of a part has the numbers x and y
unfoldable pub pairs : List ℕ → ℕ → ℕ → ℕ → Bool
pairs p m x y = some m (λ i. eqb (one p i) x && eqb (two p i) y)

-- the byte of line i's letter
unfoldable pub letter_at : List ℕ → ℕ → ℕ
letter_at p i = get_or p (start i) 0

-- m lines at the front of the part p have the letter b, and the next has not
pub record Leads (p : List ℕ) (b m : ℕ) : Type 0 where
  pub fits : m ≤ lines p
  pub front : (i : ℕ) → Among m i → letter_at p i ≡ b
  pub next : m < lines p → letter_at p (m + 1) ≡ b → ⊥

-- The lines of a role file: "A line is 22 bytes: one letter, four fields of 5 columns, and byte 10." Assumes nothing.
use Rattle.std.specs.Prelude.{ℕ, ◌+◌, ◌*◌, ◌-◌, ◌/◌, List, Bool, true, ◌&&◌, cond, leb, eqb, length, get_or, drop}
use Rattle.search.specs.Search.{first}
use Rattle.rolefile.specs.declared.Field.{Field}
use Rattle.rolefile.specs.declared.Line.{Line}
use Rattle.rolefile.specs.Ascii.{ascii}
use Rattle.rolefile.specs.Field.{field_at, field_number, value}

-- a line's length, and the byte at its end
abbrev pub line_length : ℕ
line_length = 22

abbrev pub newline : ℕ
newline = 10

-- a letter by its row in the document's table
abbrev pub H : ℕ
H = 1

abbrev pub D : ℕ
D = 2

abbrev pub S : ℕ
S = 3

abbrev pub U : ℕ
U = 4

abbrev pub O : ℕ
O = 5

abbrev pub P : ℕ
P = 6

abbrev pub A : ℕ
A = 7

-- and its byte
abbrev pub letter_byte : ℕ → ℕ
letter_byte k = get_or (ascii "HDSUOPA") (k - 1) 0

-- the row of the letter that has the byte b, or 0 where none has
unfoldable pub letter_of : ℕ → ℕ
letter_of b = first 7 (λ k. eqb b (letter_byte k))

-- how many fields a letter's lines have
unfoldable pub fields : ℕ → ℕ
fields k = cond (eqb k H) 4 (cond (eqb k P) 3 2)

-- field number j of a line of the letter k has a use
abbrev pub field_used : ℕ → ℕ → Bool
field_used j k = leb j (fields k)

-- the line is not malformed: it has a letter, byte 10 at its end, and no field that ends it
unfoldable pub formed : ℕ → ℕ → Field → Field → Field → Field → Bool
formed k end p q r s =
    leb 1 k
    && (eqb end newline
    && (eqb (field_number true p) 0
    && (eqb (field_number true q) 0 && (eqb (field_number (field_used 3 k) r) 0 && eqb (field_number (field_used 4 k) s) 0))))

-- a malformed line has no letter
abbrev pub no_line : Line
no_line = record { letter = 0; a = 0; b = 0; c = 0; d = 0 }

unfoldable pub line_of : ℕ → ℕ → Field → Field → Field → Field → Line
line_of k end p q r s = cond (formed k end p q r s) (record { letter = k; a = value p; b = value q; c = value r; d = value s }) no_line

-- the line whose first byte is at i
abbrev pub line_from : List ℕ → ℕ → Line
line_from f i =
    line_of (letter_of (get_or f i 0)) (get_or f (i + 21) 0) (field_at f (i + 1)) (field_at f (i + 6)) (field_at f (i + 11)) (field_at f (i + 16))

-- line k, counted from 1, starts here
abbrev pub start : ℕ → ℕ
start k = line_length * (k - 1)

unfoldable pub line_at : List ℕ → ℕ → Line
line_at f k = line_from f (start k)

abbrev pub lines : List ℕ → ℕ
lines f = length f / line_length

-- "Each letter's lines are handed on as the part of the file that starts there": the part after the first j lines
abbrev pub part : List ℕ → ℕ → List ℕ
part f j = drop (line_length * j) f

-- What the lines of a role file say. Assumes nothing.
use Rattle.std.specs.Prelude.{ℕ, zero, suc, List, Bool, ◌&&◌, cond, eqb}
use Rattle.search.specs.Search.{some}
use Rattle.rolefile.specs.declared.Line.{Line}
use Rattle.rolefile.specs.Line.{D, S, U, O, P, A, line_at, lines}
use Rattle.rolefile.specs.Form.{header, about}

abbrev pub labels : List ℕ → ℕ
labels f = (header f).a

abbrev pub roles : List ℕ → ℕ
roles f = (header f).b

abbrev pub users : List ℕ → ℕ
users f = (header f).c

-- a card, as document 01 has it, is 64 bytes with a label (the field: object)
abbrev pub cards : List ℕ → ℕ
cards f = (header f).d

-- a line of the letter k with the numbers x, y and z, where z is 0 for a letter of two fields
abbrev pub is : Line → ℕ → ℕ → ℕ → ℕ → Bool
is l k x y z = eqb l.letter k && (eqb l.a x && (eqb l.b y && eqb l.c z))

unfoldable pub says : List ℕ → ℕ → ℕ → ℕ → ℕ → Bool
says f k x y z = some (lines f) (λ i. is (line_at f i) k x y z)

-- "label a dominates label b"
abbrev pub over : List ℕ → ℕ → ℕ → Bool
over f a b = says f D a b 0

-- "role r is senior to role q"
abbrev pub above : List ℕ → ℕ → ℕ → Bool
above f r q = says f S r q 0

-- "role r may read (m = 1) or write (m = 2) card o"
abbrev pub permits : List ℕ → ℕ → ℕ → ℕ → Bool
permits f m r o = says f P r o m

-- "user u is assigned to role r"
abbrev pub assigned : List ℕ → ℕ → ℕ → Bool
assigned f u r = says f A u r 0

-- the value at the last of 1 to n that is so, or 0
unfoldable pub last : ℕ → (ℕ → Bool) → (ℕ → ℕ) → ℕ
last zero p v = 0
last (suc n) p v = cond (p (suc n)) (v (suc n)) (last n p v)

-- the label that the line of the letter k about x gives; a well-formed file has just one such line
unfoldable pub label_by : List ℕ → ℕ → ℕ → ℕ
label_by f k x = last (lines f) (about f k x) (λ i. (line_at f i).b)

-- "user u has clearance l"
abbrev pub clearance : List ℕ → ℕ → ℕ
clearance f u = label_by f U u

-- "card o has label l"
abbrev pub card_label : List ℕ → ℕ → ℕ
card_label f o = label_by f O o

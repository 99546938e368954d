-- A line reads as l just where its 22 bytes are l as it is written, and is malformed just where they are no line as it is written. Assumes nothing.
use Rattle.std.proofs.Common.{ℕ, zero, suc, ◌+◌, ◌≤◌, ◌<◌, ◌≡◌, refl, sym, ap, ap₂, subst, ◌∙◌, ◌↔◌, ◌⊎◌, inl, inr, ⊎_elim, List, ◌∷◌, ◌++◌, [], Bool, true, false, cond, arith, add_assoc, add-one, leb, eqb, length, get_or, take, drop, take_at, drop_at, drop-cons, eqb-true, eq-eqb, leb-true, le-leb}
use mathlib.Core.Logic.Iff
use native.Mathlib.Decide.{dec_lt}
use Rattle.search.specs.Search.{every, first, Among}
use Rattle.search.proofs.Truth.{and-iff, untrue}
use Rattle.search.proofs.Found.{every_at, first_lowest}
use Rattle.rolefile.specs.declared.Field.{Field}
use Rattle.rolefile.specs.declared.Field.TheVariants.{Blank, Number, Bad}
use Rattle.rolefile.specs.declared.Line.{Line}
use Rattle.rolefile.specs.Field.{five, field_at, field_number, value}
use Rattle.rolefile.specs.Line.{line_length, newline, letter_byte, letter_of, field_used, formed, no_line, line_of, start, line_at, lines}
use Rattle.rolefile.specs.Decimal.{columns_of, as_written, FieldHolds, Writable}
use Rattle.rolefile.proofs.Decimals.{padded_length, field_number_lem, field_blank}

-- ---- its letter

letter_read : (k : ℕ) → Among 7 k → letter_of (letter_byte k) ≡ k
unfolding every first letter_of
letter_read k w = eqb-true (letter_of (letter_byte k)) k (every_at (λ j. eqb (letter_of (letter_byte j)) j) 7 refl k w)

pub letter_iff : (b k : ℕ) → ((letter_of b ≡ k) × (1 ≤ k)) ↔ ((b ≡ letter_byte k) × Among 7 k)
unfolding letter_of
letter_iff b k = (
  λ (e, l). let low = (first_lowest (λ j. eqb b (letter_byte j)) 7 k l).0 e in (eqb-true b (letter_byte k) low.holds, low.inside),
  λ (e, w). (rw e (letter_read k w), w.0),
)

-- ---- its fields

-- the field p is the number n, in use, or blank, without use
abbrev pub FieldIs : Bool → Field → ℕ → Type 0
FieldIs true p n = p ≡ Number n
FieldIs false p n = (p ≡ Blank) × (n ≡ 0)

field_told : (used : Bool) (p : Field) → FieldIs used p (value p) ⊎ (field_number used p ≡ 2)
field_told true Blank = inr refl
field_told true (Number n) = inl refl
field_told true Bad = inr refl
field_told false Blank = inl (refl, refl)
field_told false (Number n) = inr refl
field_told false Bad = inr refl

pub number_stands : (used : Bool) (p : Field) → eqb (field_number used p) 0 ≡ true → FieldIs used p (value p)
number_stands used p e = ⊎_elim (λ s. s) (λ t. absurd (omega (arith, eqb-true (field_number used p) 0 e))) (field_told used p)

pub stands_number : (used : Bool) (p : Field) (n : ℕ) → FieldIs used p n → (field_number used p ≡ 0) × (value p ≡ n)
stands_number true p n e = rw e (refl, refl)
stands_number false p n (e, z) = rw (e, z) (refl, refl)

is_iff : (used : Bool) (f : List ℕ) (at n : ℕ) → FieldIs used (field_at f at) n ↔ ((five f at ≡ columns_of used n) × FieldHolds used n)
is_iff true f at n = (λ e. let (l, s) = (field_number_lem f at n).0 e in (s, l), λ (s, l). (field_number_lem f at n).1 (l, s))
is_iff false f at n = (λ (e, z). ((field_blank f at).0 e, z), λ (s, z). ((field_blank f at).1 s, z))

-- a field ends its line just where its columns are not those that its use asks
pub ends_line_iff : (used : Bool) (f : List ℕ) (at : ℕ)
    → (field_number used (field_at f at) ≡ 2) ↔ ((n : ℕ) → FieldHolds used n → five f at ≡ columns_of used n → ⊥)
ends_line_iff used f at = (
  λ z n h e. omega (arith, (stands_number used (field_at f at) n ((is_iff used f at n).1 (e, h))).0),
  λ none. ⊎_elim (λ s. let (e, h) = (is_iff used f at _).0 s in absurd (none _ h e)) (λ z. z) (field_told used (field_at f at)),
)

pub columns_length : (used : Bool) (n : ℕ) → (used ≡ true → n < 100000) → length (columns_of used n) ≡ 5
columns_length true n l = padded_length n (l refl)
columns_length false n l = refl

-- a field and then the rest of its line
split : (used : Bool) (f : List ℕ) (at n : ℕ) {rest more : List ℕ} → FieldHolds used n → five f at ++ rest ≡ columns_of used n ++ more
    → FieldIs used (field_at f at) n × (rest ≡ more)
split used f at n {rest} {more} h e =
    let long = columns_length used n (λ u. rw u at h) in
    let same : five f at ≡ columns_of used n = ap (take 5) e ∙ take_at (columns_of used n) more 5 long in
    ((is_iff used f at n).1 (same, h), ap (drop 5) e ∙ drop_at (columns_of used n) more 5 long)

-- ---- the line

-- a letter, a last byte and four fields make the line l
pub record Makes (k last : ℕ) (p q r s : Field) (l : Line) : Type 0 where
  pub letter : k ≡ l.letter
  pub some : 1 ≤ l.letter
  pub end : last ≡ newline
  pub a : p ≡ Number l.a
  pub b : q ≡ Number l.b
  pub c : FieldIs (field_used 3 l.letter) r l.c
  pub d : FieldIs (field_used 4 l.letter) s l.d

module _ (k last : ℕ) (p q r s : Field) where
  -- what they say, where they make a line
  abbrev said : Line
  said = record { letter = k; a = value p; b = value q; c = value r; d = value s }

  formed_makes : formed k last p q r s ≡ true → Makes k last p q r s said
  unfolding formed
  formed_makes e =
      let (e₁, t₁) = (and-iff (leb 1 k) _).0 e in
      let (e₂, t₂) = (and-iff (eqb last newline) _).0 t₁ in
      let (e₃, t₃) = (and-iff (eqb (field_number true p) 0) _).0 t₂ in
      let (e₄, t₄) = (and-iff (eqb (field_number true q) 0) _).0 t₃ in
      let (e₅, e₆) = (and-iff (eqb (field_number (field_used 3 k) r) 0) _).0 t₄ in
      record {
        letter = refl;
        some = leb-true 1 k e₁;
        end = eqb-true last newline e₂;
        a = number_stands true p e₃;
        b = number_stands true q e₄;
        c = number_stands (field_used 3 k) r e₅;
        d = number_stands (field_used 4 k) s e₆;
      }

  -- else it is malformed
  pub not_made : (Makes k last p q r s said → ⊥) → no_line ≡ line_of k last p q r s
  unfolding line_of
  not_made h = rw (untrue (formed k last p q r s) (λ e. h (formed_makes e)))

  module _ (l : Line) where
    makes : (line_of k last p q r s ≡ l) × (1 ≤ l.letter) → Makes k last p q r s l
    unfolding line_of
    makes (is, m) = go (formed k last p q r s) refl is
      where
        go : (t : Bool) → formed k last p q r s ≡ t → cond t said no_line ≡ l → Makes k last p q r s l
        go true e same = subst (Makes k last p q r s) same (formed_makes e)
        go false e same = absurd (omega (arith, ap (λ x. x.letter) same))

    pub made : Makes k last p q r s l → (line_of k last p q r s ≡ l) × (1 ≤ l.letter)
    unfolding line_of formed
    made w =
        let (e₁, a) = stands_number true p l.a w.a in
        let (e₂, b) = stands_number true q l.b w.b in
        let (e₃, c) = stands_number (field_used 3 l.letter) r l.c w.c in
        let (e₄, d) = stands_number (field_used 4 l.letter) s l.d w.d in
        let good : formed l.letter last p q r s ≡ true = rw (le-leb 1 l.letter w.some, eq-eqb last newline w.end, e₁, e₂, e₃, e₄) in
        (rw (w.letter, good) (λ i. record { letter = l.letter; a = a i; b = b i; c = c i; d = d i }), w.some)

-- the line of f that starts at i is l
abbrev pub Reads : List ℕ → ℕ → Line → Type 0
Reads f i l = Makes (letter_of (get_or f i 0)) (get_or f (i + 21) 0) (field_at f (i + 1)) (field_at f (i + 6)) (field_at f (i + 11)) (field_at f (i + 16)) l

pub line_iff : (f : List ℕ) (k : ℕ) (l : Line) → ((line_at f k ≡ l) × (1 ≤ l.letter)) ↔ Reads f (start k) l
unfolding line_at
line_iff f k l = (makes _ _ _ _ _ _ l, made _ _ _ _ _ _ l)

-- ---- its bytes

-- n bytes of f from i on
abbrev pub bytes : List ℕ → ℕ → ℕ → List ℕ
bytes f i zero = []
bytes f i (suc n) = get_or f i 0 ∷ bytes f (i + 1) n

pub take_bytes : (f : List ℕ) (i n : ℕ) → i + n ≤ length f → take n (drop i f) ≡ bytes f i n
take_bytes f i zero h = refl
take_bytes f i (suc n) h = rw (drop-cons f i 0 (omega arith), ← (add-one i), take_bytes f (i + 1) n (omega arith))

module _ (f : List ℕ) (i : ℕ) (l : Line) (h : i + line_length ≤ length f) where
  line-bytes :
      take line_length (drop i f) ≡ get_or f i 0 ∷ (five f (i + 1) ++ (five f (i + 6) ++ (five f (i + 11) ++ (five f (i + 16) ++ (get_or f (i + 21) 0 ∷ [])))))
  line-bytes = take_bytes f i line_length h ∙ simp add_assoc

  to_bytes : Reads f i l → (take line_length (drop i f) ≡ as_written l) × Writable l
  unfolding as_written
  to_bytes w =
      let (e₀, h₀) = (letter_iff (get_or f i 0) l.letter).0 (w.letter, w.some) in
      let (e₁, h₁) = (is_iff true f (i + 1) l.a).0 w.a in
      let (e₂, h₂) = (is_iff true f (i + 6) l.b).0 w.b in
      let (e₃, h₃) = (is_iff (field_used 3 l.letter) f (i + 11) l.c).0 w.c in
      let (e₄, h₄) = (is_iff (field_used 4 l.letter) f (i + 16) l.d).0 w.d in
      let tail = ap (λ b. b ∷ []) w.end in (
        line-bytes ∙ ap₂ ◌∷◌ e₀ (ap₂ ◌++◌ e₁ (ap₂ ◌++◌ e₂ (ap₂ ◌++◌ e₃ (ap₂ ◌++◌ e₄ tail)))),
        record { letter = h₀; a = h₁; b = h₂; c = h₃; d = h₄ },
      )

  from_bytes : (take line_length (drop i f) ≡ as_written l) × Writable l → Reads f i l
  unfolding as_written
  from_bytes (e, w) =
      let all = sym line-bytes ∙ e in
      let (letter, some) = (letter_iff (get_or f i 0) l.letter).1 (ap (λ x. get_or x 0 0) all, w.letter) in
      let (a, t₁) = split true f (i + 1) l.a w.a (ap (drop 1) all) in
      let (b, t₂) = split true f (i + 6) l.b w.b t₁ in
      let (c, t₃) = split (field_used 3 l.letter) f (i + 11) l.c w.c t₂ in
      let (d, t₄) = split (field_used 4 l.letter) f (i + 16) l.d w.d t₃ in
      record { letter = letter; some = some; end = ap (λ x. get_or x 0 0) t₄; a = a; b = b; c = c; d = d }

module _ (f : List ℕ) (k : ℕ) (w : Among (lines f) k) where
  pub reads_line : (l : Line) → ((line_at f k ≡ l) × (1 ≤ l.letter)) ↔ ((take line_length (drop (start k) f) ≡ as_written l) × Writable l)
  reads_line l =
      let h : start k + line_length ≤ length f = omega arith in
      Iff.trans (line_iff f k l) (to_bytes f (start k) l h, from_bytes f (start k) l h)

  -- and malformed just where they are no line as it is written
  pub malformed_iff : ((line_at f k).letter ≡ 0) ↔ ((l : Line) → Writable l → take line_length (drop (start k) f) ≡ as_written l → ⊥)
  malformed_iff = (
    λ z l u e. let (i, m) = (reads_line l).1 (e, u) in omega (arith, ap (λ x. x.letter) i),
    λ none. elim (dec_lt 0 (line_at f k).letter) [
      | yes m ↦ let (e, u) = (reads_line (line_at f k)).0 (refl, m) in absurd (none (line_at f k) u e)
      | no m ↦ omega arith
    ],
  )

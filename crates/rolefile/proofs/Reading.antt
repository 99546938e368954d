-- Reading a line field by field: its bytes and its fields, what is taken out of a field, and that a field which does not read as asked ends the line. Assumes nothing.
use Rattle.std.proofs.Common.{ℕ, zero, suc, ◌+◌, ◌*◌, ◌-◌, ◌/◌, ◌≤◌, ◌<◌, ◌≡◌, refl, sym, ap, ◌∙◌, List, [], ◌∷◌, Bool, true, false, ◌&&◌, cond, eqb, length, get_or, take, drop, arith, add_assoc, add-zero, mul-suc, eqb-true}
use Rattle.std.specs.Prelude.{Some, None, ◌↔◌}
use Rattle.std.specs.Simd.{first_chunks}
use Rattle.std.proofs.lemmas.List.{get_or-take, get_or-drop, take_all, drop-drop, length-drop}
use lib.ListN.{get_or-eq_default}
use Rattle.std.specs.List.{prefix_len}
use Rattle.std.proofs.lemmas.List.Sums.{prefix_len-le-length, prefix_len_passes, prefix_len_stops}
use borrow.Author.Tests.{eqb-false}
use Rattle.search.proofs.Truth.{eqb_iff, and_both, same}
use Rattle.rolefile.specs.declared.Field.{Field}
use Rattle.rolefile.specs.declared.Field.TheVariants.{Blank}
use Rattle.rolefile.specs.Field.{blank, column, columns, five, field_number, value}
use Rattle.rolefile.specs.Line.{line_length, no_line, line_from, lines}
use Rattle.rolefile.specs.inner.Field.{taken_out}
use Rattle.rolefile.specs.inner.Section.{figure, letter_at, Leads}
use Rattle.rolefile.proofs.Decimals.{reads_blank}
use Rattle.rolefile.proofs.Written.{FieldIs, number_stands, stands_number, not_made, take_bytes}

-- ---- a field's five columns

module _ (cs : List ℕ) (long : length cs ≡ 5) where
  pub whole : cs ≡ five cs 0
  whole = sym (take_all 5 cs (omega arith)) ∙ take_bytes cs 0 5 (omega arith)

  module _ (byte : (i : ℕ) → get_or cs i 0 < 256) where
    -- blanks before the columns that are read, compared as one number
    pub after_two : get_or cs 0 0 + get_or cs 1 0 * 256 ≡ 8224 → columns Blank (get_or cs 2 0 ∷ get_or cs 3 0 ∷ get_or cs 4 0 ∷ []) ≡ columns Blank cs
    unfolding columns column
    after_two e =
        let e₁ : get_or cs 1 0 ≡ blank = omega (arith, byte 0) in
        let e₀ : get_or cs 0 0 ≡ blank = omega arith in
        rw (whole, e₀, e₁)

    abbrev four : ℕ
    four = get_or cs 0 0 + get_or cs 1 0 * 256 + get_or cs 2 0 * 65536 + get_or cs 3 0 * 16777216

    four_blanks_lem : four ≡ 538976288 → (get_or cs 0 0 ≡ blank) × (get_or cs 1 0 ≡ blank) × (get_or cs 2 0 ≡ blank) × (get_or cs 3 0 ≡ blank)
    four_blanks_lem h =
        let e₃ : get_or cs 3 0 ≡ blank = omega (arith, byte 0, byte 1, byte 2) in
        let e₂ : get_or cs 2 0 ≡ blank = omega (arith, byte 0, byte 1) in
        let e₁ : get_or cs 1 0 ≡ blank = omega (arith, byte 0) in
        let e₀ : get_or cs 0 0 ≡ blank = omega arith in
        (e₀, e₁, e₂, e₃)

    pub after_four : four ≡ 538976288 → column Blank (get_or cs 4 0) ≡ columns Blank cs
    unfolding columns column
    after_four h = let (e₀, e₁, e₂, e₃) = four_blanks_lem h in rw (whole, e₀, e₁, e₂, e₃)

    -- five blanks, four of them tested at once
    pub blank_tested : (eqb four 538976288 && eqb (get_or cs 4 0) blank) ≡ eqb (field_number false (columns Blank cs)) 0
    blank_tested = same _ _ to of
      where
        to : (eqb four 538976288 && eqb (get_or cs 4 0) blank) ≡ true → eqb (field_number false (columns Blank cs)) 0 ≡ true
        to e =
            let (h, e₄) = (and_both (eqb_iff four 538976288) (eqb_iff (get_or cs 4 0) blank)).0 e in
            let (e₀, e₁, e₂, e₃) = four_blanks_lem h in
            let b : columns Blank cs ≡ Blank = (reads_blank cs long).1 (whole ∙ rw (e₀, e₁, e₂, e₃, e₄)) in
            rw b

        of : eqb (field_number false (columns Blank cs)) 0 ≡ true → (eqb four 538976288 && eqb (get_or cs 4 0) blank) ≡ true
        of e =
            let s = (reads_blank cs long).0 (number_stands false (columns Blank cs) e).0 in
            rw s

-- a number is taken out of a field just where the field stands as it
pub taken_iff : (used : Bool) (f : Field) (n : ℕ) → (taken_out used f ≡ Some n) ↔ FieldIs used f n
unfolding taken_out
taken_iff used f n = (to (eqb (field_number used f) 0) refl, λ h. let (e, v) = stands_number used f n h in rw (e, v))
  where
    to : (b : Bool) → eqb (field_number used f) 0 ≡ b → cond b (Some (value f)) None ≡ Some n → FieldIs used f n
    to true q e = let v : value f ≡ n = cc in rw v at (number_stands used f q)
    to false q e = let z : ◌≡◌ {A = ℕ} 0 1 = cc in absurd (omega arith)

-- ---- a line's four fields

-- the first four chunks of five columns after the letter
pub four_fields : (l rest : List ℕ) (chunks front : List (List ℕ)) → length l ≡ line_length → rest ≡ drop 1 l → chunks ≡ first_chunks 5 (length rest / 5) rest → front ≡ take 4 chunks
    → front ≡ five l 1 ∷ five l 6 ∷ five l 11 ∷ five l 16 ∷ []
four_fields l rest chunks front long r c e =
    let e₁ : take 5 (drop 1 l) ≡ five l 1 = take_bytes l 1 5 (omega arith) in
    let e₆ : take 5 (drop 6 l) ≡ five l 6 = take_bytes l 6 5 (omega arith) in
    let e₁₁ : take 5 (drop 11 l) ≡ five l 11 = take_bytes l 11 5 (omega arith) in
    let e₁₆ : take 5 (drop 16 l) ≡ five l 16 = take_bytes l 16 5 (omega arith) in
    let four : length (drop 1 l) / 5 ≡ 4 = omega (arith, length-drop 1 l) in
    e ∙ rw (c, r, four, drop-drop 5 1 l, drop-drop 5 6 l, drop-drop 5 11 l, e₁, e₆, e₁₁, e₁₆)

-- ---- a file's lines

pub chunk_at : (n k i : ℕ) (f : List ℕ) → i < k → get_or (first_chunks n k f) i [] ≡ take n (drop (n * i) f)
chunk_at n zero i f l = absurd (omega arith)
chunk_at n (suc k) zero f l = let e : n * 0 ≡ 0 = omega arith in rw e
chunk_at n (suc k) (suc i) f l = let e : n + n * i ≡ n * suc i = omega (arith, mul-suc n i) in rw (drop-drop, e) at (chunk_at n k i (drop n f) (omega arith))

module _ (f : List ℕ) (i : ℕ) where
  byte_of : (k : ℕ) → k < line_length → get_or (take line_length (drop i f)) k 0 ≡ get_or f (i + k) 0
  byte_of k l = get_or-take line_length (drop i f) k 0 l ∙ get_or-drop i f k 0

  five_of : (at : ℕ) → at + 5 ≤ line_length → five (take line_length (drop i f)) at ≡ five f (i + at)
  five_of at l = rw (byte_of at (omega arith), byte_of (at + 1) (omega arith), byte_of (at + 2) (omega arith), byte_of (at + 3) (omega arith), byte_of (at + 4) (omega arith)) (simp add_assoc)

  pub line_of_piece : line_from (take line_length (drop i f)) 0 ≡ line_from f i
  line_of_piece =
      rw (byte_of 0 (omega arith), byte_of 21 (omega arith), five_of 1 (omega arith), five_of 6 (omega arith), five_of 11 (omega arith), five_of 16 (omega arith), add-zero)

-- field j of a line, by what its columns come to
field_place : (l : List ℕ) (j : ℕ) → j < 4 → get_or (five l 1 ∷ five l 6 ∷ five l 11 ∷ five l 16 ∷ []) j [] ≡ five l (5 * j + 1)
field_place l zero h = refl
field_place l (suc zero) h = refl
field_place l (suc (suc zero)) h = refl
field_place l (suc (suc (suc zero))) h = refl
field_place l (suc (suc (suc (suc j)))) h = absurd (omega arith)

pub figure_there : (f : List ℕ) (i j : ℕ) (l : List ℕ) (fields : List (List ℕ)) → j < 4 → l ≡ take line_length (drop i f) → fields ≡ five l 1 ∷ five l 6 ∷ five l 11 ∷ five l 16 ∷ []
    → figure (get_or fields j []) 0 ≡ figure f (i + (5 * j + 1))
figure_there f i j l fields h e q =
    let place : get_or fields j [] ≡ five f (i + (5 * j + 1)) = rw q (field_place l j h ∙ rw e (five_of f i (5 * j + 1) (omega arith))) in
    ap (λ c. figure c 0) place

module _ (p : List ℕ) (whole : List (List ℕ)) (e : whole ≡ first_chunks line_length (lines p) p) where
  -- line k + 1
  pub line_there : (k : ℕ) → k < lines p → get_or whole k [] ≡ take line_length (drop (line_length * k) p)
  line_there k l = rw e (chunk_at line_length (lines p) k p l)

  letter_there : (k : ℕ) → k < lines p → get_or (get_or whole k []) 0 0 ≡ letter_at p (k + 1)
  unfolding letter_at
  letter_there k l =
      let before : k + 1 - 1 ≡ k = omega arith in
      rw (line_there k l, before) (byte_of p (line_length * k) 0 (omega arith) ∙ rw add-zero)

  -- the lines at the front that have the letter
  pub leads : (b m : ℕ) → length whole ≡ lines p → m ≡ prefix_len (λ l. eqb (get_or l 0 0) b) whole → Leads p b m
  leads b m len is =
      let has : List ℕ → Bool = λ l. eqb (get_or l 0 0) b in
      let within = prefix_len-le-length has whole in
      record {
        fits = omega (arith, within, len, is);
        front = λ i w.
            let k : i - 1 + 1 ≡ i = omega arith in
            let t = prefix_len_passes has whole (i - 1) [] (omega (arith, is, w)) in
            rw k at (sym (letter_there (i - 1) (omega (arith, within, len, is, w))) ∙ eqb-true _ b t);
        next = λ l q.
            let t = prefix_len_stops has whole [] (omega (arith, is, len)) in
            eqb-false _ b t (rw is at (letter_there m l ∙ q));
      }

-- past its end a file has no line
pub past_end : (f : List ℕ) (i : ℕ) → length f ≤ i + 21 → no_line ≡ line_from f i
past_end f i l = not_made _ _ _ _ _ _ (λ m. omega (arith, m.end, get_or-eq_default f 0 l))

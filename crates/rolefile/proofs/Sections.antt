-- The letters of a file whose lines are all good come in the table's order, so the lines of one letter are a section of the file: what the file says by
-- that letter its section says, and the numbers of those lines are the figures of the part that starts there. Assumes nothing.
use Rattle.std.proofs.Common.{ℕ, zero, suc, ◌+◌, ◌-◌, ◌≤◌, ◌<◌, ◌≡◌, refl, sym, ◌∙◌, ◌↔◌, ⊎_elim, List, Bool, true, false, ◌&&◌, arith, add-zero, add-suc, leb, eqb, get_or, get_or-drop, eqb-true, eq-eqb, le-leb}
use mathlib.Core.Bool.{and-true}
use native.Mathlib.Decide.{dec_lt}
use Rattle.search.specs.Search.{Among, some}
use Rattle.search.proofs.Truth.{and-iff}
use Rattle.rolefile.specs.declared.Line.{Line}
use Rattle.rolefile.specs.Field.{field_at}
use Rattle.rolefile.specs.Line.{P, letter_byte, letter_of, fields, field_used, start, line_at, lines, part}
use Rattle.rolefile.specs.Form.{count, about, lines_about}
use Rattle.rolefile.specs.Said.{is, says, last, label_by}
use Rattle.rolefile.specs.WellFormed.{GoodLines}
use Rattle.rolefile.specs.inner.Section.{one, two, three, letter_at, Leads, pairs}
use Rattle.rolefile.proofs.Decimals.{figures}
use Rattle.rolefile.proofs.Written.{Reads, FieldIs, letter_iff, line_iff}
use Rattle.rolefile.proofs.Parts.{part_start, part_line, part_lines}
use Rattle.rolefile.proofs.Within.{Within, some_within, count_within, last_within}

-- the first j lines are of letters before k, and the others are not
pub record Cut (f : List ℕ) (k j : ℕ) : Type 0 where
  pub fits : j ≤ lines f
  pub below : (i : ℕ) → Among j i → (line_at f i).letter < k
  pub rest : (i : ℕ) → j < i → i ≤ lines f → k ≤ (line_at f i).letter

-- the m lines after the first j, and no others, are of the letter k
pub record Section (f : List ℕ) (k j m : ℕ) : Type 0 where
  pub fits : j + m ≤ lines f
  pub inside : (i : ℕ) → Among m i → (line_at f (j + i)).letter ≡ k
  pub only : (i : ℕ) → Among (lines f) i → (line_at f i).letter ≡ k → Within j m i

part_letter : (f : List ℕ) (j i : ℕ) → 1 ≤ i → letter_at (part f j) i ≡ letter_at f (j + i)
unfolding letter_at
part_letter f j i l = rw (get_or-drop, part_start j i l)

module _ (f : List ℕ) (good : GoodLines f) where
  -- ---- the letters

  some_letter : (i : ℕ) → Among (lines f) i → 1 ≤ (line_at f i).letter
  some_letter i w = elim (dec_lt 1 i) [
    | yes l ↦ omega (arith, ((good i w).body (λ e. omega arith)).letter)
    | no l ↦ let e : i ≡ 1 = omega arith in rw e (omega (arith, ((good i w).head e).letter))
  ]

  next_letter : (i : ℕ) → Among (lines f) (suc i) → 1 ≤ i → (line_at f i).letter ≤ (line_at f (suc i)).letter
  next_letter i w l =
      let before : suc i - 1 ≡ i = omega arith in
      ⊎_elim (λ h. omega arith) (λ h. omega arith) (rw before at ((good (suc i) w).body (λ e. omega arith)).order)

  letters_rise : (i j : ℕ) → Among (lines f) i → Among (lines f) j → i ≤ j → (line_at f i).letter ≤ (line_at f j).letter
  letters_rise i j v w l =
      let e : i + (j - i) ≡ j = omega arith in
      rw e at (go (j - i) (omega arith))
    where
      go : (d : ℕ) → i + d ≤ lines f → (line_at f i).letter ≤ (line_at f (i + d)).letter
      go zero h = rw add-zero (omega arith)
      go (suc d) h = rw add-suc (omega (arith, go d (omega arith), next_letter (i + d) (omega arith) (omega arith)))

  first_byte : (i : ℕ) → Among (lines f) i → letter_of (get_or f (start i) 0) ≡ (line_at f i).letter
  first_byte i w = ((line_iff f i (line_at f i)).0 (refl, some_letter i w)).letter

  -- a line's letter is k just where its first byte is that of k
  letter_byte_lem : (i k : ℕ) → Among (lines f) i → Among 7 k → ((line_at f i).letter ≡ k) ↔ (letter_at f i ≡ letter_byte k)
  unfolding letter_at
  letter_byte_lem i k w u = (
    λ e. ((letter_iff (get_or f (start i) 0) k).0 (first_byte i w ∙ e, u.0)).0,
    λ e. sym (first_byte i w) ∙ ((letter_iff (get_or f (start i) 0) k).1 (e, u)).0,
  )

  -- ---- where they begin and end

  pub cut_first : 1 ≤ lines f → Cut f 2 1
  cut_first l = record {
    fits = l;
    below = λ i w. let e : i ≡ 1 = omega arith in rw e (omega (arith, ((good 1 (omega arith)).head refl).letter));
    rest = λ i p q. ((good i (omega arith)).body (λ e. omega arith)).letter;
  }

  module _ {k j m : ℕ} (c : Cut f k j) (u : Among 7 k) (h : Leads (part f j) (letter_byte k) m) where
    cut_fits : j + m ≤ lines f
    cut_fits = omega (arith, c.fits, h.fits, part_lines f j)

    leads_letter : (i : ℕ) → Among m i → (line_at f (j + i)).letter ≡ k
    leads_letter i w =
        (letter_byte_lem (j + i) k (omega (arith, cut_fits)) u).1 (sym (part_letter f j i w.0) ∙ h.front i w)

    next_other : j + m < lines f → (line_at f (j + (m + 1))).letter ≡ k → ⊥
    next_other l g =
        h.next (omega (arith, part_lines f j)) (part_letter f j (m + 1) (omega arith) ∙ (letter_byte_lem (j + (m + 1)) k (omega arith) u).0 g)

    -- the lines of one letter are a section, and the next letter begins where it ends
    pub section_next : Section f k j m × Cut f (k + 1) (j + m)
    section_next = (
      record { fits = cut_fits; inside = leads_letter; only = λ i w q. (starts i w q, ends i w q) },
      record { fits = cut_fits; below = low; rest = high },
    )
      where
        low : (i : ℕ) → Among (j + m) i → (line_at f i).letter < k + 1
        low i w = elim (dec_lt j i) [
          | yes l ↦ let q : j + (i - j) ≡ i = omega arith in omega (arith, rw q at (leads_letter (i - j) (omega arith)))
          | no l ↦ omega (arith, c.below i (omega arith))
        ]

        high : (i : ℕ) → j + m < i → i ≤ lines f → k + 1 ≤ (line_at f i).letter
        high i l r =
            let rise = letters_rise (j + (m + 1)) i (omega arith) (omega arith) (omega arith) in
            let above = c.rest (j + (m + 1)) (omega arith) (omega arith) in
            let other = next_other (omega arith) in
            omega arith

        starts : (i : ℕ) → Among (lines f) i → (line_at f i).letter ≡ k → j < i
        starts i w q = elim (dec_lt j i) [ yes l ↦ l | no l ↦ absurd (omega (arith, c.below i (omega arith))) ]

        ends : (i : ℕ) → Among (lines f) i → (line_at f i).letter ≡ k → i ≤ j + m
        ends i w q = elim (dec_lt (j + m) i) [ yes l ↦ absurd (omega (arith, high i l w.1)) | no l ↦ omega arith ]

-- ---- searches for lines of one letter

module _ {f : List ℕ} {k j m : ℕ} (s : Section f k j m) where
  -- a test that begins with the letter
  tested : (rest : ℕ → Bool) (i : ℕ) → Among (lines f) i → (eqb (line_at f i).letter k && rest i) ≡ true → Within j m i
  tested rest i w e = s.only i w (eqb-true (line_at f i).letter k ((and-iff (eqb (line_at f i).letter k) (rest i)).0 e).0)

-- ---- the numbers of lines

-- the numbers of the m lines l of the part p are its figures; a letter of two fields has no third
pub record Told (p : List ℕ) (l : ℕ → Line) (m : ℕ) : Type 0 where
  pub a : (i : ℕ) → Among m i → one p i ≡ (l i).a
  pub b : (i : ℕ) → Among m i → two p i ≡ (l i).b
  pub mode : (i : ℕ) → Among m i → (l i).letter ≡ P → three p i ≡ (l i).c
  pub none : (i : ℕ) → Among m i → fields (l i).letter ≡ 2 → (l i).c ≡ 0

module _ (f : List ℕ) (good : GoodLines f) {k j m : ℕ} (s : Section f k j m) where
  line_reads : (i : ℕ) → Among m i → Reads (part f j) (start i) (line_at f (j + i))
  line_reads i w =
      let fits = s.fits in
      (line_iff (part f j) i (line_at f (j + i))).0 (part_line f j i w.0, some_letter f good (j + i) (omega arith))

  third : (i : ℕ) → Among m i → (t : Bool) → field_used 3 (line_at f (j + i)).letter ≡ t
      → FieldIs t (field_at (part f j) (start i + 11)) (line_at f (j + i)).c
  third i w t e = rw e at (line_reads i w).c

  there : (i : ℕ) → Among m i → leb i (lines (part f j)) ≡ true
  there i w = let fits = s.fits in le-leb i (lines (part f j)) (omega (arith, part_lines f j))

  pub told : Told (part f j) (λ i. line_at f (j + i)) m
  unfolding one two three fields
  told =
      let p = part f j in
      record {
        a = λ i w. rw (there i w) (figures p (start i + 1) (line_at f (j + i)).a (line_reads i w).a);
        b = λ i w. rw (there i w) (figures p (start i + 6) (line_at f (j + i)).b (line_reads i w).b);
        mode = λ i w e. rw (there i w) (figures p (start i + 11) (line_at f (j + i)).c (third i w true (rw e)));
        none = λ i w e. (third i w false (rw e)).1;
      }

  -- ---- what the lines say

  -- a letter of two fields
  pub says_two : fields k ≡ 2 → (x y : ℕ) → pairs (part f j) m x y ≡ says f k x y 0
  unfolding says pairs
  says_two e x y =
      sym (some_within (lines f) j m s.fits (λ i. is (line_at f i) k x y 0) _ (tested s _)
      (λ i w. rw (s.inside i w, eq-eqb k k refl, told.none i w (rw (s.inside i w) e), and-true, told.a i w, told.b i w)))

  -- the letter of three
  pub says_three : k ≡ P → (x y z : ℕ)
      → says f k x y z ≡ some m (λ i. eqb (one (part f j) i) x && (eqb (two (part f j) i) y && eqb (three (part f j) i) z))
  unfolding says
  says_three e x y z =
      some_within (lines f) j m s.fits (λ i. is (line_at f i) k x y z) _ (tested s _)
      (λ i w. rw (s.inside i w, eq-eqb k k refl, told.a i w, told.b i w, told.mode i w (s.inside i w ∙ e)))

  module _ (x : ℕ) where
    about_one : (i : ℕ) → Among m i → about f k x (j + i) ≡ eqb (one (part f j) i) x
    about_one i w = rw (s.inside i w, eq-eqb k k refl, told.a i w)

    pub count_about : lines_about f k x ≡ count m (λ i. eqb (one (part f j) i) x)
    count_about = count_within (lines f) j m s.fits (about f k x) _ (tested s _) about_one

    pub label_section : label_by f k x ≡ last m (λ i. eqb (one (part f j) i) x) (two (part f j))
    unfolding label_by
    label_section =
        last_within (lines f) j m s.fits (about f k x) _ (tested s _) about_one _ _ (λ i w. sym (told.b i w))

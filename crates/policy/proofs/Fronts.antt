-- The lines of one letter as a slice of their own: their numbers are those of the part that they are the front of. Assumes nothing.
use Rattle.std.proofs.Common.{ℕ, zero, suc, ◌+◌, ◌*◌, ◌≤◌, ◌<◌, ◌≡◌, refl, ap, ◌∙◌, List, ◌&&◌, arith, eqb, get_or, take, drop, length-take-le, get_or-take, drop-drop, le-leb}
use Rattle.search.specs.Search.{Among}
use Rattle.search.proofs.Found.{some_agree}
use Rattle.rolefile.specs.declared.Verdict.{Verdict}
use Rattle.rolefile.specs.Line.{start, lines, part}
use Rattle.rolefile.specs.Form.{scan}
use Rattle.rolefile.specs.inner.Section.{figure_of, one, two, three, pairs, Leads}
use Rattle.policy.specs.inner.Filling.{notes, line_grants, granted_by_lines}

-- ---- the front of a part and what comes after it

-- the first m lines of a part are m lines
pub front_lines : (m : ℕ) (s : List ℕ) → m ≤ lines s → lines (take (22 * m) s) ≡ m
front_lines m s fits = let e = length-take-le (22 * m) s (omega arith) in rw e (omega arith)

pub part_part : (f : List ℕ) (j m : ℕ) → part (part f j) m ≡ part f (j + m)
part_part f j m = let e : 22 * j + 22 * m ≡ 22 * (j + m) = omega arith in drop-drop (22 * m) (22 * j) f ∙ ap (λ n. drop n f) e

-- ---- the numbers of the lines of a front

module _ {b : ℕ} {s p : List ℕ} (leads : Leads s b (lines p)) (front : p ≡ take (22 * lines p) s) where
  same_byte : (j : ℕ) → j < 22 * lines p → get_or p j 0 ≡ get_or s j 0
  same_byte j l = ap (λ xs. get_or xs j 0) front ∙ get_or-take (22 * lines p) s j 0 l

  same_figure : (k : ℕ) → k ≤ 17 → (i : ℕ) → Among (lines p) i → figure_of k p i ≡ figure_of k s i
  same_figure k few i w =
      let fits = leads.fits in
      rw (
        le-leb i (lines p) w.1,
        le-leb i (lines s) (omega arith),
        same_byte (start i + k) (omega arith),
        same_byte (start i + k + 1) (omega arith),
        same_byte (start i + k + 2) (omega arith),
        same_byte (start i + k + 3) (omega arith),
        same_byte (start i + k + 4) (omega arith),
      )

  pub one_same : (i : ℕ) → Among (lines p) i → one p i ≡ one s i
  unfolding one
  one_same = same_figure 1 (omega arith)

  pub two_same : (i : ℕ) → Among (lines p) i → two p i ≡ two s i
  unfolding two
  two_same = same_figure 6 (omega arith)

  three_same : (i : ℕ) → Among (lines p) i → three p i ≡ three s i
  unfolding three
  three_same = same_figure 11 (omega arith)

  -- what searches for such numbers find
  pub pairs_same : (x y : ℕ) → pairs p (lines p) x y ≡ pairs s (lines p) x y
  unfolding pairs
  pairs_same x y =
      some_agree (λ i. eqb (one p i) x && eqb (two p i) y) (λ i. eqb (one s i) x && eqb (two s i) y) (lines p)
      (λ i w. rw (one_same i w, two_same i w))

  pub granted_same : (xs : List ℕ) (d o r : ℕ) → granted_by_lines xs p (lines p) d o r ≡ granted_by_lines xs s (lines p) d o r
  unfolding granted_by_lines
  granted_same xs d o r =
      some_agree (λ i. line_grants xs (one p i) (two p i) (three p i) d o r) (λ i. line_grants xs (one s i) (two s i) (three s i) d o r) (lines p)
      (λ i w. rw (one_same i w, two_same i w, three_same i w))

  notes_upto : (m x old : ℕ) → m ≤ lines p → notes p m x old ≡ notes s m x old
  unfolding notes
  notes_upto zero x old l = refl
  notes_upto (suc m) x old l = rw (one_same (suc m) (omega arith), two_same (suc m) (omega arith), notes_upto m x old (omega arith))

  pub notes_same : (x old : ℕ) → notes p (lines p) x old ≡ notes s (lines p) x old
  notes_same x old = notes_upto (lines p) x old (omega arith)

  module _ (v : ℕ → ℕ → Verdict) where
    scan_upto : (m : ℕ) → m ≤ lines p → scan m (λ i. v (one p i) (two p i)) ≡ scan m (λ i. v (one s i) (two s i))
    unfolding scan
    scan_upto zero l = refl
    scan_upto (suc m) l = rw (one_same (suc m) (omega arith), two_same (suc m) (omega arith), scan_upto m (omega arith))

    pub scan_same : scan (lines p) (λ i. v (one p i) (two p i)) ≡ scan (lines p) (λ i. v (one s i) (two s i))
    scan_same = scan_upto (lines p) (omega arith)

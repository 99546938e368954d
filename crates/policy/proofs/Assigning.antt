-- 14 to 16 by the tables: a verdict with no number has no place, and the tables' verdict is that of the settings where the tables are. Assumes nothing.
use Rattle.std.proofs.Common.{ℕ, ◌+◌, ◌≤◌, ◌<◌, ◌≡◌, refl, sym, ◌∙◌, ◌⊎◌, inl, inr, ⊎_elim, Bool, true, false, not, ◌&&◌, ◌||◌, cond, List, arith, leb, eqb, get_or, ne_eqb, leb-true, le-leb}
use mathlib.Core.Bool.{and-false}
use native.Mathlib.Decide.{dec_lt}
use borrow.Author.Tests.{lt-leb}
use Rattle.search.specs.Search.{Among, among, some}
use Rattle.search.proofs.Truth.{and-iff, among_iff, untrue, both, same}
use Rattle.search.proofs.Found.{some_cut}
use Rattle.order.specs.Closure.{Relation, Agree}
use Rattle.order.specs.Bound.{converse}
use Rattle.order.specs.inner.Members.{row_holds, in_row}
use Rattle.rolefile.specs.declared.Verdict.{Verdict}
use Rattle.rolefile.specs.Line.{A, line_at, lines, part}
use Rattle.rolefile.specs.Form.{refusal, header, scan}
use Rattle.rolefile.specs.inner.Section.{one, two}
use Rattle.rolefile.specs.WellFormed.{GoodCounts, GoodLines}
use Rattle.rolefile.proofs.Verdicts.{Clean, unless_clean}
use Rattle.rolefile.proofs.Sections.{Section, told}
use Rattle.rolefile.proofs.Within.{scan_within}
use Rattle.policy.specs.Policy.{Level, Free, Label, Undefined}
use Rattle.policy.specs.Settings.{Inside, Settings, settings}
use Rattle.policy.specs.Policy.{may_at, level, r_level, w_level, passes, is_defined, level_number}
use Rattle.policy.specs.Tables.{clearances_at, r_levels_at, w_levels_at, byte_of, marked, passes_in, mark_at}
use Rattle.policy.specs.inner.Filling.{level_row, some_serves, assign_by_tables}
use Rattle.policy.specs.Image.{Labelled, Dominating, Levelled}
use Rattle.policy.specs.Verdict.{serves, assign_verdict, assignment_verdict}
use Rattle.policy.specs.declared.counts.Counts.{Counts}
use Rattle.policy.specs.inner.Stages.{Stands, Ready, Closed}
use Rattle.policy.proofs.Fronts.{one_same, two_same, scan_same}
use Rattle.policy.proofs.Readying.{good_of, counts_of, a_lines, one_within, two_within, limits_a}
use Rattle.policy.proofs.Inside.{dominates_inside}
use Rattle.policy.proofs.Levels.{Tells, level_tells}
use Rattle.policy.proofs.Checks.{assignment_clean}

pub tables_clean : (xs under over : List ℕ) (u r : ℕ) → Clean (assign_by_tables xs under over u r)
unfolding assign_by_tables
tables_clean xs under over u r =
    unless_clean (not (eqb (byte_of xs w_levels_at r) 99)) (refusal 14 u r) (λ e. omega arith)
    (unless_clean (passes_in xs (byte_of xs r_levels_at r) (byte_of xs clearances_at u) (byte_of xs r_levels_at r)) (refusal 15 u r) (λ e. omega arith)
    (unless_clean (some_serves under over (byte_of xs clearances_at u) (byte_of xs r_levels_at r) (byte_of xs w_levels_at r)) (refusal 16 u r) (λ e. omega arith)
    (λ e. refl)))

-- ---- a level as it is kept: no label is 0 or 99

module _ (n : ℕ) (ge : Relation) (s : ℕ → Bool) (few : n ≤ 32) where
  defined_number : not (eqb (level_number (level n ge s)) 99) ≡ is_defined (level n ge s)
  defined_number = go (level n ge s) (level_tells n ge s)
    where
      go : (l : Level) → Tells n ge s l → not (eqb (level_number l) 99) ≡ is_defined l
      go Free t = refl
      go (Label c) (h, b) = rw (ne_eqb c 99 (λ e. omega (arith, b.inside)))
      go Undefined t = refl

  -- what a test of the number kept says, where it agrees with p on the labels
  passes_number : (test p : ℕ → Bool) → test 99 ≡ false → ((l : ℕ) → Among n l → test l ≡ p l)
      → (eqb (level_number (level n ge s)) 0 || test (level_number (level n ge s))) ≡ passes p (level n ge s)
  passes_number test p none agree = go (level n ge s) (level_tells n ge s)
    where
      go : (l : Level) → Tells n ge s l → (eqb (level_number l) 0 || test (level_number l)) ≡ passes p l
      go Free t = refl
      go (Label c) (h, b) = rw (ne_eqb c 0 (λ e. omega (arith, b.inside))) (agree c b.inside)
      go Undefined t = none

-- ---- dominance by the marks m of 32 labels: those of bytes, or of rows

module _ (σ : Settings) (few : σ.labels ≤ 32) (inside : Inside σ.labels σ.dominates) (m : Relation) (says : Agree 32 32 m (λ a b. leb a σ.labels && σ.dominates a b)) where
  -- where one of the two is a label
  mark_is : (a b : ℕ) → Among σ.labels a ⊎ Among σ.labels b → (among 32 a && (among 32 b && m a b)) ≡ σ.dominates a b
  mark_is a b known = same (among 32 a && (among 32 b && m a b)) (σ.dominates a b) to of
    where
      to : (among 32 a && (among 32 b && m a b)) ≡ true → σ.dominates a b ≡ true
      to h =
          let (v, g) = (and-iff (among 32 a) (among 32 b && m a b)).0 h in
          let (w, e) = (and-iff (among 32 b) (m a b)).0 g in
          ((and-iff (leb a σ.labels) (σ.dominates a b)).0 (sym (says a b ((among_iff 32 a).0 v) ((among_iff 32 b).0 w)) ∙ e)).1

      counted : σ.dominates a b ≡ true → Among σ.labels a × Among σ.labels b
      counted h =
          ⊎_elim
          (λ i. ⊎_elim (λ v. (v, rw i at v)) (λ w. (rw i w, w)) known)
          (λ vw. vw)
          (inside a b h)

      of : σ.dominates a b ≡ true → (among 32 a && (among 32 b && m a b)) ≡ true
      of h =
          let (v, w) = counted h in
          let i : Among 32 a = omega arith in
          let j : Among 32 b = omega arith in
          rw ((among_iff 32 a).1 i, (among_iff 32 b).1 j, says a b i j, le-leb a σ.labels v.1) h

  -- a label past those of the settings is marked under none
  mark_past : (a b : ℕ) → Among 32 a → Among 32 b → σ.labels < b → m a b ≡ false
  mark_past a b v w past =
      untrue (m a b) (λ h.
      let (l, d) = (and-iff (leb a σ.labels) (σ.dominates a b)).0 (sym (says a b v w) ∙ h) in
      let few = leb-true a σ.labels l in
      ⊎_elim (λ i. omega arith) (λ (x, y). omega arith) (inside a b d))

-- ---- 16 by the rows of dominance

module _ (σ : Settings) (few : σ.labels ≤ 32) (inside : Inside σ.labels σ.dominates) (under over : List ℕ)
    (lower : Agree 32 32 (row_holds under) (λ a b. leb a σ.labels && σ.dominates a b))
    (upper : Agree 32 32 (converse (row_holds over)) (λ a b. leb a σ.labels && σ.dominates a b)) where
  module _ (y : ℕ) (label : Among σ.labels y) where
    in_under : (a : ℕ) → in_row under a y ≡ σ.dominates a y
    in_under a = rw ((among_iff 32 y).1 (omega arith)) at (mark_is σ few inside (row_holds under) lower a y (inr label))

    in_over : (a : ℕ) → Among σ.labels a → in_row over a y ≡ σ.dominates y a
    in_over a w =
        let v : Among 32 a = omega arith in
        let i : Among 32 y = omega arith in
        rw ((among_iff 32 a).1 v, upper y a i v, le-leb y σ.labels label.1)

    over_is : (r : ℕ) → level_row over (level_number (r_level σ r)) y ≡ passes (λ l. σ.dominates y l) (r_level σ r)
    unfolding r_level
    over_is r = passes_number σ.labels σ.dominates (may_at σ 1 r) few (λ a. in_row over a y) (λ l. σ.dominates y l) refl in_over

    under_is : (r : ℕ) → level_row under (level_number (w_level σ r)) y ≡ passes (λ l. σ.dominates l y) (w_level σ r)
    unfolding w_level
    under_is r = passes_number σ.labels (converse σ.dominates) (may_at σ 2 r) few (λ a. in_row under a y) (λ l. σ.dominates l y) refl (λ a i. in_under a)

  in_past : (a y : ℕ) → Among 32 y → σ.labels < y → in_row under a y ≡ false
  in_past a y w past = untrue (in_row under a y) (λ h.
      let (v, e) = (and-iff (among 32 a) (row_holds under a y)).0 h in
      both e (mark_past σ few inside (row_holds under) lower a y ((among_iff 32 a).0 v) w past))

  some_serves_lem : (u r : ℕ) → some_serves under over (σ.clearance u) (level_number (r_level σ r)) (level_number (w_level σ r)) ≡ some σ.labels (serves σ u r)
  unfolding some_serves
  some_serves_lem u r = some_cut σ.labels 32 few (serves σ u r) _ (λ y w. elim (dec_lt σ.labels y) [
    | yes l ↦ rw (in_past (σ.clearance u) y w l, lt-leb y σ.labels l)
    | no l ↦
        let label : Among σ.labels y = omega arith in
        rw (in_under y label (σ.clearance u), over_is y label r, under_is y label r, le-leb y σ.labels label.1)
  ])

-- ---- the verdict by a state's bytes and by the rows of dominance

module _ (σ : Settings) (ys : List ℕ) (few : σ.labels ≤ 32) (inside : Inside σ.labels σ.dominates) (dominating : Dominating σ ys) where
  pub marked_is : (a b : ℕ) → Among σ.labels a ⊎ Among σ.labels b → marked ys a b ≡ σ.dominates a b
  marked_is = mark_is σ few inside (λ a b. eqb (get_or ys (mark_at a b) 0) 1) (λ a b v w. rw (dominating a b v w) (go (leb a σ.labels && σ.dominates a b)))
    where
      go : (m : Bool) → eqb (cond m 1 0) 1 ≡ m
      go true = refl
      go false = refl

  -- a role's levels by the bytes: whether the w-level is defined, and both at label l
  defined_test : (r : ℕ) → not (eqb (level_number (w_level σ r)) 99) ≡ is_defined (w_level σ r)
  unfolding w_level
  defined_test r = defined_number σ.labels (converse σ.dominates) (may_at σ 2 r) few

  module _ (l r : ℕ) where
    pub reads_test : passes_in ys (level_number (r_level σ r)) l (level_number (r_level σ r)) ≡ passes (σ.dominates l) (r_level σ r)
    unfolding r_level
    reads_test =
        passes_number σ.labels σ.dominates (may_at σ 1 r) few (marked ys l) (σ.dominates l)
        (and-false (among 32 l)) (λ a i. marked_is l a (inr i))

    pub writes_test : passes_in ys (level_number (w_level σ r)) (level_number (w_level σ r)) l ≡ passes (λ a. σ.dominates a l) (w_level σ r)
    unfolding w_level
    writes_test =
        passes_number σ.labels (converse σ.dominates) (may_at σ 2 r) few (λ a. marked ys a l) (λ a. σ.dominates a l)
        refl (λ a i. marked_is a l (inl i))

  module _ (labelled : Labelled σ ys) (levelled : Levelled σ ys) (under over : List ℕ)
      (lower : Agree 32 32 (row_holds under) (λ a b. leb a σ.labels && σ.dominates a b))
      (upper : Agree 32 32 (converse (row_holds over)) (λ a b. leb a σ.labels && σ.dominates a b)) where
    pub tables_verdict : (u r : ℕ) → Among 256 u → Among 128 r → assign_by_tables ys under over u r ≡ assign_verdict σ u r
    unfolding assign_by_tables assign_verdict
    tables_verdict u r v w =
        rw (
          labelled.users u v,
          levelled.reads r w,
          levelled.writes r w,
          defined_test r,
          reads_test (σ.clearance u) r,
          some_serves_lem σ few inside under over lower upper u r,
        )

-- ---- the assignments of a file, by the section of its A lines

module _ (f : List ℕ) (good : GoodLines f) (counts : GoodCounts (header f)) {j m : ℕ} (s : Section f A j m) where
  section_within : (i : ℕ) → Among m i → Among 256 (one (part f j) i) × Among 128 (two (part f j) i)
  section_within i w =
      let u = rw (limits_a (header f)).0 at (one_within f good s (omega arith) i w) in
      let r = rw (limits_a (header f)).1 at (two_within f good s (omega arith) i w) in
      let users = counts.users in
      let roles = counts.roles in
      omega arith

  -- v says of a user and a role what the file does
  section_scan : (v : ℕ → ℕ → Verdict) → ((u r : ℕ) → Among 256 u → Among 128 r → v u r ≡ assign_verdict (settings f) u r)
      → scan m (λ i. v (one (part f j) i) (two (part f j) i)) ≡ scan (lines f) (assignment_verdict f)
  unfolding assignment_verdict
  section_scan v agree =
      sym (scan_within (lines f) j m s.fits (assignment_verdict f) (λ i. v (one (part f j) i) (two (part f j) i))
      (λ i w. assignment_clean f i)
      (λ i w out. rw (ne_eqb (line_at f i).letter A (λ e. out (s.only i w e))))
      (λ i w.
      let n = section_within i w in
      let numbers = told f good s in
      rw (s.inside i w, ← (numbers.a i w), ← (numbers.b i w)) (sym (agree (one (part f j) i) (two (part f j) i) n.0 n.1))))

module _ {f d s u o p a : List ℕ} {n : Counts} (ready : Ready f n d s u o p a) where
  good : GoodLines f
  good = good_of f ready.lines

  counts : GoodCounts (header f)
  counts = counts_of f ready.lines

  stands : Stands f A (1 + lines d + lines s + lines u + lines o + lines p) a
  stands = ready.laid.a_stands

  pub numbers_within : (i : ℕ) → Among (lines a) i → Among 256 (one a i) × Among 128 (two a i)
  numbers_within i w =
      rw (one_same stands.leads stands.front i w, two_same stands.leads stands.front i w)
      (section_within f good counts (a_lines ready.lines ready.laid) i w)

  -- what the tables of ys and the rows of dominance tell of each is what the file does
  pub scan_assignments : (ys under over : List ℕ) → Labelled (settings f) ys → Dominating (settings f) ys → Levelled (settings f) ys
      → Closed f (row_holds under) → Closed f (converse (row_holds over))
      → scan (lines a) (λ i. assign_by_tables ys under over (one a i) (two a i)) ≡ scan (lines f) (assignment_verdict f)
  scan_assignments ys under over labelled dominating levelled lower upper =
      scan_same stands.leads stands.front (assign_by_tables ys under over)
      ∙ section_scan f good counts (a_lines ready.lines ready.laid) (assign_by_tables ys under over)
      (tables_verdict (settings f) ys counts.labels.1 (dominates_inside f good) dominating labelled levelled under over lower upper)

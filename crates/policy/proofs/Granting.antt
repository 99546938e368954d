-- Dominance, permissions and levels as the tables hold them are those of the file: what the P lines grant by the seniors' rows is what a role may do,
-- and the bounds of the labels gathered are its levels. Assumes nothing.
use Rattle.std.proofs.Common.{ℕ, ◌+◌, ◌-◌, ◌*◌, ◌≤◌, ◌<◌, ◌≡◌, refl, sym, ap, ◌∙◌, ⊎_elim, List, Bool, false, ◌&&◌, cond, arith, eqb, get_or, eqb-true, eq-eqb, le-leb}
use mathlib.Core.Bool.{and_assoc, and_comm}
use native.Mathlib.Decide.{dec_lt}
use Rattle.search.specs.Search.{Among, among, some}
use Rattle.search.proofs.Truth.{among_iff, untrue, same}
use Rattle.search.proofs.Found.{some_both, some_none, some_agree, None}
use Rattle.roleset.specs.Row.{member, row_of, Kept}
use Rattle.order.specs.Closure.{Relation, Agree}
use Rattle.order.specs.Bound.{converse}
use Rattle.order.specs.Table.{mark, related}
use Rattle.order.specs.inner.Members.{row_holds}
use Rattle.rolefile.specs.Line.{P, lines, part}
use Rattle.rolefile.specs.Form.{header}
use Rattle.rolefile.specs.Said.{labels, roles, cards, above, permits, card_label}
use Rattle.rolefile.specs.inner.Section.{one, two, three}
use Rattle.rolefile.specs.WellFormed.{GoodCounts, GoodLines}
use Rattle.rolefile.proofs.Sections.{Section, says_three}
use Rattle.policy.specs.Settings.{dominates, senior, settings}
use Rattle.policy.specs.Policy.{may, may_at, level, r_level, w_level, level_number}
use Rattle.policy.specs.Tables.{r_levels_at, seniors_at, readers_at, writers_at, table_of, byte_of, mark_at}
use Rattle.policy.specs.inner.Filling.{line_grants, granted_by_lines, brings, gathered, by_mode, levels_at, LevelBytes, GrantedRows, DominanceRows}
use Rattle.policy.specs.Image.{Labelled, Seniors, Permitting, Levelled, Allows}
use Rattle.policy.specs.declared.counts.Counts.{Counts}
use Rattle.policy.specs.inner.Stages.{Ready, Zeros, Closed, Granting}
use Rattle.policy.proofs.Fronts.{granted_same}
use Rattle.policy.proofs.Readying.{good_of, counts_of, p_lines, one_within, limits_p}
use Rattle.policy.proofs.Inside.{Between, closure_between, above_between}
use Rattle.policy.proofs.Dominance.{closed_agree}
use Rattle.policy.proofs.Builds.{seniors_stay, permitting_stays, labelled_stays}
use Rattle.policy.proofs.Gathering.{level_empty, level_agree}
use Rattle.policy.proofs.Relating.{unites_zeros, by_mode_lem, granted_as}

-- ---- permissions

-- a search for a thing and a line that names it is one for the line
by_line : (n m : ℕ) (x : ℕ → ℕ) (t u : ℕ → Bool) → ((i : ℕ) → Among m i → Among n (x i))
    → some m (λ i. u i && t (x i)) ≡ some n (λ q. t q && some m (λ i. eqb (x i) q && u i))
by_line n m x t u inside =
    let lines = some_both u (λ i. t (x i)) m in
    let things = some_both t (λ q. some m (λ i. eqb (x i) q && u i)) n in
    same (some m (λ i. u i && t (x i))) (some n (λ q. t q && some m (λ i. eqb (x i) q && u i)))
    (λ h.
    let (i, w, a, b) = lines.0 h in
    things.1 (x i, inside i w, b, (some_both (λ j. eqb (x j) (x i)) u m).1 (i, w, eq-eqb (x i) (x i) refl, a)))
    (λ h.
    let (q, w, a, b) = things.0 h in
    let (i, v, c, d) = (some_both (λ i. eqb (x i) q) u m).0 b in
    lines.1 (i, v, d, rw (eqb-true (x i) q c) a))

module _ (f xs : List ℕ) (good : GoodLines f) (few : roles f ≤ 128) (seniors : Seniors (settings f) xs) {j m : ℕ} (s : Section f P j m) where
  role_within : (i : ℕ) → Among m i → Among (roles f) (one (part f j) i)
  role_within i w = rw (limits_p (header f)).0 at (one_within f good s (omega arith) i w)

  senior_row : (q r : ℕ) → Among (roles f) q → Among 128 r → (among 128 q && member xs (row_of seniors_at q) r) ≡ senior f r q
  senior_row q r v w = rw ((among_iff 128 q).1 (omega arith), seniors q r (omega arith) w, le-leb q (roles f) v.1)

  may_is : (d o r : ℕ) → Among 128 r → granted_by_lines xs (part f j) m d o r ≡ may (settings f) d r o
  unfolding granted_by_lines may
  may_is d o r w =
      some_agree
      (λ i. line_grants xs (one p i) (two p i) (three p i) d o r)
      (λ i. line i && senior f r (one p i))
      m (λ i v. rw (senior_row (one p i) r (role_within i v) w) (sym (and_assoc (eqb (two p i) o) (eqb (three p i) d) (senior f r (one p i)))))
      ∙ by_line (roles f) m (one p) (senior f r) line role_within
      ∙ some_agree
      (λ q. senior f r q && some m (λ i. eqb (one p i) q && line i))
      (λ q. senior f r q && permits f d q o)
      (roles f) (λ q v. rw (says_three f good s refl q o d))
    where
      p : List ℕ
      p = part f j

      line : ℕ → Bool
      line i = eqb (two p i) o && eqb (three p i) d

  pub permitted : (ys : List ℕ) → GrantedRows (granted_by_lines xs (part f j) m) xs ys → Zeros readers_at 28688 xs → Permitting (settings f) ys
  permitted ys g zeros = record {
    readers = λ o r v w. unites_zeros readers_at 512 _ xs ys (g.rows 1 (omega arith)) (λ i l m. zeros i l (omega arith)) o r v w ∙ may_is 1 o r w;
    writers = λ o r v w. unites_zeros writers_at 512 _ xs ys (g.rows 2 (omega arith)) (λ i l m. zeros i (omega arith) m) o r v w ∙ may_is 2 o r w;
  }

-- ---- levels

may_at_is : (f xs : List ℕ) → cards f ≤ 512 → Labelled (settings f) xs → (d at : ℕ) → Allows (settings f) d at xs
    → (l r : ℕ) → Among 128 r → gathered xs at (cards f) l r ≡ may_at (settings f) d r l
unfolding gathered may_at
may_at_is f xs few labelled d at allows l r w =
    some_agree
    (brings xs at l r)
    (λ o. may (settings f) d r o && eqb (card_label f o) l)
    (cards f) (λ o v.
    let u : Among 512 o = omega arith in
    rw (labelled.cards o u, allows o r u w) (and_comm (eqb (card_label f o) l) (may (settings f) d r o)))

-- a number past the roles is no role's, and so may do nothing
module _ (f : List ℕ) (between : Between (roles f) (above f)) (r : ℕ) (past : roles f < r) where
  no_junior : None (senior f r) (roles f)
  unfolding senior
  no_junior q w =
      untrue (senior f r q) (λ e. ⊎_elim (λ i. omega arith) (λ v. omega arith) (closure_between (roles f) (above f) between r q e))

  no_card : (d o : ℕ) → may (settings f) d r o ≡ false
  unfolding may
  no_card d o = (some_none (λ q. senior f r q && permits f d q o) (roles f)).1 (λ q w. rw (no_junior q w))

  no_label : (d l : ℕ) → may_at (settings f) d r l ≡ false
  unfolding may_at
  no_label d l = (some_none (λ o. may (settings f) d r o && eqb (card_label f o) l) (cards f)).1 (λ o w. rw (no_card d o))

  free_past : (n d : ℕ) (ge : Relation) → 0 ≡ level_number (level n ge (may_at (settings f) d r))
  free_past n d ge = ap level_number (level_empty n ge (may_at (settings f) d r) ((some_none (may_at (settings f) d r) n).1 (λ l w. no_label d l)))

-- where a mode's levels stand
levels_stand : (d : ℕ) → Among 2 d → levels_at d ≡ r_levels_at + 128 * (d - 1)
levels_stand = by_mode_lem (λ d. levels_at d ≡ r_levels_at + 128 * (d - 1)) refl refl

-- the levels of a mode: the roles' are stored, and the others stay 0
module _ (f : List ℕ) (counts : GoodCounts (header f)) (between : Between (roles f) (above f)) (ge : ℕ → Relation) (g : ℕ → List ℕ) (xs ys : List ℕ)
    (put : LevelBytes (roles f) (λ d r. level_number (level (labels f) (ge d) (λ l. related (g d) 0 l r))) xs ys) (zeros : Zeros r_levels_at seniors_at xs)
    (d : ℕ) (m : Among 2 d) (le : Relation) where
  past : (r : ℕ) → Among 128 r → roles f < r → byte_of ys (levels_at d) r ≡ 0
  past r w l =
      let at = levels_stand d m in
      put.rest (levels_at d + (r - 1)) (λ e n k. omega (arith, levels_stand e n)) ∙ zeros (levels_at d + (r - 1)) (omega arith) (omega arith)

  levels_are : Agree (labels f) (labels f) (ge d) le
      → Agree 32 128 (related (g d) 0) (λ l r. may_at (settings f) d r l)
      → (r : ℕ) → Among 128 r → byte_of ys (levels_at d) r ≡ level_number (level (labels f) le (may_at (settings f) d r))
  levels_are order set r w = elim (dec_lt (roles f) r) [
    | yes l ↦ past r w l ∙ free_past f between r l (labels f) d le
    | no l ↦
        put.levels d m r (omega arith)
        ∙ ap level_number (level_agree (labels f) (ge d) le (λ l. related (g d) 0 l r) (may_at (settings f) d r) order (λ l v. set l r (omega (arith, counts.labels)) w))
  ]

-- ---- the whole stage, from x₀: the table of dominance, the lines' permissions, and both levels

module _ {f d s u o p a : List ℕ} {n : Counts} (ready : Ready f n d s u o p a) (down : List (List Bool)) (under over x₀ x₁ x₂ x₃ readers writers : List ℕ)
    (labelled : Labelled (settings f) x₀) (seniors : Seniors (settings f) x₀)
    (closed : Closed f (mark down)) (lower : Closed f (row_holds under)) (upper : Closed f (converse (row_holds over))) (no-level : Zeros 1808 2064 x₀) (no_role : Zeros 12304 28688 x₀)
    (put : DominanceRows 32 down x₀ x₁)
    (grants : GrantedRows (granted_by_lines x₁ p (lines p)) x₁ x₂)
    (reads : Agree 32 128 (related readers 0) (gathered x₂ readers_at n.cards))
    (writes : Agree 32 128 (related writers 0) (gathered x₂ writers_at n.cards))
    (levels : LevelBytes n.roles (λ d r. level_number (level n.labels (converse (row_holds (by_mode over under d))) (λ l. related (by_mode readers writers d) 0 l r))) x₂ x₃) where
  counts : GoodCounts (header f)
  counts = counts_of f ready.lines

  -- what each store leaves alone
  kept : Kept 16 1040 x₀ x₁
  kept = put.rest

  kept₃ : Kept 1808 2064 x₂ x₃
  kept₃ i out = levels.rest i (λ d m n. rw ready.head.roles (omega (arith, levels_stand d m, counts.roles, out (omega (arith, levels_stand d m)))))

  -- what stands before the levels are put in
  permitting₂ : Permitting (settings f) x₂
  permitting₂ =
      permitted f x₁ (good_of f ready.lines) counts.roles
      (seniors_stay (settings f) x₀ x₁ (λ i l m. kept i (λ n. omega arith)) seniors)
      (p_lines ready.lines ready.laid).0 x₂ (granted_as (granted_same ready.laid.p_stands.leads ready.laid.p_stands.front x₁) grants)
      (λ i l m. kept i (λ n. omega arith) ∙ no_role i l m)

  labelled₂ : Labelled (settings f) x₂
  labelled₂ = labelled_stays (settings f) x₀ x₂ (λ i l m. grants.rest i (λ n. omega arith) ∙ kept i (λ n. omega arith)) labelled

  zeros₂ : Zeros 1808 2064 x₂
  zeros₂ i l m = grants.rest i (λ n. omega arith) ∙ kept i (λ n. omega arith) ∙ no-level i l m

  gathers : (d : ℕ) → Among 2 d → Agree 32 128 (related (by_mode readers writers d) 0) (gathered x₂ (table_of d) n.cards)
  gathers = by_mode_lem (λ d. Agree 32 128 (related (by_mode readers writers d) 0) (gathered x₂ (table_of d) n.cards)) reads writes

  gathered₂ : (d : ℕ) → Among 2 d → Allows (settings f) d (table_of d) x₂ → Agree 32 128 (related (by_mode readers writers d) 0) (λ l r. may_at (settings f) d r l)
  gathered₂ d m allows l r v w = rw ready.head.cards at gathers d m l r v w ∙ may_at_is f x₂ counts.cards labelled₂ d (table_of d) allows l r w

  leveled : (d : ℕ) → Among 2 d → (le : Relation) → Agree (labels f) (labels f) (converse (row_holds (by_mode over under d))) le → Allows (settings f) d (table_of d) x₂
      → (r : ℕ) → Among 128 r → byte_of x₃ (levels_at d) r ≡ level_number (level (labels f) le (may_at (settings f) d r))
  leveled d m le order allows =
      levels_are f counts (above_between f (good_of f ready.lines)) (λ d. converse (row_holds (by_mode over under d))) (by_mode readers writers) x₂ x₃ (rw (ready.head.roles, ready.head.labels) at levels) zeros₂ d m le
      order (gathered₂ d m allows)

  levelled₃ : Levelled (settings f) x₃
  unfolding r_level w_level
  levelled₃ = record {
    reads = leveled 1 (omega arith) (dominates f) (closed_agree f (converse (row_holds over)) counts.labels.1 upper) permitting₂.readers;
    writes = leveled 2 (omega arith) (converse (dominates f)) (λ a b v w. closed_agree f (row_holds under) counts.labels.1 lower b a w v) permitting₂.writers;
  }

  kept_since₁ : (i : ℕ) → (1808 ≤ i → 2064 ≤ i) → (12304 ≤ i → 28688 ≤ i) → get_or x₃ i 0 ≡ get_or x₁ i 0
  kept_since₁ i l m = kept₃ i l ∙ grants.rest i m

  pub granting : Granting f x₀ x₃
  granting = record {
    dominating = λ a b v w.
        kept_since₁ (mark_at a b) (λ m. omega arith) (λ m. omega arith)
        ∙ put.rows a b v w
        ∙ ap (λ m. cond m 1 0) (closed a b v w);
    permitting = permitting_stays (settings f) x₂ x₃ (λ i l m. kept₃ i (λ n. omega arith)) permitting₂;
    levelled = levelled₃;
    rest = λ i out l m. kept_since₁ i l m ∙ kept i out;
  }

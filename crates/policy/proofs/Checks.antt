-- What each check of the policy decides: circles (11 and 13, for any relation), pairs without a bound (12), and assignments (14 to 16).
-- Assumes nothing.
use Rattle.std.proofs.Common.{ℕ, suc, ◌<◌, ◌≡◌, refl, ◌∙◌, inl, inr, ⊎_elim, List, arith, eqb}
use Rattle.search.specs.Search.{some}
use Rattle.search.proofs.Truth.{eqb_iff, either}
use Rattle.order.specs.Closure.{Relation, path, closure, PartialOrder, to_itself}
use Rattle.order.specs.Bound.{converse, lowest_without_bound, partner_without_bound, AllJoined, FirstPair}
use Rattle.order.proofs.Closure.{path_iff, circle_misses, circle_none}
use Rattle.order.proofs.Bound.{lowest_without_none, lowest_without_first}
use Rattle.rolefile.specs.declared.Verdict.{Verdict}
use Rattle.rolefile.specs.Line.{A, line_at}
use Rattle.rolefile.specs.Form.{fine, refusal}
use Rattle.rolefile.specs.Said.{labels}
use Rattle.rolefile.proofs.Verdicts.{Clean, unless_clean}
use Rattle.rolefile.proofs.Decides.{Decides, Else, Fails, decides_as}
use Rattle.rolefile.proofs.Decides.{cond_decides, fine_decides, test_decides, unless_decides, found_decides, search_decides}
use Rattle.rolefile.specs.WellFormed.{GoodLines}
use Rattle.policy.specs.Settings.{Inside, Settings, dominates, settings}
use Rattle.policy.specs.Policy.{may_at, r_level, w_level, passes, is_defined}
use Rattle.policy.specs.Verdict.{circle_verdict, pair_verdict, serves, assign_verdict, assignment_verdict}
use Rattle.policy.specs.Accepted.{ReadsUnder, NoWriteLevel, WithinLevels, GoodOrder, GoodAssignment, LowestOnCircle, AssignRefused, no_level, reads_more, no_label}
use Rattle.policy.proofs.Levels.{defined_iff, without_bound_lem, passing_bounded, reads_under_iff, within_iff, clearance_reads}
use Rattle.policy.proofs.Inside.{dominates_inside}

-- ---- 11 and 13

abbrev pub CircleRefusal : ℕ → Relation → ℕ → Verdict → Type 0
CircleRefusal n e number v = (a : ℕ) × LowestOnCircle n e a × (v ≡ refusal number a 0)

pub circle_decides : (n : ℕ) (e : Relation) (number : ℕ)
    → Decides (circle_verdict (suc number) n (path n e)) (GoodOrder n e (closure n e)) (CircleRefusal n e (suc number))
circle_decides n e number =
    search_decides n (to_itself (path n e)) (
      λ z. let (o, i) = (circle_none e n).0 z in record { order = o; strict = i },
      λ g. (circle_none e n).1 (g.order, g.strict),
    )
    (λ a. path_iff e n a a) (circle_misses e n)
    (λ a. refusal (suc number) a 0) (λ a. omega arith)

-- ---- 12

module _ (n : ℕ) (ge : Relation) where
  -- there is only one first pair
  first_pair : (a b c d : ℕ) → FirstPair n ge a b → FirstPair n ge c d → (a ≡ c) × (b ≡ d)
  first_pair a b c d h g =
      let l = lower a b c d h g in
      let m = lower c d a b g h in
      let i : c ≡ a = omega arith in
      let k : FirstPair n ge a d = rw i at g in
      let p = higher a b d h k in
      let q = higher a d b k h in
      omega arith
    where
      lower : (a b c d : ℕ) → FirstPair n ge a b → FirstPair n ge c d → a < c → ⊥
      lower a b c d h g l = h.without_bound (g.earlier a b h.lower h.higher h.rising l)

      higher : (a b d : ℕ) → FirstPair n ge a b → FirstPair n ge a d → b < d → ⊥
      higher a b d h g l = h.without_bound (g.sooner b h.higher h.rising l)

  abbrev pub PairRefusal : Verdict → Type 0
  PairRefusal v = (a : ℕ) × (b : ℕ) × FirstPair n ge a b × (v ≡ refusal 12 a b)

  pub pair_decides : PartialOrder n ge
      → Decides (pair_verdict n ge) (AllJoined n ge) PairRefusal
  pair_decides o =
      decides_as (found_decides low (refusal 12 low high) (omega arith)) (lowest_without_none n ge o)
      (λ v. (
        λ (z, e). (low, high, pair z, e),
        λ (a, b, h, e).
            let z : low ≡ 0 → ⊥ = λ z. h.without_bound ((lowest_without_none n ge o).0 z a b h.lower h.higher) in
            let (p, q) = first_pair a b low high h (pair z) in
            (z, e ∙ rw (p, q)),
      ))
    where
      low : ℕ
      low = lowest_without_bound n ge

      high : ℕ
      high = partner_without_bound n ge low

      pair : (low ≡ 0 → ⊥) → FirstPair n ge low high
      pair z = lowest_without_first n ge low (omega arith) refl

-- ---- 14 to 16

abbrev pub AssignRefusal : Settings → ℕ → ℕ → Verdict → Type 0
AssignRefusal σ u r v = (n : ℕ) × AssignRefused σ u r n × (v ≡ refusal n u r)

-- for line i, where it is an assignment
abbrev pub AssignmentRefusal : List ℕ → ℕ → Verdict → Type 0
AssignmentRefusal f i v = ((line_at f i).letter ≡ A) × AssignRefusal (settings f) (line_at f i).a (line_at f i).b v

module _ (σ : Settings) (o : PartialOrder σ.labels σ.dominates) (inside : Inside σ.labels σ.dominates) where
  pub assign_decides : (u r : ℕ) → Decides (assign_verdict σ u r) (WithinLevels σ u r) (AssignRefusal σ u r)
  unfolding assign_verdict r_level w_level
  assign_decides u r =
      decides_as
      (unless_decides (defined_iff σ.labels (converse σ.dominates) (may_at σ 2 r)) (refusal 14 u r) (omega arith) (λ d.
      unless_decides (reads_under_iff σ o (σ.clearance u) r) (refusal 15 u r) (omega arith) (λ p.
      test_decides (within_iff σ o u r) (refusal 16 u r) (omega arith)))) (
        λ (d, (p, q)). q,
        λ q. (passing_bounded σ.labels (converse σ.dominates) (may_at σ 2 r) (λ l. σ.dominates l q.0) q.1.writes, (clearance_reads σ o u r inside q, q)),
      )
      (λ v. (to v, λ (n, b, e). of b v e))
    where
      Why : Verdict → Type 0
      Why = Else (Fails (NoWriteLevel σ r → ⊥) (refusal 14 u r)) (NoWriteLevel σ r → ⊥)
          (Else (Fails (ReadsUnder σ (σ.clearance u) r) (refusal 15 u r)) (ReadsUnder σ (σ.clearance u) r) (Fails (WithinLevels σ u r) (refusal 16 u r)))

      to : (v : Verdict) → Why v → AssignRefusal σ u r v
      to v (inl (d, e)) = (14, no_level (without_bound_lem σ.labels (converse σ.dominates) (may_at σ 2 r) d), e)
      to v (inr (d, inl (h, e))) = (15, reads_more d h, e)
      to v (inr (d, inr (p, (h, e)))) = (16, no_label d p h, e)

      of : {n : ℕ} → AssignRefused σ u r n → (v : Verdict) → v ≡ refusal n u r → Why v
      of (no_level b) v e = inl (λ d. d b, e)
      of (reads_more d h) v e = inr (d, inl (h, e))
      of (no_label d p h) v e = inr (d, inr (p, (h, e)))

module _ (f : List ℕ) (good : GoodLines f) (o : PartialOrder (labels f) (dominates f)) where
  pub assignment_decides : (i : ℕ) → Decides (assignment_verdict f i) (GoodAssignment f i) (AssignmentRefusal f i)
  unfolding assignment_verdict
  assignment_decides i =
      decides_as
      (cond_decides (assign_decides (settings f) o (dominates_inside f good) (line_at f i).a (line_at f i).b) (eqb_iff (line_at f i).letter A) fine_decides)
      (λ (g, u). g, λ g. (g, λ n. tt))
      (λ x. (⊎_elim (λ r. r) (λ (n, none). absurd none), inl))

-- whatever dominance is, the number 0 stands with no place
pub assign_clean : (σ : Settings) (u r : ℕ) → Clean (assign_verdict σ u r)
unfolding assign_verdict
assign_clean σ u r =
    unless_clean (is_defined (w_level σ r)) (refusal 14 u r) (omega arith)
    (unless_clean (passes (λ l. σ.dominates (σ.clearance u) l) (r_level σ r)) (refusal 15 u r) (omega arith)
    (unless_clean (some σ.labels (serves σ u r)) (refusal 16 u r) (omega arith) (λ e. refl)))

pub assignment_clean : (f : List ℕ) (i : ℕ) → Clean (assignment_verdict f i)
unfolding assignment_verdict
assignment_clean f i = either Clean (eqb (line_at f i).letter A) _ fine (assign_clean (settings f) (line_at f i).a (line_at f i).b) (λ e. refl)

-- Dominance in tables: the D lines' paths and their closure, and what 11 and 12 find in them. Assumes nothing.
use Rattle.std.proofs.Common.{ℕ, zero, suc, ◌≤◌, min, Some, None, ◌≡◌, refl, ◌∙◌, List, Bool, ◌&&◌, cond, arith, leb, ltb, le-leb, lt-ltb, ne_eqb}
use Rattle.search.proofs.Truth.{and_when}
use Rattle.search.specs.Search.{thing}
use Rattle.search.proofs.Thing.{thing_none, thing_some}
use Rattle.order.specs.declared.bounds.Pair.{Pair}
use Rattle.order.specs.Closure.{Relation, Agree, path, loop, with_itself}
use Rattle.order.specs.Bound.{partner_without_bound, lowest_without_bound, first_without_bound, FirstWithoutBound}
use Rattle.order.specs.Table.{mark, Rows}
use Rattle.order.proofs.Closure.{loop_circle}
use Rattle.order.proofs.Bound.{first_without_agree, first_without_none, first_without_some}
use Rattle.rolefile.specs.Line.{fields, lines}
use Rattle.rolefile.specs.Form.{fine, refusal, found}
use Rattle.rolefile.specs.Said.{labels, over}
use Rattle.rolefile.proofs.Sections.{says_two}
use Rattle.policy.specs.Settings.{dominates}
use Rattle.policy.specs.inner.Filling.{Marking}
use Rattle.policy.specs.Verdict.{order_verdict, label_verdict, pair_verdict}
use Rattle.policy.specs.declared.counts.Counts.{Counts}
use Rattle.policy.specs.inner.Stages.{Ready, Paths, Closed}
use Rattle.policy.proofs.Fronts.{pairs_same}
use Rattle.policy.proofs.Readying.{good_of, counts_of, d_lines, head_labels}
use Rattle.policy.proofs.Inside.{over_between}
use Rattle.policy.proofs.Closing.{paths_table, closed_table}

-- ---- the tables

-- t has the marks of the D lines, and v its paths
pub paths_are : {f d s u o p a : List ℕ} {n : Counts} (ready : Ready f n d s u o p a) (t v : List (List Bool)) → Marking d (lines d) t
    → Rows 32 (min n.labels 32) (path (min n.labels 32) (mark t)) (mark t) (mark v) → Paths f v
unfolding fields
paths_are {f} ready t v said closes =
    let good = good_of f ready.lines in
    let stands = ready.laid.d_stands in
    paths_table 32 (labels f) (over f) (mark t) (mark v) (counts_of f ready.lines).labels.1 (over_between f good)
    (λ x y i j. said x y i j ∙ pairs_same stands.leads stands.front x y ∙ says_two f good (d_lines ready.lines ready.laid).0 refl x y)
    (rw (head_labels ready) at closes)

pub closed_of : (f : List ℕ) (t c : List (List Bool)) → Paths f t
    → Rows 32 (labels f) (with_itself (mark t)) (mark t) (mark c) → Closed f (mark c)
unfolding dominates
closed_of f t c = closed_table 32 (labels f) (over f) (mark t) (mark c)

-- its first rows are all of it
pub closed_rows : (f : List ℕ) (m r : Relation) → Closed f m → Agree 32 32 r (λ a b. leb a (labels f) && m a b) → Closed f r
closed_rows f m r closed same a b v w = same a b v w ∙ rw (closed a b v w) (and_when (leb a (labels f)) (λ e. rw e))

-- on the labels it is dominance
pub closed_agree : (f : List ℕ) (m : Relation) → labels f ≤ 32 → Closed f m → Agree (labels f) (labels f) m (dominates f)
closed_agree f m few closed a b v w = closed a b (omega arith) (omega arith) ∙ rw (le-leb a (labels f) v.1)

-- ---- 11 and 12

-- the first pair that was found is refused
pub pair_verdict_lem : (n : ℕ) (ge : Relation) (a b : ℕ) → FirstWithoutBound n ge a b
    → pair_verdict n ge ≡ found a (refusal 12 a b)
pair_verdict_lem n ge a b h = rw (← h.lower) (go a h.higher)
  where
    go : (a : ℕ) → b ≡ cond (ltb 0 a) (partner_without_bound n ge a) 0 → found a (refusal 12 a (partner_without_bound n ge a)) ≡ found a (refusal 12 a b)
    go zero e = refl
    go (suc a) e = rw (e, lt-ltb 0 (suc a) (omega arith))

-- by the paths, and by an order that is dominance on the labels
pub order_verdict_is : (f : List ℕ) (t : List (List Bool)) (ge : Relation) → labels f ≤ 32 → Paths f t → Agree (labels f) (labels f) ge (dominates f)
    → order_verdict (labels f) (mark t) ge ≡ label_verdict f
unfolding order_verdict label_verdict
order_verdict_is f t ge few p agree =
    rw (loop_circle (over f) few p, pair_verdict_lem n ge a b here, pair_verdict_lem n (dominates f) a b (first_without_agree n ge (dominates f) agree a b here))
  where
    n : ℕ
    n = labels f

    a : ℕ
    a = lowest_without_bound n ge

    b : ℕ
    b = cond (ltb 0 a) (partner_without_bound n ge a) 0

    here : FirstWithoutBound n ge a b
    here = record { lower = refl; higher = refl }

-- what the two searches find, and what is answered
module _ (n : ℕ) (paths ge : Relation) where
  pub circle_refused : {a : ℕ} → Some a ≡ thing (loop n paths) → refusal 11 a 0 ≡ order_verdict n paths ge
  unfolding order_verdict
  circle_refused {a} e = let (q, l) = (thing_some (loop n paths) a).0 e in rw (← q, ne_eqb a 0 (λ z. omega arith)) refl

  module _ (none : None ≡ thing (loop n paths)) where
    no_circle : loop n paths ≡ 0
    no_circle = (thing_none (loop n paths)).0 none

    pub pair_refused : {p : Pair} → Some p ≡ first_without_bound n ge → refusal 12 p.lower p.higher ≡ order_verdict n paths ge
    unfolding order_verdict
    pair_refused {p} e =
        let (h, l) = first_without_some n ge p e in
        rw (no_circle, pair_verdict_lem n ge p.lower p.higher h, ne_eqb p.lower 0 (λ z. omega arith)) refl

    pub none_refused : None ≡ first_without_bound n ge → fine ≡ order_verdict n paths ge
    unfolding order_verdict
    none_refused e = rw (no_circle, pair_verdict_lem n ge 0 0 (first_without_none n ge e)) refl

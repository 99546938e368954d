-- Why levels isolate: where dominance is a partial order, a role that fits a label reads only cards of labels it dominates, and writes only cards of labels that dominate it. Assumes
-- nothing.
use Prim.Native.Nat.{ℕ}
use mathlib.Core.Path.{◌≡◌, refl}
use mathlib.Core.Logic.{⊎_elim}
use mathlib.Core.Bool.{Bool, true}
use lib.Dec.{eqb}
use borrow.Author.Tests.{eq-eqb}
use Rattle.search.specs.Search.{Among}
use Rattle.search.proofs.Found.{some_both}
use Rattle.order.specs.Closure.{Relation, PartialOrder}
use Rattle.order.specs.Bound.{converse}
use Rattle.policy.specs.Settings.{Settings, Bounded}
use Rattle.policy.specs.Policy.{may, may_at}
use Rattle.policy.specs.Accepted.{Passing}
use Rattle.monitor.specs.Rules.{fitting_by}
use Rattle.monitor.proofs.Grants.{fitting_by_iff}

-- a level that passes bounds each label of its set
passing_bound : (n : ℕ) (ge : Relation) (s p : ℕ → Bool) → Passing n ge s p → (x : ℕ) → Among n x → s x ≡ true → (c : ℕ) × Among n c × (ge c x ≡ true) × (p c ≡ true)
passing_bound n ge s p h x w e =
    ⊎_elim (λ empty. absurd (empty (x, w, e))) (λ (c, bound, q). (c, bound.inside, bound.over x w e, q)) h

module _ (σ : Settings) (bounded : Bounded σ) (order : PartialOrder σ.labels σ.dominates) where
  may_at_lem : (m r o : ℕ) → Among σ.cards o → may σ m r o ≡ true → may_at σ m r (σ.card_label o) ≡ true
  unfolding may_at
  may_at_lem m r o w h = (some_both (may σ m r) (λ c. eqb (σ.card_label c) (σ.card_label o)) σ.cards).1 (o, w, h, eq-eqb (σ.card_label o) (σ.card_label o) refl)

  module _ (l r o : ℕ) (label : Among σ.labels l) (card : Among σ.cards o) (suited : fitting_by σ l r ≡ true) where
    pub reads_below : may σ 1 r o ≡ true → σ.dominates l (σ.card_label o) ≡ true
    reads_below h =
        let reads = ((fitting_by_iff σ order l r).0 suited).0 in
        let (c, w, over, q) = passing_bound σ.labels σ.dominates (may_at σ 1 r) (σ.dominates l) reads (σ.card_label o) (bounded.card_labels o card) (may_at_lem 1 r o card h) in
        order.transitive l c (σ.card_label o) label w (bounded.card_labels o card) q over

    pub writes_above : may σ 2 r o ≡ true → σ.dominates (σ.card_label o) l ≡ true
    writes_above h =
        let writes = ((fitting_by_iff σ order l r).0 suited).1 in
        let (c, w, over, q) =
        passing_bound σ.labels (converse σ.dominates) (may_at σ 2 r) (λ a. σ.dominates a l) writes (σ.card_label o) (bounded.card_labels o card) (may_at_lem 2 r o card h)
        in
        order.transitive (σ.card_label o) c l (bounded.card_labels o card) w label over q

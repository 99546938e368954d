-- A label that serves a user in a role serves the user in each of its juniors, and a clearance that lies between the levels is itself a label that serves. Assumes nothing.
use Rattle.std.proofs.Common.{ℕ, ◌≡◌, refl, inl, inr, ⊎_elim, Bool, true, false, eqb}
use Rattle.search.specs.Search.{some, Among}
use Rattle.search.proofs.Truth.{other_iff}
use Rattle.search.proofs.Found.{some_iff, some_both}
use Rattle.order.specs.Closure.{Relation, PartialOrder}
use Rattle.order.specs.Bound.{converse, Upper, IsLub}
use Rattle.order.proofs.Lattice.{lub_of_set, glb_iff_lower}
use Rattle.policy.specs.Settings.{Settings}
use Rattle.policy.specs.Policy.{may, may_at}
use Rattle.policy.specs.Accepted.{Passing, ReadsUnder, WritesOver, Serves, WithinLevels, Lawful}
use Rattle.policy.proofs.Levels.{converse_order}

-- a level of fewer labels passes wherever that of more does, if a set with a bound has a least one
module _ (n : ℕ) (ge : Relation) (o : PartialOrder n ge) (s t : ℕ → Bool) (fewer : (x : ℕ) → Among n x → s x ≡ true → t x ≡ true)
    (bound : (x : ℕ) → Among n x → s x ≡ true → (d : ℕ) → Among n d → Upper n ge s d → (c : ℕ) × IsLub n ge s c) (y : ℕ) (known : Among n y) where
  fewer_pass : Passing n ge t (ge y) → Passing n ge s (ge y)
  fewer_pass h = go (some n s) refl
    where
      go : (b : Bool) → some n s ≡ b → Passing n ge s (ge y)
      go false e = inl ((other_iff false (some_iff s n)).0 e)
      go true e =
          let (x, w, p) = (some_iff s n).0 e in
          ⊎_elim
          (λ none. absurd (none (x, w, fewer x w p)))
          (λ (d, b, q).
          let over : Upper n ge s d = λ z v i. b.over z v (fewer z v i) in
          let (c, l) = bound x w p d b.inside over in
          inr (c, l, o.transitive y d c known b.inside l.inside q (l.least d b.inside over)))
          h

module _ (σ : Settings) (lawful : Lawful σ) where
  module _ (q r : ℕ) (senior : Among σ.roles q) (junior : Among σ.roles r) (over : σ.senior q r ≡ true) where
    -- what a junior may do, its senior may
    pub junior_may : (m o : ℕ) → may σ m r o ≡ true → may σ m q o ≡ true
    unfolding may
    junior_may m o h =
        let (p, w, a, b) = (some_both (σ.senior r) (λ p. σ.permits m p o) σ.roles).0 h in
        (some_both (σ.senior q) (λ p. σ.permits m p o) σ.roles).1 (p, w, lawful.seniority.transitive q r p senior junior w over a, b)

    junior_may_at : (m l : ℕ) → may_at σ m r l ≡ true → may_at σ m q l ≡ true
    unfolding may_at
    junior_may_at m l h =
        let (o, w, a, b) = (some_both (may σ m r) (λ o. eqb (σ.card_label o) l) σ.cards).0 h in
        (some_both (may σ m q) (λ o. eqb (σ.card_label o) l) σ.cards).1 (o, w, junior_may m o a, b)

    pub serves_junior : (u y : ℕ) → Serves σ u q y → Serves σ u r y
    serves_junior u y s = record {
      label = s.label;
      cleared = s.cleared;
      reads =
          fewer_pass σ.labels σ.dominates lawful.dominance (may_at σ 1 r) (may_at σ 1 q) (λ l w. junior_may_at 1 l)
          (λ x w p d v up. lub_of_set σ.labels σ.dominates lawful.dominance lawful.joins (may_at σ 1 r) x w p) y s.label s.reads;
      writes =
          fewer_pass σ.labels (converse σ.dominates) (converse_order lawful.dominance) (may_at σ 2 r) (may_at σ 2 q) (λ l w. junior_may_at 2 l)
          (λ x w p d v low. (glb_iff_lower σ.labels σ.dominates lawful.dominance lawful.joins (may_at σ 2 r)).1 (d, v, low)) y s.label s.writes;
    }

  -- 003, Theorem 3: what it asks of an assignment is enough
  pub theorem_3_within : (u r : ℕ) → Among σ.labels (σ.clearance u) → ReadsUnder σ (σ.clearance u) r → WritesOver σ (σ.clearance u) r → WithinLevels σ u r
  theorem_3_within u r w reads writes = (σ.clearance u, record { label = w; cleared = lawful.dominance.reflexive (σ.clearance u) w; reads = reads; writes = writes })

-- A level as a property: free where the set is empty, its least upper bound where it has one, and else undefined; which levels pass, and which labels serve an assignment.
-- Assumes nothing.
use Rattle.std.proofs.Common.{ℕ, zero, suc, ◌≤◌, ◌≡◌, refl, ◌↔◌, inl, inr, ⊎_elim, Bool, true, false, cond, true≢false, arith}
use mathlib.Core.Logic.Iff
use mathlib.Core.Bool.{false≢true}
use Rattle.search.specs.Search.{some, Among}
use Rattle.search.proofs.Truth.{and_both, other_iff}
use Rattle.search.proofs.Found.{some_iff}
use Rattle.order.specs.Closure.{Relation, PartialOrder}
use Rattle.order.specs.Bound.{lub, converse, IsLub}
use Rattle.order.proofs.Bound.{lub_none, lub_is, lub_iff}
use Rattle.policy.specs.Policy.{Level, Free, Label, Undefined}
use Rattle.policy.specs.Settings.{Inside, Settings}
use Rattle.policy.specs.Policy.{may_at, level_at, level, r_level, w_level, passes, is_defined}
use Rattle.policy.specs.Verdict.{serves}
use Rattle.policy.specs.Accepted.{Some, UndefinedLevel, Passing, ReadsUnder, WritesOver, WithinLevels}

pub converse_order : {n : ℕ} {ge : Relation} → PartialOrder n ge → PartialOrder n (converse ge)
converse_order o = record {
  reflexive = o.reflexive;
  transitive = λ a b c u v w p q. o.transitive c b a w v u q p;
  antisymmetric = λ a b u v p q. o.antisymmetric a b u v q p;
}

module _ (n : ℕ) (ge : Relation) (s : ℕ → Bool) where
  -- what each level says of the set
  abbrev pub Tells : Level → Type 0
  Tells Free = Some n s → ⊥
  Tells (Label c) = Some n s × IsLub n ge s c
  Tells Undefined = UndefinedLevel n ge s

  pub level_tells : Tells (level n ge s)
  unfolding level
  level_tells = go (some n s) refl (lub n ge s) refl
    where
      go : (b : Bool) → some n s ≡ b → (c : ℕ) → lub n ge s ≡ c → Tells (cond b (level_at c) Free)
      go false e c q = (other_iff false (some_iff s n)).0 e
      go true e zero q = ((some_iff s n).0 e, (lub_none n ge s).0 q)
      go true e (suc c) q = ((some_iff s n).0 e, lub_is n ge s (suc c) (omega arith) q)

  pub level_free : (level n ge s ≡ Free) ↔ (Some n s → ⊥)
  unfolding level
  level_free = (λ e. rw e at level_tells, λ none. rw ((other_iff false (some_iff s n)).1 none))

  pub level_undefined : (level n ge s ≡ Undefined) ↔ UndefinedLevel n ge s
  unfolding level
  level_undefined = (λ e. rw e at level_tells, λ (h, none). rw ((some_iff s n).1 h, (lub_none n ge s).1 none))

  undefined_iff : (is_defined (level n ge s) ≡ false) ↔ UndefinedLevel n ge s
  undefined_iff = (go (level n ge s) level_tells, λ b. rw (level_undefined.1 b))
    where
      go : (l : Level) → Tells l → is_defined l ≡ false → UndefinedLevel n ge s
      go Free t e = absurd (true≢false e)
      go (Label c) t e = absurd (true≢false e)
      go Undefined t e = t

  pub defined_iff : (is_defined (level n ge s) ≡ true) ↔ (UndefinedLevel n ge s → ⊥)
  defined_iff = other_iff true undefined_iff

  -- it can be told whether a set is boundless
  pub without_bound_lem : ((UndefinedLevel n ge s → ⊥) → ⊥) → UndefinedLevel n ge s
  without_bound_lem h = undefined_iff.0 ((other_iff false defined_iff).1 h)

  pub passing_bounded : (p : ℕ → Bool) → Passing n ge s p → UndefinedLevel n ge s → ⊥
  passing_bounded p h (some, none) = ⊎_elim (λ empty. empty some) (λ (c, b, e). none c b) h

  module _ (o : PartialOrder n ge) where
    pub level_label : (c : ℕ) → (level n ge s ≡ Label c) ↔ (Some n s × IsLub n ge s c)
    unfolding level
    level_label c = (λ e. rw e at level_tells, λ (h, b). rw ((some_iff s n).1 h, (lub_iff n ge s o c b.inside.0).1 b) (at c b.inside.0))
      where
        at : (c : ℕ) → 1 ≤ c → level_at c ≡ Label c
        at zero l = absurd (omega arith)
        at (suc c) l = refl

    pub passes_iff : (p : ℕ → Bool) → (passes p (level n ge s) ≡ true) ↔ Passing n ge s p
    passes_iff p = (go (level n ge s) level_tells, ⊎_elim (λ none. rw (level_free.1 none)) (λ (c, b, e). bound c b e (some n s) refl))
      where
        go : (l : Level) → Tells l → passes p l ≡ true → Passing n ge s p
        go Free t e = inl t
        go (Label c) (h, b) e = inr (c, b, e)
        go Undefined t e = absurd (false≢true e)

        bound : (c : ℕ) → IsLub n ge s c → p c ≡ true → (b : Bool) → some n s ≡ b → passes p (level n ge s) ≡ true
        bound c b e true h = rw ((level_label c).1 ((some_iff s n).0 h, b)) e
        bound c b e false h = rw (level_free.1 ((other_iff false (some_iff s n)).0 h))

-- a role's level limits at label l, by its levels
module _ (σ : Settings) (o : PartialOrder σ.labels σ.dominates) (l r : ℕ) where
  pub reads_under_iff : (passes (σ.dominates l) (r_level σ r) ≡ true) ↔ ReadsUnder σ l r
  unfolding r_level
  reads_under_iff = passes_iff σ.labels σ.dominates (may_at σ 1 r) o (σ.dominates l)

  pub writes_over_iff : (passes (λ a. σ.dominates a l) (w_level σ r) ≡ true) ↔ WritesOver σ l r
  unfolding w_level
  writes_over_iff = passes_iff σ.labels (converse σ.dominates) (may_at σ 2 r) (converse_order o) (λ a. σ.dominates a l)

-- the labels that serve an assignment
module _ (σ : Settings) (o : PartialOrder σ.labels σ.dominates) (u r : ℕ) where
  serves_iff : (y : ℕ) → (serves σ u r y ≡ true) ↔ ((σ.dominates (σ.clearance u) y ≡ true) × (ReadsUnder σ y r × WritesOver σ y r))
  serves_iff y = and_both (λ e. e, λ e. e) (and_both (reads_under_iff σ o y r) (writes_over_iff σ o y r))

  pub within_iff : (some σ.labels (serves σ u r) ≡ true) ↔ WithinLevels σ u r
  within_iff = Iff.trans (some_iff (serves σ u r) σ.labels) (
    λ (y, w, e). let (c, (p, q)) = (serves_iff y).0 e in (y, record { label = w; cleared = c; reads = p; writes = q }),
    λ (y, s). (y, s.label, (serves_iff y).1 (s.cleared, (s.reads, s.writes))),
  )

  -- where one does, the clearance dominates the r-level
  pub clearance_reads : Inside σ.labels σ.dominates → WithinLevels σ u r → ReadsUnder σ (σ.clearance u) r
  clearance_reads inside (y, s) = ⊎_elim inl (λ (c, b, e). inr (c, b, o.transitive (σ.clearance u) y c known s.label b.inside s.cleared e)) s.reads
    where
      known : Among σ.labels (σ.clearance u)
      known = ⊎_elim (λ i. rw i s.label) (λ (v, w). v) (inside (σ.clearance u) y s.cleared)

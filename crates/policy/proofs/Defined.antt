-- Which levels of ordered settings are defined: every r-level, and the w-level of a role that writes nothing or whose labels written have a lower bound in common.
-- Assumes nothing.
use Rattle.std.proofs.Common.{ℕ, ◌≡◌, ◌↔◌, ◌⊎◌, inl, inr, ⊎_elim, true}
use mathlib.Core.Bool.{false≢true}
use Rattle.search.specs.Search.{Among}
use Rattle.order.specs.Closure.{PartialOrder}
use Rattle.order.specs.Bound.{converse, AllJoined, Lower}
use Rattle.order.proofs.Lattice.{lub_of_set, glb_iff_lower}
use Rattle.policy.specs.Policy.{Level, Free, Label, Undefined}
use Rattle.policy.specs.Settings.{Settings}
use Rattle.policy.specs.Policy.{may_at, level, r_level, w_level, is_defined}
use Rattle.policy.specs.Accepted.{Some}
use Rattle.policy.proofs.Levels.{Tells, level_tells, defined_iff}

module _ (σ : Settings) (order : PartialOrder σ.labels σ.dominates) (joins : AllJoined σ.labels σ.dominates) (r : ℕ) where
  pub r_level_defined : is_defined (r_level σ r) ≡ true
  unfolding r_level
  r_level_defined =
      (defined_iff σ.labels σ.dominates (may_at σ 1 r)).1 (λ ((l, w, e), none).
      let (c, b) = lub_of_set σ.labels σ.dominates order joins (may_at σ 1 r) l w e in
      none c b)

  -- a label that every label which r may write dominates
  abbrev pub WrittenOver : ℕ → Type 0
  WrittenOver = Lower σ.labels σ.dominates (may_at σ 2 r)

  pub w_level_defined : (is_defined (w_level σ r) ≡ true) ↔ ((Some σ.labels (may_at σ 2 r) → ⊥) ⊎ ((d : ℕ) × Among σ.labels d × WrittenOver d))
  unfolding w_level
  w_level_defined = (
    bounded (level σ.labels (converse σ.dominates) (may_at σ 2 r)) (level_tells σ.labels (converse σ.dominates) (may_at σ 2 r)),
    λ h. (defined_iff σ.labels (converse σ.dominates) (may_at σ 2 r)).1 (λ (some, none).
        ⊎_elim (λ empty. empty some) (λ d. let (c, b) = (glb_iff_lower σ.labels σ.dominates order joins (may_at σ 2 r)).1 d in none c b) h),
  )
    where
      bounded : (l : Level) → Tells σ.labels (converse σ.dominates) (may_at σ 2 r) l → is_defined l ≡ true
          → (Some σ.labels (may_at σ 2 r) → ⊥) ⊎ ((d : ℕ) × Among σ.labels d × WrittenOver d)
      bounded Free t e = inl t
      bounded (Label c) (some, b) e = inr ((glb_iff_lower σ.labels σ.dominates order joins (may_at σ 2 r)).0 (c, b))
      bounded Undefined t e = absurd (false≢true e)

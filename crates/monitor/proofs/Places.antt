-- What is put at a place is there, and nothing changes at another. Assumes nothing.
use Rattle.std.proofs.Common.{ℕ, ◌≡◌, refl, sym, eq-eqb, ne_eqb}
use mathlib.Core.Option.{Option}
use native.Mathlib.Decide.{ℕ_discrete}
use Rattle.monitor.specs.Places.{Places, put}

-- what holds of x at place p, and at each other place of what it has, holds at every place once x is put at p
pub put_everywhere : {A : Type 0} (P : ℕ → Option A → Type 0) (t : Places A) (p : ℕ) (x : Option A) → P p x → ((q : ℕ) → (q ≡ p → ⊥) → P q (t q)) → (q : ℕ) → P q (put t p x q)
put_everywhere P t p x here other q = elim (ℕ_discrete q p) [
  | yes e ↦ rw (e, eq-eqb p p refl) here
  | no n ↦ rw (ne_eqb q p n) (other q n)
]

module _ {A : Type 0} (t : Places A) (q : ℕ) (x : Option A) (p : ℕ) where
  pub put_at : q ≡ p → put t q x p ≡ x
  put_at e = rw (eq-eqb p q (sym e))

  pub put_other : (q ≡ p → ⊥) → put t q x p ≡ t p
  put_other n = rw (ne_eqb p q (λ e. n (sym e)))

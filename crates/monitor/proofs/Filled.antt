-- A row that is filled one role after the other: so far it has those up to i of which p holds. Assumes nothing.
use Rattle.std.proofs.Common.{ℕ, ◌+◌, ◌≤◌, ◌≡◌, refl, sym, ap, Bool, true, false, ◌&&◌, ◌||◌, arith, le-leb, leb-true, eq-eqb, ne_eqb, leb, eqb}
use mathlib.Core.Bool.{and-true, and-false, or-false}
use native.Mathlib.Decide.{ℕ_discrete}
use borrow.Author.Tests.{lt-leb}
use Rattle.search.specs.Search.{among}
use Rattle.search.proofs.Truth.{and-iff, among_iff, untrue, leb_same}

module _ (p : ℕ → Bool) where
  pub fill_none : (r : ℕ) → (p r ≡ true → 1 ≤ r) → false ≡ (leb r 0 && p r)
  fill_none r least =
      sym (untrue (leb r 0 && p r) (λ h. let (few, held) = (and-iff (leb r 0) (p r)).0 h in absurd (omega (arith, leb-true r 0 few, least held))))

  pub fill_more : (i r : ℕ) → i + 1 ≤ 128 → ((leb r i && p r) || (p (i + 1) && (among 128 (i + 1) && eqb r (i + 1)))) ≡ (leb r (i + 1) && p r)
  fill_more i r w = elim (ℕ_discrete r (i + 1)) [
    | yes e ↦ rw (e, lt-leb (i + 1) i (omega arith), (among_iff 128 (i + 1)).1 (omega arith), eq-eqb (i + 1) (i + 1) refl, le-leb (i + 1) (i + 1) (omega arith))
        (and-true (p (i + 1)))
    | no n ↦ rw (ne_eqb r (i + 1) n, and-false (among 128 (i + 1)), and-false (p (i + 1)), or-false (leb r i && p r))
        (ap (λ b. b && p r) (leb_same r i r (i + 1) (λ l. omega arith) (λ l. omega arith)))
  ]

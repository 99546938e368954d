-- The number of the things 1 to n of which p holds is 1 just where p holds of one of them alone. Assumes nothing.
use Rattle.std.proofs.Common.{ℕ, zero, suc, ◌+◌, ◌≡◌, refl, ◌↔◌, Bool, true, false, cond, arith}
use Rattle.search.specs.Search.{Among}
use Rattle.search.proofs.Truth.{untrue, both}
use Rattle.search.proofs.Found.{among_more, not_last, None}
use Rattle.rolefile.specs.Form.{count}

module _ (p : ℕ → Bool) where
  -- p holds of a alone
  abbrev Alone : ℕ → ℕ → Type 0
  Alone n a = Among n a × (p a ≡ true) × ((i : ℕ) → Among n i → p i ≡ true → i ≡ a)

  pub count_none : (n : ℕ) → (count n p ≡ 0) ↔ None p n
  unfolding count
  count_none zero = (λ e a w. absurd (omega arith), λ none. refl)
  count_none (suc n) = go (p (suc n)) refl (count n p) (count_none n)
    where
      go : (b : Bool) → p (suc n) ≡ b → (c : ℕ) → (c ≡ 0) ↔ None p n → (c + cond b 1 0 ≡ 0) ↔ None p (suc n)
      go true e c ih = (λ z. absurd (omega arith), λ none. absurd (both e (none (suc n) (omega arith))))
      go false e c ih = (
        λ z. among_more _ n (ih.0 (omega arith)) e,
        λ none. let z = ih.1 (λ a w. none a (omega arith)) in omega arith,
      )

  -- one thing more, of which p does not hold
  alone_more : (n a : ℕ) → p (suc n) ≡ false → Alone n a ↔ Alone (suc n) a
  alone_more n a e = (
    λ (w, h, o). (omega arith, h, λ i v k. o i (not_last p n i e k v) k),
    λ (w, h, o). (not_last p n a e h w, h, λ i v k. o i (omega arith) k),
  )

  pub count_one : (n : ℕ) → (count n p ≡ 1) ↔ ((a : ℕ) × Alone n a)
  unfolding count
  count_one zero = (λ e. absurd (omega arith), λ s. absurd (omega arith))
  count_one (suc n) = go (p (suc n)) refl (count n p) (count_none n) (count_one n)
    where
      go : (b : Bool) → p (suc n) ≡ b → (c : ℕ) → (c ≡ 0) ↔ None p n → (c ≡ 1) ↔ ((a : ℕ) × Alone n a)
          → (c + cond b 1 0 ≡ 1) ↔ ((a : ℕ) × Alone (suc n) a)
      go true e c none ih = (
        λ z. (suc n, (omega arith, e, among_more _ n (λ i u h. absurd (both h (none.0 (omega arith) i u))) (λ h. refl))),
        λ (a, (w, h, only)).
            let last = only (suc n) (omega arith) e in
            let z = none.1 (λ i u. untrue (p i) (λ k. let q = only i (omega arith) k in omega arith)) in
            omega arith,
      )
      go false e c none ih = (
        λ z. let (a, s) = ih.0 (omega arith) in (a, (alone_more n a e).0 s),
        λ (a, s). let q = ih.1 (a, (alone_more n a e).1 s) in omega arith,
      )

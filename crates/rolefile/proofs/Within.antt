-- A search of the things 1 to n that can find something only among j + 1 to j + m is a search of those m things. Assumes nothing.
use Rattle.std.proofs.Common.{ℕ, zero, suc, ◌+◌, ◌≤◌, ◌<◌, ◌≡◌, refl, sym, ap, ◌∙◌, ⊎_elim, Bool, true, false, eqb, arith, add-zero, add-suc, eq-or-lt_of_le, eqb-true}
use mathlib.Core.Bool.{or-false}
use Rattle.search.specs.Search.{Among, some}
use Rattle.search.proofs.Truth.{untrue, either_by}
use Rattle.rolefile.specs.declared.Verdict.{Verdict}
use Rattle.rolefile.specs.Form.{fine, ◌then◌, scan, count}
use Rattle.rolefile.specs.Said.{last}
use Rattle.rolefile.proofs.Verdicts.{Clean, scan_clean}

-- i is one of j + 1 to j + m
abbrev pub Within : ℕ → ℕ → ℕ → Type 0
Within j m i = (j < i) × (i ≤ j + m)

-- ---- any search, by what it has found after each thing: s goes over all n things, and t over the m

module _ {X : Type 0} (s t : ℕ → X) where
  -- the things after a are passed over
  idle : (a n : ℕ) → a ≤ n → ((i : ℕ) → a ≤ i → i < n → s (suc i) ≡ s i) → s n ≡ s a
  idle a zero l h = let e : a ≡ 0 = omega arith in rw e
  idle a (suc n) l h =
      ⊎_elim
      (λ e. ap s (sym e))
      (λ k. h n (omega arith) (omega arith) ∙ idle a n (omega arith) (λ i p q. h i p (omega arith)))
      (eq-or-lt_of_le l)

  -- the things after j are looked at by both
  alike : (j m : ℕ) → s j ≡ t 0 → ((i : ℕ) → i < m → s (j + i) ≡ t i → s (suc (j + i)) ≡ t (suc i)) → s (j + m) ≡ t m
  alike j zero e h = rw add-zero e
  alike j (suc m) e h = rw add-suc (h m (omega arith) (alike j m e (λ i l. h i (omega arith))))

  module _ (n j m : ℕ) (fits : j + m ≤ n) where
    searched : s 0 ≡ t 0 → ((i : ℕ) → i < n → (Within j m (suc i) → ⊥) → s (suc i) ≡ s i)
        → ((i : ℕ) → i < m → s (j + i) ≡ t i → s (suc (j + i)) ≡ t (suc i)) → s n ≡ t m
    searched start out in_both =
        idle (j + m) n fits (λ i p q. out i q (λ w. omega arith))
        ∙ alike j m (idle 0 j (omega arith) (λ i p q. out i (omega arith) (λ w. omega arith)) ∙ start) in_both

-- ---- each search

then_fine : (v : Verdict) → Clean v → (v then fine) ≡ v
then_fine v clean = either_by (λ w. w ≡ v) (eqb v.number 0) fine v (λ e. sym (clean (eqb-true v.number 0 e))) (λ e. refl)

module _ (n j m : ℕ) (fits : j + m ≤ n) where
  -- q finds only things within, and says of them what p says
  module _ (q p : ℕ → Bool) (only : (i : ℕ) → Among n i → q i ≡ true → Within j m i) (same : (i : ℕ) → Among m i → q (j + i) ≡ p i) where
    outside : (i : ℕ) → i < n → (Within j m (suc i) → ⊥) → q (suc i) ≡ false
    outside i l h = untrue (q (suc i)) (λ e. h (only (suc i) (omega arith) e))

    pub some_within : some n q ≡ some m p
    unfolding some
    some_within =
        searched (λ i. some i q) (λ i. some i p) n j m fits refl
        (λ i l h. rw (outside i l h, or-false))
        (λ i l e. rw (e, ← (add-suc j i), same (suc i) (omega arith)))

    pub count_within : count n q ≡ count m p
    unfolding count
    count_within =
        searched (λ i. count i q) (λ i. count i p) n j m fits refl
        (λ i l h. rw (outside i l h) (omega arith))
        (λ i l e. rw (e, ← (add-suc j i), same (suc i) (omega arith)))

    pub last_within : (v w : ℕ → ℕ) → ((i : ℕ) → Among m i → v (j + i) ≡ w i) → last n q v ≡ last m p w
    unfolding last
    last_within v w agree =
        searched (λ i. last i q v) (λ i. last i p w) n j m fits refl
        (λ i l h. rw (outside i l h))
        (λ i l e. rw (e, ← (add-suc j i), same (suc i) (omega arith), agree (suc i) (omega arith)))

  pub scan_within : (v w : ℕ → Verdict) → ((i : ℕ) → Among n i → Clean (v i))
      → ((i : ℕ) → Among n i → (Within j m i → ⊥) → v i ≡ fine) → ((i : ℕ) → Among m i → v (j + i) ≡ w i) → scan n v ≡ scan m w
  unfolding scan
  scan_within v w clean out agree =
      searched (λ i. scan i v) (λ i. scan i w) n j m fits refl
      (λ i l h. rw (out (suc i) (omega arith) h) (then_fine (scan i v) (scan_clean v i (λ k u. clean k (omega arith)))))
      (λ i l e. rw (e, ← (add-suc j i), agree (suc i) (omega arith)))

-- Verdicts: which refusal comes first where checks follow one another, when there is none, and one turn of a loop that scans. Assumes nothing.
use Rattle.std.proofs.Common.{ℕ, zero, suc, ◌+◌, ◌<◌, ◌≤◌, ◌≡◌, refl, sym, ap, ◌∙◌, ⊎_elim, Bool, true, false, eq-or-lt_of_le, arith, add-one, eqb, ne_eqb}
use borrow.Author.Tests.{eqb-false}
use Rattle.search.specs.Search.{Among}
use Rattle.search.proofs.Truth.{either_by, either}
use Rattle.rolefile.specs.declared.Verdict.{Verdict}
use Rattle.rolefile.specs.Form.{fine, refusal, unless, ◌then◌, scan}

abbrev pub Refuses : Verdict → Type 0
Refuses v = v.number ≡ 0 → ⊥

pub refuses : {n a b : ℕ} {v : Verdict} → v ≡ refusal n a b → 1 ≤ n → Refuses v
refuses e l z = omega (arith, ap (λ v. v.number) e)

-- the number 0 stands with no place
abbrev pub Clean : Verdict → Type 0
Clean v = v.number ≡ 0 → v ≡ fine

module _ (v w : Verdict) where
  pub then_next : v.number ≡ 0 → (v then w) ≡ w
  then_next e = rw e

  pub then_stop : Refuses v → (v then w) ≡ v
  then_stop h = rw (ne_eqb v.number 0 h)

  then_clean : Clean w → Clean (v then w)
  then_clean k = either_by Clean (eqb v.number 0) w v (λ q. k) (λ q e. absurd (eqb-false v.number 0 q e))

  pub unless_then : (t : Bool) → Refuses v → unless t v w ≡ (unless t v fine then w)
  unless_then true h = refl
  unless_then false h = sym (then_stop h)

pub then_joined : (u v w : Verdict) → ((u then v) then w) ≡ (u then (v then w))
then_joined u v w = go (eqb u.number 0) refl
  where
    go : (t : Bool) → eqb u.number 0 ≡ t → (unless t u v then w) ≡ unless t u (v then w)
    go true e = refl
    go false e = then_stop u w (eqb-false u.number 0 e)

pub unless_clean : (t : Bool) (v : Verdict) {w : Verdict} → Refuses v → Clean w → Clean (unless t v w)
unless_clean t v {w} h k = either Clean t w v k (λ e. absurd (h e))

module _ (v : ℕ → Verdict) where
  pub scan_clean : (n : ℕ) → ((k : ℕ) → Among n k → Clean (v k)) → Clean (scan n v)
  unfolding scan
  scan_clean zero h = λ e. refl
  scan_clean (suc n) h = then_clean (scan n v) (v (suc n)) (h (suc n) (omega arith))

  -- one turn of a loop that has found no refusal among the first i, and looks at i + 1
  pub scan_yet : (scan 0 v).number ≡ 0
  unfolding scan
  scan_yet = refl

  pub scan_last : (i : ℕ) → (scan i v).number ≡ 0 → v (i + 1) ≡ scan (i + 1) v
  unfolding scan
  scan_last i e = rw add-one (sym (then_next (scan i v) (v (suc i)) e))

  pub scan_more : (i : ℕ) → (scan i v).number ≡ 0 → (v (i + 1)).number ≡ 0 → (scan (i + 1) v).number ≡ 0
  scan_more i e q = rw (← (scan_last i e)) q

  -- a refusal stays the first one
  pub scan_stays : (i n : ℕ) → i ≤ n → Refuses (scan i v) → scan i v ≡ scan n v
  unfolding scan
  scan_stays i zero l h = let q : i ≡ 0 = omega arith in rw q
  scan_stays i (suc n) l h =
      ⊎_elim
      (λ q. rw q)
      (λ m.
      let e : scan i v ≡ scan n v = scan_stays i n (omega arith) h in
      e ∙ sym (then_stop (scan n v) (v (suc n)) (λ z. h (rw e z))))
      (eq-or-lt_of_le l)

  pub scan_found : (n i : ℕ) → i < n → (scan i v).number ≡ 0 → Refuses (v (i + 1)) → v (i + 1) ≡ scan n v
  scan_found n i l e h = let q = scan_last i e in q ∙ scan_stays (i + 1) n (omega arith) (λ z. h (rw q z))

-- What a check decides: `Decides v G R`, its verdict v is fine where G holds; else v refuses, R tells why, and R tells of no other verdict.
-- So checks that follow one another are read part by part. Assumes nothing.
use Rattle.std.proofs.Common.{ℕ, zero, suc, ◌≡◌, refl, sym, ap, ◌∙◌, ◌↔◌, ◌⊎◌, inl, inr, ⊎_elim, Bool, true, false, cond, arith}
use mathlib.Core.Logic.Iff
use mathlib.Core.Bool.{false≢true}
use Rattle.search.specs.Search.{Among, first, LowestOf}
use Rattle.search.proofs.Truth.{eqb_iff}
use Rattle.search.proofs.Found.{last_or, among_more, lowest_more, first_lowest_of}
use Rattle.rolefile.specs.declared.Verdict.{Verdict}
use Rattle.rolefile.specs.Form.{fine, unless, ◌then◌, scan, found}
use Rattle.rolefile.proofs.Verdicts.{Refuses, then_next, then_stop, unless_then}

pub record Decides (v : Verdict) (G : Type 0) (R : Verdict → Type 0) : Type 0 where
  pub told : G ⊎ R v
  pub good : G → v ≡ fine
  pub bad : (x : Verdict) → R x → (x ≡ v) × Refuses v

-- P does not hold, and the verdict is v
abbrev pub Fails : Type 0 → Verdict → Verdict → Type 0
Fails P v x = (P → ⊥) × (x ≡ v)

-- as R tells, or G holds and it is as Q tells
abbrev pub Else : (Verdict → Type 0) → Type 0 → (Verdict → Type 0) → Verdict → Type 0
Else R G Q x = R x ⊎ (G × Q x)

-- the first of 1 to n that refuses, and why
abbrev pub Earliest : (ℕ → Type 0) → (ℕ → Verdict → Type 0) → ℕ → Verdict → Type 0
Earliest G R n x = (k : ℕ) × LowestOf n (λ k. R k x) G k

module _ {v : Verdict} {G : Type 0} {R : Verdict → Type 0} (d : Decides v G R) where
  pub decides_zero : (v.number ≡ 0) ↔ G
  decides_zero = (λ e. ⊎_elim (λ g. g) (λ r. absurd ((d.bad v r).1 e)) d.told, λ g. rw (d.good g))

  pub decides_fine : (v ≡ fine) ↔ G
  decides_fine = (λ e. decides_zero.0 (rw e), d.good)

  -- the same check in other words
  pub decides_as : {H : Type 0} {Q : Verdict → Type 0} → (G ↔ H) → ((x : Verdict) → R x ↔ Q x) → Decides v H Q
  decides_as g r = record {
    told = ⊎_elim (λ h. inl (g.0 h)) (λ h. inr ((r v).0 h)) d.told;
    good = λ h. d.good (g.1 h);
    bad = λ x h. d.bad x ((r x).1 h);
  }

  pub decides_when : {H : Type 0} → (G ↔ H) → Decides v H R
  decides_when g = decides_as g (λ x. Iff.rfl)

  module _ {w : Verdict} {H : Type 0} {Q : Verdict → Type 0} where
    -- w is looked at only where G holds
    pub then_decides : (G → Decides w H Q) → Decides (v then w) (G × H) (Else R G Q)
    then_decides k = ⊎_elim next stop d.told
      where
        next : G → Decides (v then w) (G × H) (Else R G Q)
        next g =
            let z : v.number ≡ 0 = decides_zero.1 g in
            rw (then_next v w z) (record {
              told = ⊎_elim (λ h. inl (g, h)) (λ q. inr (inr (g, q))) (k g).told;
              good = λ (g, h). (k g).good h;
              bad = λ x. ⊎_elim (λ r. absurd ((d.bad x r).1 z)) (λ (g, q). (k g).bad x q);
            })

        stop : R v → Decides (v then w) (G × H) (Else R G Q)
        stop r =
            let h : Refuses v = (d.bad v r).1 in
            rw (then_stop v w h) (record {
              told = inr (inl r);
              good = λ (g, i). d.good g;
              bad = λ x. ⊎_elim (d.bad x) (λ (g, q). absurd (h (decides_zero.1 g)));
            })

    -- v where P holds, else w
    pub cond_decides : {t : Bool} {P : Type 0} → ((t ≡ true) ↔ P) → Decides w H Q
        → Decides (cond t v w) ((P → G) × ((P → ⊥) → H)) (λ x. (P × R x) ⊎ ((P → ⊥) × Q x))
    cond_decides {t} {P} e k = go t e
      where
        go : (t : Bool) → (t ≡ true) ↔ P → Decides (cond t v w) ((P → G) × ((P → ⊥) → H)) (λ x. (P × R x) ⊎ ((P → ⊥) × Q x))
        go true e =
            let p = e.0 refl in
            record {
              told = ⊎_elim (λ g. inl (λ p. g, λ n. absurd (n p))) (λ r. inr (inl (p, r))) d.told;
              good = λ (g, h). d.good (g p);
              bad = λ x. ⊎_elim (λ (p, r). d.bad x r) (λ (n, q). absurd (n p));
            }
        go false e =
            let n : P → ⊥ = λ p. false≢true (e.1 p) in
            record {
              told = ⊎_elim (λ h. inl (λ p. absurd (n p), λ n. h)) (λ q. inr (inr (n, q))) k.told;
              good = λ (g, h). k.good (h n);
              bad = λ x. ⊎_elim (λ (p, r). absurd (n p)) (λ (n, q). k.bad x q);
            }

pub fine_decides : Decides fine (Unit {0}) (λ x. ⊥)
fine_decides = record { told = inl tt; good = λ u. refl; bad = λ x r. absurd r }

module _ {t : Bool} {P : Type 0} (e : (t ≡ true) ↔ P) (v : Verdict) (h : Refuses v) where
  pub test_decides : Decides (unless t v fine) P (Fails P v)
  test_decides = go t e
    where
      go : (t : Bool) → (t ≡ true) ↔ P → Decides (unless t v fine) P (Fails P v)
      go true e = record { told = inl (e.0 refl); good = λ p. refl; bad = λ x (n, q). absurd (n (e.0 refl)) }
      go false e = record { told = inr (λ p. false≢true (e.1 p), refl); good = λ p. absurd (false≢true (e.1 p)); bad = λ x (n, q). (q, h) }

  pub unless_decides : {w : Verdict} {H : Type 0} {Q : Verdict → Type 0} → (P → Decides w H Q)
      → Decides (unless t v w) (P × H) (Else (Fails P v) P Q)
  unless_decides {w} k = rw (unless_then v w t h) (then_decides test_decides k)

pub found_decides : (x : ℕ) (v : Verdict) → Refuses v → Decides (found x v) (x ≡ 0) (Fails (x ≡ 0) v)
found_decides x v h = test_decides (eqb_iff x 0) v h

-- a search for the lowest thing that has P, where the others have N
module _ (n : ℕ) (p : ℕ → Bool) {G : Type 0} {P N : ℕ → Type 0} (none : (first n p ≡ 0) ↔ G) where
  pub search_decides : ((a : ℕ) → Among n a → (p a ≡ true) ↔ P a) → ((a : ℕ) → Among n a → (p a ≡ false) ↔ N a)
      → (make : ℕ → Verdict) → ((a : ℕ) → Refuses (make a))
      → Decides (found (first n p) (make (first n p))) G (λ x. (a : ℕ) × LowestOf n P N a × (x ≡ make a))
  search_decides has has_not make h =
      decides_as (found_decides (first n p) (make (first n p)) (h (first n p))) none
      (λ x. (
        λ (z, e). (first n p, (first_lowest_of p n has has_not (first n p) (omega arith)).0 refl, e),
        λ (a, low, e).
            let i = (first_lowest_of p n has has_not a low.inside.0).1 low in
            (λ z. let w = low.inside in omega arith, e ∙ ap make (sym i)),
      ))

module _ {v : ℕ → Verdict} {G : ℕ → Type 0} {R : ℕ → Verdict → Type 0} (d : (k : ℕ) → Decides (v k) (G k) (R k)) where
  pub scan_decides : (n : ℕ) → Decides (scan n v) ((k : ℕ) → Among n k → G k) (Earliest G R n)
  unfolding scan
  scan_decides zero = record { told = inl (λ k w. absurd (omega arith)); good = λ g. refl; bad = λ x (k, low). let w = low.inside in absurd (omega arith) }
  scan_decides (suc n) =
      decides_as (then_decides (scan_decides n) (λ g. d (suc n))) (
        λ (g, l). among_more _ n g l,
        λ g. (λ k w. g k (omega arith), g (suc n) (omega arith)),
      )
      (λ x. (
        ⊎_elim
            (λ (k, low). (k, lowest_more (omega arith) low))
            (λ (g, r). (suc n, record { inside = omega arith; holds = r; lower = λ j u l. g j (omega arith) })),
        λ (k, low). ⊎_elim
            (λ i. inr (λ j u. low.lower j (omega arith) (omega arith), rw i at low.holds))
            (λ u. inl (k, record { inside = u; holds = low.holds; lower = λ j y l. low.lower j (omega arith) l }))
            (last_or n k low.inside),
      ))

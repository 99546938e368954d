-- Tests that are true: what a comparison, a conjunction, a disjunction, an implication and a range test tell, two tests that say the same, and what
-- holds whichever way a test goes, and is answered then.
-- Assumes nothing.
use Prim.Native.Nat.{ℕ, ◌≤◌, ◌<◌}
use mathlib.Core.Path.{◌≡◌, refl, sym, ◌∙◌}
use mathlib.Core.Logic.Iff
use mathlib.Core.Logic.{◌↔◌, ◌⊎◌, inl, inr, ⊎_elim}
use mathlib.Core.Bool.{Bool, true, false, not, ◌&&◌, ◌||◌, cond, false≢true, true≢false, not-eq-not}
pub use mathlib.Core.Bool.{and-eq-true_iff as and-iff}
use lib.Dec.{leb, ltb, eqb}
use borrow.Author.Tests.{leb-true, le-leb, ltb-true, lt-ltb, eqb-true, eq-eqb}
use Rattle.search.specs.Search.{among, implies, Among}

pub or_iff : (a b : Bool) → ((a || b) ≡ true) ↔ ((a ≡ true) ⊎ (b ≡ true))
or_iff true b = (λ e. inl refl, λ s. refl)
or_iff false b = (λ e. inr e, λ s. ⊎_elim (λ e. absurd (false≢true e)) (λ e. e) s)

-- the second part of a conjunction matters only where the first holds
pub and_when : (a : Bool) {b c : Bool} → (a ≡ true → b ≡ c) → (a && b) ≡ (a && c)
and_when true h = h refl
and_when false h = refl

pub implies_iff : (a b : Bool) → (implies a b ≡ true) ↔ (a ≡ true → b ≡ true)
implies_iff true b = (λ e h. e, λ h. h refl)
implies_iff false b = (λ e h. absurd (false≢true h), λ h. refl)

-- what tests tell, and so what they tell together
pub eqb_iff : (a b : ℕ) → (eqb a b ≡ true) ↔ (a ≡ b)
eqb_iff a b = (eqb-true a b, eq-eqb a b)

pub leb_iff : (a b : ℕ) → (leb a b ≡ true) ↔ (a ≤ b)
leb_iff a b = (leb-true a b, le-leb a b)

pub ltb_iff : (a b : ℕ) → (ltb a b ≡ true) ↔ (a < b)
ltb_iff a b = (ltb-true a b, lt-ltb a b)

module _ {a b : Bool} {P Q : Type 0} (p : (a ≡ true) ↔ P) (q : (b ≡ true) ↔ Q) where
  pub and_both : ((a && b) ≡ true) ↔ (P × Q)
  and_both = Iff.trans (and-iff a b) (Iff.and p q)

  pub or_both : ((a || b) ≡ true) ↔ (P ⊎ Q)
  or_both = (
    λ e. ⊎_elim (λ x. inl (p.0 x)) (λ y. inr (q.0 y)) ((or_iff a b).0 e),
    λ s. (or_iff a b).1 (⊎_elim (λ x. inl (p.1 x)) (λ y. inr (q.1 y)) s),
  )

  pub implies_both : (implies a b ≡ true) ↔ (P → Q)
  implies_both = (λ e x. q.0 ((implies_iff a b).0 e (p.1 x)), λ h. (implies_iff a b).1 (λ x. q.1 (h (p.0 x))))

pub among_iff : (n a : ℕ) → (among n a ≡ true) ↔ Among n a
among_iff n a = and_both (leb_iff 1 a) (leb_iff a n)

-- what is not true is false, and nothing is both
pub untrue : (a : Bool) → (a ≡ true → ⊥) → a ≡ false
untrue a h = not-eq-not.0 h

pub both : {a : Bool} → a ≡ true → a ≡ false → ⊥
both p q = true≢false (sym p ∙ q)

-- where P is what it means that a test comes out `not b`, its coming out b means that P does not hold
pub other_iff : (b : Bool) {a : Bool} {P : Type 0} → (a ≡ not b) ↔ P → (a ≡ b) ↔ (P → ⊥)
other_iff b i = Iff.trans (Iff.symm not-eq-not) (Iff.not i)

-- what code that branches on a call's answer knows of the test that was answered
pub passed : {t u : Bool} → t ≡ u → t ≡ true → u ≡ true
passed e h = sym e ∙ h

pub failed : {t u : Bool} → t ≡ u → t ≡ false → u ≡ false
failed e h = sym e ∙ h

pub one_of : (n x : ℕ) {t : Bool} → t ≡ among n x → t ≡ true → Among n x
one_of n x e h = (among_iff n x).0 (passed e h)

pub none_of : (n x : ℕ) {t : Bool} → t ≡ among n x → t ≡ false → Among n x → ⊥
none_of n x e h = (other_iff false (among_iff n x)).0 (failed e h)

-- two tests that are true in the same cases are one
pub same : (a b : Bool) → (a ≡ true → b ≡ true) → (b ≡ true → a ≡ true) → a ≡ b
same true b f g = sym (f refl)
same false b f g = sym (untrue b (λ e. false≢true (g e)))

pub leb_same : (a b c d : ℕ) → (a ≤ b → c ≤ d) → (c ≤ d → a ≤ b) → leb a b ≡ leb c d
leb_same a b c d f g = same (leb a b) (leb c d) (λ e. le-leb c d (f (leb-true a b e))) (λ e. le-leb a b (g (leb-true c d e)))

pub eqb_swap : (a b : ℕ) → eqb a b ≡ eqb b a
eqb_swap a b = same (eqb a b) (eqb b a) (λ e. eq-eqb b a (sym (eqb-true a b e))) (λ e. eq-eqb a b (sym (eqb-true b a e)))

-- what holds of two things, each where a test picks it, holds of the one that it picks
pub either_by : {A : Type 0} (P : A → Type 0) (b : Bool) (x y : A) → (b ≡ true → P x) → (b ≡ false → P y) → P (cond b x y)
either_by P true x y p q = p refl
either_by P false x y p q = q refl

pub either : {A : Type 0} (P : A → Type 0) (b : Bool) (x y : A) → P x → P y → P (cond b x y)
either P b x y p q = either_by P b x y (λ e. p) (λ e. q)

-- what is answered where a test holds, and where it fails
module _ {b : Bool} where
  pub answered : {r found : ℕ} → b ≡ true → r ≡ found → r ≡ cond b found 0
  answered e q = rw e q

  pub refused : (found : ℕ) → b ≡ false → 0 ≡ cond b found 0
  refused found e = rw e

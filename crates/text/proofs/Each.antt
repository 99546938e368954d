-- The texts of things, put one by one. Assumes nothing.
use Prim.Native.Nat.{ℕ, zero, suc, ◌+◌, ◌-◌, ◌*◌, ◌≤◌}
use mathlib.Core.Path.{◌≡◌, refl}
use mathlib.Core.List.{List}
use native.Mathlib.Omega.{arith}
use native.Mathlib.Nat.{suc-mul, le_trans, mul-le-mul_right}
use native.Mathlib.Numerals.{add-one}
use lib.ListN.{length, length-append}
use Rattle.search.specs.Search.{Among}
use Rattle.text.specs.declared.Text.{Text}
use Rattle.text.specs.Text.{each, each_pair}
use Rattle.text.specs.Added.{Adds}
use Rattle.text.proofs.Added.{adds_nothing, adds_then}

module _ (f : ℕ → List ℕ) {t : Text} where
  pub each_none : Adds (each 0 f) t t
  unfolding each
  each_none = adds_nothing t

  pub each_more : (i : ℕ) {u v : Text} → Adds (each i f) t u → Adds (f (i + 1)) u v → Adds (each (i + 1) f) t v
  unfolding each
  each_more i one two = rw add-one (adds_then one (rw add-one at two))

  -- those before i, and that of i
  pub each_next : (i : ℕ) → 1 ≤ i → {u v : Text} → Adds (each (i - 1) f) t u → Adds (f i) u v → Adds (each i f) t v
  each_next i l {u} {v} one two =
      let same : i - 1 + 1 ≡ i = omega arith in
      let last : Adds (f (i - 1 + 1)) u v = rw same two in
      rw same at (each_more (i - 1) one last)

pub each_agree : (n : ℕ) (f g : ℕ → List ℕ) → ((a : ℕ) → Among n a → f a ≡ g a) → each n f ≡ each n g
unfolding each
each_agree zero f g h = refl
each_agree (suc n) f g h = rw (each_agree n f g (λ a w. h a (omega arith)), h (suc n) (omega arith))

pub each_most : (n m : ℕ) (f : ℕ → List ℕ) → ((a : ℕ) → Among n a → length (f a) ≤ m) → length (each n f) ≤ n * m
unfolding each
each_most zero m f h = omega arith
each_most (suc n) m f h =
    let before = each_most n m f (λ a w. h a (omega arith)) in
    let last = h (suc n) (omega arith) in
    rw (length-append, suc-mul n m) (omega arith)

-- pairs
pub each_pair_agree : (n : ℕ) (f g : ℕ → ℕ → List ℕ) → ((a b : ℕ) → Among n a → Among n b → f a b ≡ g a b) → each_pair n f ≡ each_pair n g
each_pair_agree n f g h = each_agree n _ _ (λ a v. each_agree n (f a) (g a) (λ b w. h a b v w))

pub each_pair_most : (n k m : ℕ) (f : ℕ → ℕ → List ℕ) → n ≤ k → ((a b : ℕ) → Among n a → Among n b → length (f a b) ≤ m)
    → length (each_pair n f) ≤ n * (k * m)
each_pair_most n k m f few h =
    each_most n (k * m) (λ a. each n (f a)) (λ a v. le_trans (each_most n m (f a) (λ b w. h a b v w)) (mul-le-mul_right m few))

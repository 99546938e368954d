-- What the searches of `Search` find, as properties; that they see only what p says of the things 1 to n; and one turn of a loop that makes such a search.
-- Assumes nothing.
use Prim.Native.Nat.{ℕ, zero, suc, ◌+◌, ◌-◌, ◌≤◌, ◌<◌}
use mathlib.Core.Path.{◌≡◌, refl, sym, ap, ◌∙◌}
use mathlib.Core.Logic.{◌↔◌, ◌⊎◌, inl, inr, ⊎_elim}
use mathlib.Core.Bool.{Bool, true, false, not, ◌&&◌, ◌||◌, cond, false≢true, not-not}
use native.Mathlib.Omega.{arith}
use native.Mathlib.Nat.{eq-or-lt_of_le}
use native.Mathlib.Numerals.{add-one}
use native.Mathlib.Decide.{dec_lt}
use lib.Dec.{leb, eqb}
use borrow.Author.Tests.{leb-true, le-leb, lt-leb, eqb-true, eq-eqb, not-true}
use Rattle.search.specs.Search.{some, every, or_else, first, implies, Among, Lowest, LowestOf}
use Rattle.search.proofs.Truth.{or_iff, and-iff, implies_iff, untrue, both, same}

-- one of the things 1 to n + 1 is the last or one of the others
pub last_or : (n a : ℕ) → Among (suc n) a → (a ≡ suc n) ⊎ Among n a
last_or n a w = ⊎_elim (λ e. inl e) (λ l. inr (omega arith)) (eq-or-lt_of_le w.1)

-- one of few things is one of more
pub wider : (m n : ℕ) {x : ℕ} → m ≤ n → Among m x → Among n x
wider m n l a = omega arith

-- what holds of the things 1 to n and of n + 1 holds of the things 1 to n + 1
pub among_more : (P : ℕ → Type 0) (n : ℕ) → ((a : ℕ) → Among n a → P a) → P (suc n) → (a : ℕ) → Among (suc n) a → P a
among_more P n all last a w = ⊎_elim (λ e. rw e last) (all a) (last_or n a w)

-- the same after a turn of a loop
pub among_next : (P : ℕ → Type 0) (i : ℕ) → ((a : ℕ) → Among i a → P a) → P (i + 1) → (a : ℕ) → Among (i + 1) a → P a
among_next P i all last = rw add-one (among_more P i all (rw add-one at last))

-- the lowest of the things 1 to m is the lowest of more of them, and of what its properties tell
lowest_as : {m n a : ℕ} {P N Q M : ℕ → Type 0} → m ≤ n → ((b : ℕ) → Among m b → P b → Q b) → ((b : ℕ) → Among m b → N b → M b)
    → LowestOf m P N a → LowestOf n Q M a
lowest_as {m} {a = a} l has has_not low =
    let w = low.inside in
    record { inside = omega arith; holds = has a w low.holds; lower = λ b v k. let u : Among m b = omega arith in has_not b u (low.lower b u k) }

pub lowest_more : {m n a : ℕ} {P N : ℕ → Type 0} → m ≤ n → LowestOf m P N a → LowestOf n P N a
lowest_more l low = lowest_as l (λ b u h. h) (λ b u h. h) low

module _ (p : ℕ → Bool) where
  -- a thing that has p is not the last, which has not
  pub not_last : (n a : ℕ) → p (suc n) ≡ false → p a ≡ true → Among (suc n) a → Among n a
  not_last n a e h w = ⊎_elim (λ i. absurd (both h (rw i e))) (λ u. u) (last_or n a w)

  some_witness : (n : ℕ) → some n p ≡ true → (a : ℕ) × Among n a × (p a ≡ true)
  unfolding some
  some_witness zero e = absurd (false≢true e)
  some_witness (suc n) e =
      ⊎_elim
      (λ l. let (a, w, h) = some_witness n l in (a, omega arith, h))
      (λ h. (suc n, omega arith, h))
      ((or_iff (some n p) (p (suc n))).0 e)

  some_of : (n a : ℕ) → Among n a → p a ≡ true → some n p ≡ true
  unfolding some
  some_of zero a w h = absurd (omega arith)
  some_of (suc n) a w h =
      (or_iff (some n p) (p (suc n))).1 (⊎_elim (λ e. inr (rw e at h)) (λ v. inl (some_of n a v h)) (last_or n a w))

  pub some_iff : (n : ℕ) → (some n p ≡ true) ↔ ((a : ℕ) × Among n a × (p a ≡ true))
  some_iff n = (some_witness n, λ (a, w, h). some_of n a w h)

  pub every_at : (n : ℕ) → every n p ≡ true → (a : ℕ) → Among n a → p a ≡ true
  unfolding every
  every_at zero e = λ a w. absurd (omega arith)
  every_at (suc n) e = let (s, l) = (and-iff (every n p) (p (suc n))).0 e in among_more _ n (every_at n s) l

  every_of : (n : ℕ) → ((a : ℕ) → Among n a → p a ≡ true) → every n p ≡ true
  unfolding every
  every_of zero h = refl
  every_of (suc n) h = (and-iff (every n p) (p (suc n))).1 (every_of n (λ a w. h a (omega arith)), h (suc n) (omega arith))

  -- p holds of none of the things 1 to n
  abbrev pub None : ℕ → Type 0
  None n = (a : ℕ) → Among n a → p a ≡ false

  pub some_none : (n : ℕ) → (some n p ≡ false) ↔ None n
  some_none n = (
    λ e a w. untrue (p a) (λ h. both (some_of n a w h) e),
    λ none. untrue (some n p) (λ e. let (a, w, h) = some_witness n e in both h (none a w)),
  )

  -- what `first` answers: 0 where there is none, else the lowest
  abbrev Finds : ℕ → ℕ → Type 0
  Finds n zero = None n
  Finds n (suc a) = Lowest n p (suc a)

  first_finds : (n : ℕ) → Finds n (first n p)
  unfolding first
  first_finds zero = λ a w. absurd (omega arith)
  first_finds (suc n) = next (first n p) (first_finds n) (p (suc n)) refl
    where
      next : (a : ℕ) → Finds n a → (b : Bool) → p (suc n) ≡ b → Finds (suc n) (or_else a (cond b (suc n) 0))
      next zero none true e = record { inside = omega arith; holds = e; lower = λ b w l. none b (omega arith) }
      next zero none false e = among_more _ n none e
      next (suc a) low b e = lowest_more (omega arith) low

  -- and nothing else is such an answer
  finds_first : (n a : ℕ) → Finds n a → a ≡ first n p
  finds_first n a f = one a (first n p) f (first_finds n)
    where
      one : (a b : ℕ) → Finds n a → Finds n b → a ≡ b
      one zero zero f g = refl
      one zero (suc b) f g = absurd (both g.holds (f (suc b) g.inside))
      one (suc a) zero f g = absurd (both f.holds (g (suc a) f.inside))
      one (suc a) (suc b) f g = elim (dec_lt (suc a) (suc b)) [
        | yes l ↦ absurd (both f.holds (g.lower (suc a) f.inside l))
        | no l ↦ elim (dec_lt (suc b) (suc a)) [
          | yes m ↦ absurd (both g.holds (f.lower (suc b) g.inside m))
          | no m ↦ omega arith
        ]
      ]

  pub first_none : (n : ℕ) → (first n p ≡ 0) ↔ None n
  first_none n = (λ e. rw e at (first_finds n), λ none. sym (finds_first n 0 none))

  pub first_lowest : (n a : ℕ) → 1 ≤ a → (first n p ≡ a) ↔ Lowest n p a
  first_lowest n zero l = absurd (omega arith)
  first_lowest n (suc a) l = (λ e. rw e at (first_finds n), λ low. sym (finds_first n (suc a) low))

  -- in the words of a property: all things have N
  pub first_none_of : {N : ℕ → Type 0} (n : ℕ) → ((a : ℕ) → Among n a → (p a ≡ false) ↔ N a) → (first n p ≡ 0) ↔ ((a : ℕ) → Among n a → N a)
  first_none_of n has_not = (λ e a w. (has_not a w).0 ((first_none n).0 e a w), λ h. (first_none n).1 (λ a w. (has_not a w).1 (h a w)))

  -- or the lowest thing with P, where the others have N
  pub first_lowest_of : {P N : ℕ → Type 0} (n : ℕ) → ((a : ℕ) → Among n a → (p a ≡ true) ↔ P a) → ((a : ℕ) → Among n a → (p a ≡ false) ↔ N a)
      → (a : ℕ) → 1 ≤ a → (first n p ≡ a) ↔ LowestOf n P N a
  first_lowest_of n has has_not a l = (
    λ e. lowest_as (omega arith) (λ b w. (has b w).0) (λ b w. (has_not b w).0) ((first_lowest n a l).0 e),
    λ low. (first_lowest n a l).1 (lowest_as (omega arith) (λ b w. (has b w).1) (λ b w. (has_not b w).1) low),
  )

  pub first_within : (n : ℕ) → first n p ≤ n
  first_within n = go (first n p) (first_finds n)
    where
      go : (a : ℕ) → Finds n a → a ≤ n
      go zero f = omega arith
      go (suc a) f = f.inside.1

  -- one turn of a loop whose i things so far were searched in vain, and whose turn looks at i + 1
  pub some_found : (n i : ℕ) → i < n → p (i + 1) ≡ true → true ≡ some n p
  some_found n i l h = sym (some_of n (i + 1) (omega arith) h)

  pub some_yet : some 0 p ≡ false
  unfolding some
  some_yet = refl

  pub some_more : (i : ℕ) → some (i + 1) p ≡ (some i p || p (i + 1))
  unfolding some
  some_more i = rw add-one

  -- one thing more is looked at in vain
  pub some_still : (i : ℕ) → some i p ≡ false → p (i + 1) ≡ false → some (i + 1) p ≡ false
  some_still i e h = some_more i ∙ rw (e, h)

  -- all n things have been looked at in vain
  pub some_vain : {i n : ℕ} → i ≡ n → some i p ≡ false → false ≡ some n p
  some_vain all e = sym (rw all at e)

  -- what is found among the first m things is found among all of them
  pub first_sooner : (m n : ℕ) → m ≤ n → (first m p ≡ 0 → ⊥) → first m p ≡ first n p
  first_sooner m n l = go (first m p) (first_finds m)
    where
      go : (a : ℕ) → Finds m a → (a ≡ 0 → ⊥) → a ≡ first n p
      go zero none some = absurd (some refl)
      go (suc a) low some = finds_first n (suc a) (lowest_more l low)

  pub first_yet : first 0 p ≡ 0
  unfolding first
  first_yet = refl

  pub first_found : (n i : ℕ) → i < n → first i p ≡ 0 → p (i + 1) ≡ true → i + 1 ≡ first n p
  first_found n i l e h =
      finds_first n (i + 1)
      (rw add-one (record { inside = omega arith; holds = rw add-one at h; lower = λ b w m. (first_none i).0 e b (omega arith) }))

  pub first_more : (i : ℕ) → first i p ≡ 0 → p (i + 1) ≡ false → first (i + 1) p ≡ 0
  unfolding first
  first_more i e h = rw (add-one, e, rw add-one at h)

  pub first_vain : {i n : ℕ} → i ≡ n → first i p ≡ 0 → 0 ≡ first n p
  first_vain all e = sym (rw all at e)

-- a search sees only what p says of the things 1 to n
module _ (p q : ℕ → Bool) where
  pub some_agree : (n : ℕ) → ((a : ℕ) → Among n a → p a ≡ q a) → some n p ≡ some n q
  unfolding some
  some_agree zero h = refl
  some_agree (suc n) h = rw (some_agree n (λ a w. h a (omega arith)), h (suc n) (omega arith))

  pub every_agree : (n : ℕ) → ((a : ℕ) → Among n a → p a ≡ q a) → every n p ≡ every n q
  unfolding every
  every_agree zero h = refl
  every_agree (suc n) h = rw (every_agree n (λ a w. h a (omega arith)), h (suc n) (omega arith))

  pub first_agree : (n : ℕ) → ((a : ℕ) → Among n a → p a ≡ q a) → first n p ≡ first n q
  unfolding first
  first_agree zero h = refl
  first_agree (suc n) h = rw (first_agree n (λ a w. h a (omega arith)), h (suc n) (omega arith))

-- every thing of a set has p
pub every_in : (n : ℕ) (s p : ℕ → Bool) → (every n (λ x. implies (s x) (p x)) ≡ true) ↔ ((x : ℕ) → Among n x → s x ≡ true → p x ≡ true)
every_in n s p = (
  λ h x w. (implies_iff (s x) (p x)).0 (every_at (λ x. implies (s x) (p x)) n h x w),
  λ h. every_of (λ x. implies (s x) (p x)) n (λ x w. (implies_iff (s x) (p x)).1 (h x w)),
)

-- a search among n that can find nothing past m is one among m
module _ (m n : ℕ) (l : m ≤ n) where
  pub first_cut : (p q : ℕ → Bool) → ((a : ℕ) → Among n a → q a ≡ (leb a m && p a)) → first n q ≡ first m p
  first_cut p q h = sym (finds_first q n (first m p) (go (first m p) (first_finds p m)))
    where
      low : (a : ℕ) → Among m a → q a ≡ p a
      low a w = h a (omega arith) ∙ rw (le-leb a m w.1)

      high : (a : ℕ) → Among n a → m < a → q a ≡ false
      high a w k = h a w ∙ rw (lt-leb a m k)

      go : (a : ℕ) → Finds p m a → Finds q n a
      go zero none = λ a w. elim (dec_lt m a) [ yes k ↦ high a w k | no k ↦ let v : Among m a = omega arith in low a v ∙ none a v ]
      go (suc a) f = lowest_as l (λ b u e. low b u ∙ e) (λ b u e. low b u ∙ e) f

  pub some_cut : (p q : ℕ → Bool) → ((a : ℕ) → Among n a → q a ≡ (leb a m && p a)) → some n q ≡ some m p
  some_cut p q h =
      same (some n q) (some m p)
      (λ e.
      let (a, w, x) = (some_iff q n).0 e in
      let (i, y) = (and-iff (leb a m) (p a)).0 (sym (h a w) ∙ x) in
      let b = leb-true a m i in
      (some_iff p m).1 (a, omega arith, y))
      (λ e.
      let (a, w, x) = (some_iff p m).0 e in
      (some_iff q n).1 (a, omega arith, h a (omega arith) ∙ (and-iff (leb a m) (p a)).1 (le-leb a m w.1, x)))

  pub every_cut : (s t p : ℕ → Bool) → ((a : ℕ) → Among n a → t a ≡ (leb a m && s a))
      → every n (λ a. implies (t a) (p a)) ≡ every m (λ a. implies (s a) (p a))
  every_cut s t p h =
      same (every n (λ a. implies (t a) (p a))) (every m (λ a. implies (s a) (p a)))
      (λ e. (every_in m s p).1 (λ a w k.
      (every_in n t p).0 e a (omega arith) (h a (omega arith) ∙ (and-iff (leb a m) (s a)).1 (le-leb a m w.1, k))))
      (λ e. (every_in n t p).1 (λ a w k.
      let (i, j) = (and-iff (leb a m) (s a)).0 (sym (h a w) ∙ k) in
      let b = leb-true a m i in
      (every_in m s p).0 e a (omega arith) j))

-- a search among m + n things that finds nothing among the first m is one among the others
module _ (p : ℕ → Bool) (m n : ℕ) (vain : first m p ≡ 0) where
  abbrev others : ℕ → Bool
  others a = p (m + a)

  past : (a : ℕ) → Among (m + n) a → (Among n (a - m) → others (a - m) ≡ false) → p a ≡ false
  past a w h = elim (dec_lt m a) [
    | yes k ↦ let i : m + (a - m) ≡ a = omega arith in rw i at (h (omega arith))
    | no k ↦ (first_none p m).0 vain a (omega arith)
  ]

  pub first_never : first n others ≡ 0 → first (m + n) p ≡ 0
  first_never e = (first_none p (m + n)).1 (λ a w. past a w ((first_none others n).0 e (a - m)))

  pub first_later : (a : ℕ) → 1 ≤ a → first n others ≡ a → first (m + n) p ≡ m + a
  first_later a l e =
      let low = (first_lowest others n a l).0 e in
      let w = low.inside in
      (first_lowest p (m + n) (m + a) (omega arith)).1 (record {
        inside = omega arith;
        holds = low.holds;
        lower = λ b v k. past b v (λ u. low.lower (b - m) u (omega arith));
      })

-- one of the things has both
pub some_both : (p q : ℕ → Bool) (n : ℕ) → (some n (λ a. p a && q a) ≡ true) ↔ ((a : ℕ) × Among n a × (p a ≡ true) × (q a ≡ true))
some_both p q n = (
  λ h. let (a, w, e) = (some_iff (λ a. p a && q a) n).0 h in let (x, y) = (and-iff (p a) (q a)).0 e in (a, w, x, y),
  λ (a, w, x, y). (some_iff (λ a. p a && q a) n).1 (a, w, (and-iff (p a) (q a)).1 (x, y)),
)

-- a number that is 0 just where a search is in vain tells by a test what the search finds
pub some_unless : {x n : ℕ} {p : ℕ → Bool} → (x ≡ 0) ↔ None p n → not (eqb x 0) ≡ some n p
some_unless {x} {n} {p} none =
    ap not
    (same (eqb x 0) (not (some n p))
    (λ e. ap not ((some_none p n).1 (none.0 (eqb-true x 0 e))))
    (λ e. eq-eqb x 0 (none.1 ((some_none p n).0 (not-true (some n p) e)))))
    ∙ not-not (some n p)

-- one thing more in a set whose things all have q
pub every_with : (n : ℕ) (s t q : ℕ → Bool) (a : ℕ) → Among n a → ((x : ℕ) → Among n x → t x ≡ (s x || eqb x a))
    → every n (λ x. implies (t x) (q x)) ≡ (every n (λ x. implies (s x) (q x)) && q a)
every_with n s t q a w more =
    let before = every_in n s q in
    let after = every_in n t q in
    same (every n (λ x. implies (t x) (q x))) (every n (λ x. implies (s x) (q x)) && q a)
    (λ e. (and-iff (every n (λ x. implies (s x) (q x))) (q a)).1 (
      before.1 (λ x v h. after.0 e x v (more x v ∙ (or_iff (s x) (eqb x a)).1 (inl h))),
      after.0 e a w (more a w ∙ (or_iff (s a) (eqb a a)).1 (inr (eq-eqb a a refl))),
    ))
    (λ e.
    let (all, last) = (and-iff (every n (λ x. implies (s x) (q x))) (q a)).0 e in
    after.1 (λ x v h. ⊎_elim (before.0 all x v) (λ i. rw (eqb-true x a i) last) ((or_iff (s x) (eqb x a)).0 (sym (more x v) ∙ h))))

-- Bounds in an order of n things: the search finds the least upper bound just where there is one, there is only one, and the first pair without one
-- is the first by its lower and then by its higher thing. Assumes nothing.
use Rattle.std.proofs.Common.{ℕ, zero, suc, ◌+◌, ◌≤◌, ◌<◌, ◌≡◌, refl, sym, ap, ◌∙◌, ◌↔◌, ◌⊎◌, inl, inr, Bool, true, false, ◌&&◌, leb, ltb, Option, Some, None, option_map, arith}
use mathlib.Core.Logic.Iff
use mathlib.Core.Logic.{⊎_elim}
use mathlib.Core.Bool.{and_assoc}
use native.Mathlib.Decide.{dec_lt}
use borrow.Author.Tests.{ltb-true, lt-ltb, ltb-false, le-ltb}
use Rattle.search.specs.Search.{every, first, implies, thing, Among, Lowest}
use Rattle.search.proofs.Truth.{eqb_iff, ltb_iff, and-iff, and_both, or_both, untrue, both, other_iff, same}
use Rattle.search.proofs.Found.{every_agree, every_in, every_cut, first_more, first_none_of, first_lowest, first_within, first_agree, first_cut}
use Rattle.search.proofs.Thing.{thing_none, thing_some, thing_found}
use Rattle.order.specs.declared.bounds.Pair.{Pair}
use Rattle.order.specs.Closure.{Relation, Agree, PartialOrder}
use Rattle.order.specs.Bound.{upper, is_least, least_of, lub, converse, pair, pair_without_bound, partner_without_bound, some_without_bound, lowest_without_bound, Upper, Lower, IsLub, Joined, AllJoined, FirstPair, FirstWithoutBound, with_partner, first_without_bound}

module _ (n : ℕ) (ge : Relation) (s : ℕ → Bool) where
  pub upper_iff : (c : ℕ) → (upper n ge s c ≡ true) ↔ Upper n ge s c
  unfolding upper
  upper_iff c = every_in n s (ge c)

module _ (n : ℕ) (ge : Relation) (s : ℕ → Bool) where
  is_least_iff : (c : ℕ) → (is_least n ge s c ≡ true) ↔ ((s c ≡ true) × Lower n ge s c)
  unfolding is_least
  is_least_iff c = and_both Iff.rfl (upper_iff n (converse ge) s c)

module _ (n : ℕ) (ge : Relation) (s : ℕ → Bool) where
  is_lub_iff : (c : ℕ) → Among n c → (is_least n ge (upper n ge s) c ≡ true) ↔ IsLub n ge s c
  is_lub_iff c w = (
    λ h.
        let (p, q) = (is_least_iff n ge (upper n ge s) c).0 h in
        record { inside = w; over = (upper_iff n ge s c).0 p; least = λ d v u. q d v ((upper_iff n ge s d).1 u) },
    λ b. (is_least_iff n ge (upper n ge s) c).1 ((upper_iff n ge s c).1 b.over, λ d v u. b.least d v ((upper_iff n ge s d).0 u)),
  )

  -- 0 is answered just where there is none
  pub lub_none : (lub n ge s ≡ 0) ↔ ((c : ℕ) → IsLub n ge s c → ⊥)
  unfolding lub least_of
  lub_none =
      Iff.trans (first_none_of (is_least n ge (upper n ge s)) n (λ c w. other_iff false (is_lub_iff c w)))
      (λ none c b. none c b.inside b, λ none c w. none c)

  -- and else one
  pub lub_is : (c : ℕ) → 1 ≤ c → lub n ge s ≡ c → IsLub n ge s c
  unfolding lub least_of
  lub_is c l q = let low = (first_lowest (is_least n ge (upper n ge s)) n c l).0 q in (is_lub_iff c low.inside).0 low.holds

  lub_exists : (lub n ge s ≡ 0 → ⊥) ↔ ((c : ℕ) × IsLub n ge s c)
  lub_exists = (λ z. go (lub n ge s) refl z, λ (c, b) z. lub_none.0 z c b)
    where
      go : (c : ℕ) → lub n ge s ≡ c → (lub n ge s ≡ 0 → ⊥) → (c : ℕ) × IsLub n ge s c
      go zero q z = absurd (z q)
      go (suc c) q z = (suc c, lub_is (suc c) (omega arith) q)

  module _ (o : PartialOrder n ge) where
    -- there is only one
    pub lub_unique : (c d : ℕ) → IsLub n ge s c → IsLub n ge s d → c ≡ d
    lub_unique c d b k =
        o.antisymmetric c d b.inside k.inside (k.least c b.inside b.over) (b.least d k.inside k.over)

    -- the search finds it just where it exists
    pub lub_iff : (c : ℕ) → 1 ≤ c → (lub n ge s ≡ c) ↔ IsLub n ge s c
    lub_iff c l = (lub_is c l, λ b. go (lub n ge s) refl b)
      where
        go : (d : ℕ) → lub n ge s ≡ d → IsLub n ge s c → d ≡ c
        go zero q b = absurd (lub_none.0 q c b)
        go (suc d) q b = lub_unique (suc d) c (lub_is (suc d) (omega arith) q) b

-- ---- the first pair without a least upper bound

pub pair_iff : (a b x : ℕ) → (pair a b x ≡ true) ↔ ((x ≡ a) ⊎ (x ≡ b))
pair_iff a b x = or_both (eqb_iff x a) (eqb_iff x b)

module _ (n : ℕ) (ge : Relation) where
  -- the upper bounds of a pair
  pub upper_pair : (a b c : ℕ) → Among n a → Among n b → upper n ge (pair a b) c ≡ (ge c a && ge c b)
  upper_pair a b c v w =
      same (upper n ge (pair a b) c) (ge c a && ge c b)
      (λ h.
      let u = (upper_iff n ge (pair a b) c).0 h in
      (and-iff (ge c a) (ge c b)).1 (u a v ((pair_iff a b a).1 (inl refl)), u b w ((pair_iff a b b).1 (inr refl))))
      (λ h.
      let (p, q) = (and-iff (ge c a) (ge c b)).0 h in
      (upper_iff n ge (pair a b) c).1 (λ x u k. ⊎_elim (λ i. rw i p) (λ i. rw i q) ((pair_iff a b x).0 k)))

  without_bound_iff : (a b : ℕ) → (pair_without_bound n ge a b ≡ true) ↔ ((a < b) × (lub n ge (pair a b) ≡ 0))
  unfolding pair_without_bound
  without_bound_iff a b = and_both (ltb_iff a b) (eqb_iff (lub n ge (pair a b)) 0)

  -- what `pair_without_bound` tells of two in rising order
  together : (a b : ℕ) → a < b → pair_without_bound n ge a b ≡ false → Joined n ge a b
  together a b l q = (lub_exists n ge (pair a b)).0 (λ z. both ((without_bound_iff a b).1 (l, z)) q)

  separate : (a b : ℕ) → pair_without_bound n ge a b ≡ true → Joined n ge a b → ⊥
  separate a b h j = (lub_exists n ge (pair a b)).1 j ((without_bound_iff a b).0 h).1

  some_without_bound_none : (a : ℕ) → (some_without_bound n ge a ≡ false) ↔ ((b : ℕ) → Among n b → a < b → Joined n ge a b)
  unfolding partner_without_bound
  some_without_bound_none a =
      let partner = first n (pair_without_bound n ge a) in
      let none : (ltb 0 partner ≡ false) ↔ (partner ≡ 0) = (λ e. omega (arith, ltb-false 0 partner e), λ z. le-ltb 0 partner (omega arith)) in
      Iff.trans none (first_none_of (pair_without_bound n ge a) n (λ b w. (
        λ q l. together a b l q,
        λ h. untrue (pair_without_bound n ge a b) (λ p. separate a b p (h ((without_bound_iff a b).0 p).0)),
      )))

  -- a pair the other way round, and a thing with itself
  joined_swap : (a b : ℕ) → Joined n ge b a → Joined n ge a b
  joined_swap a b (c, h) = (
    c,
    record {
      inside = h.inside;
      over = λ x w p. h.over x w (swap a b x p);
      least = λ d w u. h.least d w (λ x v p. u x v (swap b a x p));
    },
  )
    where
      swap : (a b x : ℕ) → pair a b x ≡ true → pair b a x ≡ true
      swap a b x p = (pair_iff b a x).1 (⊎_elim inr inl ((pair_iff a b x).0 p))

  joined_self : PartialOrder n ge → (a : ℕ) → Among n a → Joined n ge a a
  joined_self o a w = (
    a,
    record {
      inside = w;
      over = λ x v p. ⊎_elim (λ i. rw i (o.reflexive a w)) (λ i. rw i (o.reflexive a w)) ((pair_iff a a x).0 p);
      least = λ d v u. u a w ((pair_iff a a a).1 (inl refl));
    },
  )

  pub lowest_without_none : PartialOrder n ge → (lowest_without_bound n ge ≡ 0) ↔ AllJoined n ge
  unfolding lowest_without_bound
  lowest_without_none o = Iff.trans (first_none_of (some_without_bound n ge) n (λ a v. some_without_bound_none a)) (
    λ rising a b v w. elim (dec_lt a b) [
      | yes l ↦ rising a v b w l
      | no l ↦ elim (dec_lt b a) [
        | yes m ↦ joined_swap a b (rising b w a v m)
        | no m ↦ let i : a ≡ b = omega arith in rw (← i) (joined_self o a v)
      ]
    ],
    λ h a v b w l. h a b v w,
  )

  pub lowest_without_first : (a : ℕ) → 1 ≤ a → lowest_without_bound n ge ≡ a → FirstPair n ge a (partner_without_bound n ge a)
  unfolding lowest_without_bound partner_without_bound
  lowest_without_first a l q = go ((first_lowest (some_without_bound n ge) n a l).0 q)
    where
      pairs : Lowest n (some_without_bound n ge) a → Lowest n (pair_without_bound n ge a) (partner_without_bound n ge a) → FirstPair n ge a (partner_without_bound n ge a)
      pairs low h = record {
        lower = low.inside;
        higher = h.inside;
        rising = ((without_bound_iff a (partner_without_bound n ge a)).0 h.holds).0;
        without_bound = separate a (partner_without_bound n ge a) h.holds;
        earlier = λ x y v w k m. (some_without_bound_none x).0 (low.lower x v m) y w k;
        sooner = λ y w k m. together a y k (h.lower y w m);
      }

      go : Lowest n (some_without_bound n ge) a → FirstPair n ge a (partner_without_bound n ge a)
      go low = pairs low ((first_lowest (pair_without_bound n ge a) n (partner_without_bound n ge a) (ltb-true 0 (partner_without_bound n ge a) low.holds)).0 refl)

-- ---- an order sees only its things

-- among more things, a set cut to the first m has the same least
pub least_cut : (m n : ℕ) (ge : Relation) (s t : ℕ → Bool) → m ≤ n → ((a : ℕ) → Among n a → t a ≡ (leb a m && s a)) → least_of n ge t ≡ least_of m ge s
unfolding least_of is_least upper
least_cut m n ge s t l h =
    first_cut m n l (is_least m ge s) (is_least n ge t) (λ c w.
    rw (every_cut m n l s t (λ x. ge x c) h, h c w) (and_assoc (leb c m) (s c) (every m (λ x. implies (s x) (ge x c)))))

module _ (n : ℕ) (f g : Relation) (h : Agree n n f g) where
  -- one order, and one set, by two names
  pub lub_agree : (s t : ℕ → Bool) → ((x : ℕ) → Among n x → s x ≡ t x) → lub n f s ≡ lub n g t
  unfolding lub least_of is_least upper
  lub_agree s t e =
      first_agree (is_least n f (upper n f s)) (is_least n g (upper n g t)) n (λ c w.
      rw (
        bounds c w,
        every_agree (λ x. implies (upper n f s x) (f x c)) (λ x. implies (upper n g t x) (g x c)) n (λ x v. rw (bounds x v, h x c v w)),
      ))
    where
      bounds : (c : ℕ) → Among n c → every n (λ x. implies (s x) (f c x)) ≡ every n (λ x. implies (t x) (g c x))
      bounds c w = every_agree (λ x. implies (s x) (f c x)) (λ x. implies (t x) (g c x)) n (λ x v. rw (e x v, h c x w v))

  partner_without_bound_agree : (a : ℕ) → partner_without_bound n f a ≡ partner_without_bound n g a
  unfolding partner_without_bound pair_without_bound
  partner_without_bound_agree a = first_agree (pair_without_bound n f a) (pair_without_bound n g a) n (λ b w. rw (lub_agree (pair a b) (pair a b) (λ x v. refl)))

  lowest_without_agree : lowest_without_bound n f ≡ lowest_without_bound n g
  unfolding lowest_without_bound
  lowest_without_agree = first_agree (some_without_bound n f) (some_without_bound n g) n (λ a w. rw (partner_without_bound_agree a))

  pub first_without_agree : (a b : ℕ) → FirstWithoutBound n f a b → FirstWithoutBound n g a b
  first_without_agree a b h = record { lower = h.lower ∙ lowest_without_agree; higher = rw (← (partner_without_bound_agree a)) h.higher }

  pub first_pair_agree : first_without_bound n f ≡ first_without_bound n g
  first_pair_agree =
      ap (λ (a : ℕ). option_map (with_partner n f) (thing a)) lowest_without_agree ∙ told (thing (lowest_without_bound n g))
    where
      told : (o : Option ℕ) → option_map (with_partner n f) o ≡ option_map (with_partner n g) o
      told None = refl
      told (Some a) = rw (partner_without_bound_agree a)

pub lub_within : (n : ℕ) (ge : Relation) (s : ℕ → Bool) → lub n ge s ≤ n
unfolding lub least_of
lub_within n ge s = first_within (is_least n ge (upper n ge s)) n

-- what a search answers that tries the things in turn
module _ (n : ℕ) (ge : Relation) where
  abbrev pub NoneWithout : ℕ → Type 0
  NoneWithout i = first i (some_without_bound n ge) ≡ 0

  pub none_without_more : (i : ℕ) → NoneWithout i → None ≡ thing (partner_without_bound n ge (i + 1)) → NoneWithout (i + 1)
  none_without_more i none e =
      first_more (some_without_bound n ge) i none (le-ltb 0 (partner_without_bound n ge (i + 1)) (omega (arith, (thing_none (partner_without_bound n ge (i + 1))).0 e)))

  pub without_found : (i h : ℕ) → i < n → NoneWithout i → Some h ≡ thing (partner_without_bound n ge (i + 1))
      → (let p : Pair = record { lower = i + 1; higher = h } in Some p) ≡ first_without_bound n ge
  unfolding lowest_without_bound
  without_found i h l none e =
      let (q, k) = (thing_some (partner_without_bound n ge (i + 1)) h).0 e in
      let found = thing_found (some_without_bound n ge) n i l none (lt-ltb 0 (partner_without_bound n ge (i + 1)) (omega arith)) in
      rw (← found, q)

  pub none_without : NoneWithout n → None ≡ first_without_bound n ge
  unfolding lowest_without_bound
  none_without none = rw none

  -- what the answer tells in numbers
  pub first_without_none : None ≡ first_without_bound n ge → FirstWithoutBound n ge 0 0
  first_without_none = told (lowest_without_bound n ge) refl
    where
      told : (a : ℕ) → lowest_without_bound n ge ≡ a → None ≡ option_map (with_partner n ge) (thing a) → FirstWithoutBound n ge 0 0
      told zero q e = record { lower = sym q; higher = refl }
      told (suc a) q e = absurd cc

  pub first_without_some : (p : Pair) → Some p ≡ first_without_bound n ge → FirstWithoutBound n ge p.lower p.higher × (1 ≤ p.lower)
  first_without_some p = told (lowest_without_bound n ge) refl
    where
      told : (a : ℕ) → lowest_without_bound n ge ≡ a → Some p ≡ option_map (with_partner n ge) (thing a)
          → FirstWithoutBound n ge p.lower p.higher × (1 ≤ p.lower)
      told zero q e = absurd cc
      told (suc a) q e =
          let same : p ≡ with_partner n ge (suc a) = cc in
          rw same (record { lower = sym q; higher = rw (lt-ltb 0 (suc a) (omega arith)) }, omega arith)

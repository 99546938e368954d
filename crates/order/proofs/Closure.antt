-- The closure of a relation among n things, once for every n: what is computed is what steps reach, a thing is on a circle just where it is
-- reached from itself, and no circle is a partial order. Assumes nothing.
use Prim.Native.Nat.{ℕ, zero, suc, ◌≤◌}
use mathlib.Core.Path.{◌≡◌, refl, sym, ap}
use mathlib.Core.Logic.Iff
use mathlib.Core.Logic.{◌↔◌, ◌⊎◌, inl, inr, ⊎_elim}
use mathlib.Core.Bool.{true, false, ◌||◌, and_comm}
use native.Mathlib.Omega.{arith}
use Rattle.search.specs.Search.{Among}
use Rattle.search.proofs.Truth.{eqb_iff, and-iff, or_both, untrue, both, other_iff}
use Rattle.search.proofs.Found.{None, last_or, first_none, first_agree}
use Rattle.order.specs.Table.{Rows}
use Rattle.order.specs.Bound.{converse}
use Rattle.order.specs.Closure.{Relation, Agree, via, path, closure, to_itself, loop, circle, Reach, here, step, HasPath, OnCircle, PartialOrder, Irreflexive}

-- a path past one thing more: one that was there, or two that meet in it
pub ways : (e : Relation) (k a b : ℕ)
    → (via e (suc k) a b ≡ true) ↔ ((via e k a b ≡ true) ⊎ ((via e k a (suc k) ≡ true) × (via e k (suc k) b ≡ true)))
unfolding via
ways e k a b = or_both Iff.rfl (and-iff (via e k a (suc k)) (via e k (suc k) b))

module _ (e : Relation) where
  single : (k a b : ℕ) → e a b ≡ true → via e k a b ≡ true
  unfolding via
  single zero a b p = p
  single (suc k) a b p = (ways e k a b).1 (inl (single k a b p))

  -- a path that ends or begins at the thing that may be passed next was there before
  to_last : (k a : ℕ) → via e (suc k) a (suc k) ≡ true → via e k a (suc k) ≡ true
  to_last k a h = ⊎_elim (λ p. p) (λ q. q.0) ((ways e k a (suc k)).0 h)

  from_last : (k b : ℕ) → via e (suc k) (suc k) b ≡ true → via e k (suc k) b ≡ true
  from_last k b h = ⊎_elim (λ p. p) (λ q. q.1) ((ways e k (suc k) b).0 h)

  -- paths to m and from m are a path, for m among 1 to k
  meeting : (k a m b : ℕ) → Among k m → via e k a m ≡ true → via e k m b ≡ true → via e k a b ≡ true
  meeting zero a m b w p q = absurd (omega arith)
  meeting (suc k) a m b w p q =
      (ways e k a b).1 (⊎_elim
      (λ i. inr (to_last k a (rw i at p), from_last k b (rw i at q)))
      (λ v. ⊎_elim
      (λ am. ⊎_elim
      (λ mb. inl (meeting k a m b v am mb))
      (λ mb. inr (meeting k a m (suc k) v am mb.0, mb.1))
      ((ways e k m b).0 q))
      (λ am. ⊎_elim
      (λ mb. inr (am.0, meeting k (suc k) m b v am.1 mb))
      (λ mb. inr (am.0, mb.1))
      ((ways e k m b).0 q))
      ((ways e k a m).0 p))
      (last_or k m w))

  module _ (n : ℕ) where
    onward : {a b c : ℕ} → Reach n e a b → Reach n e b c → Reach n e a c
    onward here s = s
    onward (step p w r) s = step p w (onward r s)

    sound : (k a b : ℕ) → k ≤ n → Among n b → via e k a b ≡ true → HasPath n e a b
    unfolding via
    sound zero a b l w p = (b, w, p, here)
    sound (suc k) a b l w p =
        ⊎_elim
        (λ q. sound k a b (omega arith) w q)
        (λ q.
        let (m, v, s, r) = sound k a (suc k) (omega arith) (omega arith) q.0 in
        let (m₂, v₂, s₂, r₂) = sound k (suc k) b (omega arith) w q.1 in
        (m, v, s, onward r (step s₂ v₂ r₂)))
        ((ways e k a b).0 p)

    complete : {a b c : ℕ} → e a b ≡ true → Among n b → Reach n e b c → path n e a c ≡ true
    complete {a} {b} p w here = single n a b p
    complete {a} {b} {c} p w (step q v r) = meeting n a b c w (single n a b p) (complete q v r)

    pub path_iff : (a c : ℕ) → Among n c → (path n e a c ≡ true) ↔ HasPath n e a c
    path_iff a c w = (sound n a c (omega arith) w, λ (b, v, p, r). complete p v r)

    pub same_or_path : (a b : ℕ) → (closure n e a b ≡ true) ↔ ((a ≡ b) ⊎ (path n e a b ≡ true))
    same_or_path a b = or_both (eqb_iff a b) Iff.rfl

    -- the closure is what steps reach
    pub closure_iff : (a b : ℕ) → Among n b → (closure n e a b ≡ true) ↔ Reach n e a b
    closure_iff a b w = (
      λ h. ⊎_elim (λ q. rw q here) (λ q. let (m, v, p, r) = (path_iff a b w).0 q in step p v r) ((same_or_path a b).0 h),
      of,
    )
      where
        of : {a b : ℕ} → Reach n e a b → closure n e a b ≡ true
        of (here {a}) = (same_or_path a a).1 (inl refl)
        of (step {a} {b} {c} p v r) = (same_or_path a c).1 (inr (complete p v r))

    pub circle_misses : (a : ℕ) → Among n a → (path n e a a ≡ false) ↔ (OnCircle n e a → ⊥)
    circle_misses a w = other_iff false (path_iff a a w)

    closure_reflexive : (a : ℕ) → Among n a → closure n e a a ≡ true
    closure_reflexive a w = (closure_iff a a w).1 here

    closure_transitive : (a b c : ℕ) → Among n b → Among n c → closure n e a b ≡ true → closure n e b c ≡ true → closure n e a c ≡ true
    closure_transitive a b c v w p q = (closure_iff a c w).1 (onward ((closure_iff a b v).0 p) ((closure_iff b c w).0 q))

    closure_step : (a b : ℕ) → Among n b → e a b ≡ true → closure n e a b ≡ true
    closure_step a b w p = (closure_iff a b w).1 (step p w here)

    -- a partial order is a closure without a circle
    pub circle_none : (circle n e ≡ 0) ↔ (PartialOrder n (closure n e) × Irreflexive n e)
    circle_none = (λ q. to ((first_none (to_itself (path n e)) n).0 q), λ (o, i). (first_none (to_itself (path n e)) n).1 (of o i))
      where
        to : None (to_itself (path n e)) n → PartialOrder n (closure n e) × Irreflexive n e
        to none = (
          record {
            reflexive = closure_reflexive;
            transitive = λ a b c u v w p q. closure_transitive a b c v w p q;
            antisymmetric = λ a b v w p q. ⊎_elim
                (λ i. i)
                (λ r. ⊎_elim (λ i. sym i) (λ s. absurd (both (meeting n a b a w r s) (none a v))) ((same_or_path b a).0 q))
                ((same_or_path a b).0 p);
          },
          λ a w. untrue (e a a) (λ p. both (single n a a p) (none a w)),
        )

        of : PartialOrder n (closure n e) → Irreflexive n e → None (to_itself (path n e)) n
        of o i a w =
            untrue (path n e a a) (λ p.
            let (b, v, s, r) = (path_iff a a w).0 p in
            let q : a ≡ b = o.antisymmetric a b w v (closure_step a b v s) ((closure_iff b a w).1 r) in
            both (rw (← q) at s) (i a w))

-- a path in the relation turned round is one the other way
pub via_converse : (e : Relation) (k a b : ℕ) → via (converse e) k a b ≡ via e k b a
unfolding via
via_converse e zero a b = refl
via_converse e (suc k) a b =
    rw (via_converse e k a b, via_converse e k a (suc k), via_converse e k (suc k) b)
    (ap (λ t. via e k b a || t) (and_comm (via e k (suc k) a) (via e k b (suc k))))

pub circle_converse : (e : Relation) (n : ℕ) → circle n (converse e) ≡ circle n e
circle_converse e n = first_agree (to_itself (path n (converse e))) (to_itself (path n e)) n (λ a w. via_converse e n a a)

module _ (n m : ℕ) (d e : Relation) (l : n ≤ m) (h : Agree n m d e) where
  pub via_agree : (k : ℕ) → k ≤ n → Agree n m (via d k) (via e k)
  unfolding via
  via_agree zero k a b v w = h a b v w
  via_agree (suc k) l₂ a b v w =
      let i = via_agree k (omega arith) in
      rw (i a b v w, i a (suc k) v (omega arith), i (suc k) b (omega arith) w)

  pub circle_agree : circle n d ≡ circle n e
  circle_agree = first_agree (to_itself (path n d)) (to_itself (path n e)) n (λ a w. via_agree n (omega arith) a a w (omega arith))

-- the lowest thing on a circle, by a table g of the paths
pub loop_circle : (e : Relation) {size n : ℕ} {f g : Relation} → n ≤ size → Rows size n (path n e) f g → loop n g ≡ circle n e
loop_circle e {n = n} {g = g} l rows = first_agree (to_itself g) (to_itself (path n e)) n (λ a w. rows.done a a w (omega arith))

-- Where every two things have a least upper bound, so has every set that is not empty, and a set has a greatest lower bound just where it has a
-- lower bound. Assumes nothing.
use Prim.Native.Nat.{ℕ, zero, suc, ◌≤◌, ◌<◌}
use mathlib.Core.Path.{◌≡◌, refl}
use mathlib.Core.Logic.{◌↔◌, ◌⊎◌, inl, inr, ⊎_elim}
use mathlib.Core.Bool.{Bool, true, false}
use native.Mathlib.Omega.{arith}
use Rattle.search.specs.Search.{Among}
use Rattle.search.proofs.Truth.{both}
use Rattle.search.proofs.Found.{None, among_more, not_last}
use Rattle.order.specs.Closure.{Relation, PartialOrder}
use Rattle.order.specs.Bound.{upper, converse, Upper, Lower, IsLub, IsGlb, AllJoined}
use Rattle.order.proofs.Bound.{pair_iff, upper_iff}

module _ (n : ℕ) (ge : Relation) (o : PartialOrder n ge) (joins : AllJoined n ge) where
  module _ (s : ℕ → Bool) where
    -- c is over what s has of the things 1 to k, and under whatever else is
    record LubTo (k c : ℕ) : Type 0 where
      inside : Among n c
      over : Upper k ge s c
      least : (d : ℕ) → Among n d → Upper k ge s d → ge d c ≡ true

    abbrev SoFar : ℕ → Type 0
    SoFar k = None s k ⊎ ((c : ℕ) × LubTo k c)

    -- one thing more: it is not in s, it is the first of s, or it is joined with the bound of those before
    further : (k : ℕ) → k < n → (t : Bool) → s (suc k) ≡ t → SoFar k → SoFar (suc k)
    further k l false e (inl none) = inl (among_more _ k none e)
    further k l false e (inr (c, h)) = inr (
      c,
      record {
        inside = h.inside;
        over = λ x w p. h.over x (not_last s k x e p w) p;
        least = λ d w u. h.least d w (λ x v p. u x (omega arith) p);
      },
    )
    further k l true e (inl none) = inr (
      suc k,
      record {
        inside = omega arith;
        over = among_more _ k (λ x v p. absurd (both p (none x v))) (λ p. o.reflexive (suc k) (omega arith));
        least = λ d w u. u (suc k) (omega arith) e;
      },
    )
    further k l true e (inr (c, h)) =
        let (d, j) = joins c (suc k) h.inside (omega arith) in
        let dc = j.over c h.inside ((pair_iff c (suc k) c).1 (inl refl)) in
        let dk = j.over (suc k) (omega arith) ((pair_iff c (suc k) (suc k)).1 (inr refl)) in
        inr (
          d,
          record {
            inside = j.inside;
            over = among_more _ k (λ x v p. o.transitive d c x j.inside h.inside (omega arith) dc (h.over x v p)) (λ p. dk);
            least = λ b w u. j.least b w (λ x v p. ⊎_elim
                (λ i. rw i (h.least b w (λ y z q. u y (omega arith) q)))
                (λ i. rw i (u (suc k) (omega arith) e))
                ((pair_iff c (suc k) x).0 p));
          },
        )

    so_far : (k : ℕ) → k ≤ n → SoFar k
    so_far zero l = inl (λ x w. absurd (omega arith))
    so_far (suc k) l = further k l (s (suc k)) refl (so_far k (omega arith))

    pub lub_of_set : (x : ℕ) → Among n x → s x ≡ true → (c : ℕ) × IsLub n ge s c
    lub_of_set x w p =
        ⊎_elim
        (λ none. absurd (both p (none x w)))
        (λ (c, h). (c, record { inside = h.inside; over = h.over; least = h.least }))
        (so_far n (omega arith))

  -- the greatest lower bound is the least upper bound of the lower bounds
  pub glb_iff_lower : (s : ℕ → Bool) → ((c : ℕ) × IsGlb n ge s c) ↔ ((d : ℕ) × Among n d × Lower n ge s d)
  glb_iff_lower s = (λ (c, b). (c, b.inside, b.over), λ (d, w, u). of d w u)
    where
      below : ℕ → Bool
      below = upper n (converse ge) s

      of : (d : ℕ) → Among n d → Lower n ge s d → (c : ℕ) × IsGlb n ge s c
      of d w u =
          let (c, b) = lub_of_set below d w ((upper_iff n (converse ge) s d).1 u) in (
            c,
            record {
              inside = b.inside;
              over = λ x v p. b.least x v (λ y z q. (upper_iff n (converse ge) s y).0 q x v p);
              least = λ y v q. b.over y v ((upper_iff n (converse ge) s y).1 q);
            },
          )

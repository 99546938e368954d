-- What the four outcomes of a comparison say: equal or above is the mark itself, whatever the relation is; and in a partial order each outcome is what `Compares` says. Assumes nothing.
use Prim.Native.Nat.{ℕ}
use mathlib.Core.Path.{◌≡◌, refl, sym, subst}
use mathlib.Core.Logic.{◌↔◌}
use mathlib.Core.Bool.{Bool, true, false}
use Rattle.search.specs.Search.{Among}
use Rattle.search.proofs.Truth.{untrue, both}
use Rattle.order.specs.declared.compare.Comparison.{Comparison}
use Rattle.order.specs.declared.compare.Comparison.TheVariants.{Equal, Above, Below, Neither}
use Rattle.order.specs.Closure.{Relation, PartialOrder}
use Rattle.order.specs.Comparison.{by_marks, compare, at_least, Compares}

pub at_least_lem : (ge : Relation) (a b : ℕ) → at_least (compare ge a b) ≡ ge a b
unfolding compare
at_least_lem ge a b = go (ge a b) (ge b a)
  where
    go : (x y : Bool) → at_least (by_marks x y) ≡ x
    go true true = refl
    go true false = refl
    go false true = refl
    go false false = refl

-- so what holds of a relation holds of equal or above by it
pub at_least_has : (P : Relation → Type 0) {ge : Relation} → P ge → P (λ a b. at_least (compare ge a b))
at_least_has P {ge} h = subst P (λ i a b. sym (at_least_lem ge a b) i) h

-- two relations that agree both ways on two things compare them alike
pub compare_same : (d e : Relation) (a b : ℕ) → d a b ≡ e a b → d b a ≡ e b a → compare d a b ≡ compare e a b
unfolding compare
compare_same d e a b p q = rw (p, q)

module _ {n : ℕ} {ge : Relation} (o : PartialOrder n ge) (a b : ℕ) (v : Among n a) (w : Among n b) where
  compares : Compares ge a b (compare ge a b)
  unfolding compare
  compares = go (ge a b) refl (ge b a) refl
    where
      go : (x : Bool) → ge a b ≡ x → (y : Bool) → ge b a ≡ y → Compares ge a b (by_marks x y)
      go true p true q = o.antisymmetric a b v w p q
      go true p false q = (p, λ i. both (o.reflexive a v) (rw (← i) at q))
      go false p true q = (q, λ i. both (o.reflexive a v) (rw (← i) at p))
      go false p false q = (p, q)

  compared : (c : Comparison) → Compares ge a b c → compare ge a b ≡ c
  unfolding compare
  compared Equal i = rw (← i, o.reflexive a v)
  compared Above (p, n) = rw (p, untrue (ge b a) (λ q. n (o.antisymmetric a b v w p q)))
  compared Below (q, n) = rw (q, untrue (ge a b) (λ p. n (o.antisymmetric a b v w p q)))
  compared Neither (p, q) = rw (p, q)

  pub compare_iff : (c : Comparison) → (compare ge a b ≡ c) ↔ Compares ge a b c
  compare_iff c = (λ e. rw e at compares, compared c)

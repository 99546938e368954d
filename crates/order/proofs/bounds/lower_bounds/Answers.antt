-- After each turn the set has the things of `all` that are under each of s that is not left.
use Prim.Native.Nat.{ℕ, ◌+◌, ◌-◌}
use mathlib.Core.Path.{◌≡◌, sym, ap, ◌∙◌}
use mathlib.Core.Bool.{Bool, true, false, not, ◌&&◌, ◌||◌, and-true, or-false, and_assoc, false≢true}
use mathlib.Core.List.{List}
use native.Mathlib.Nat.{add-sub_cancel}
use native.Mathlib.Omega.{arith}
use native.Mathlib.Decide.{ℕ_discrete}
use borrow.Author.Tests.{eq-eqb, ne_eqb}
use lib.Bits.{bit_and}
use lib.Dec.{eqb}
use lib.ListN.{get_or}
use Rattle.search.specs.Search.{implies, Among}
use Rattle.search.proofs.Found.{every_agree, every_in, every_with}
use Rattle.roleset.proofs.Bits.{bit_and_lem, bit_zero}
use Rattle.order.specs.Bound.{upper}
use Rattle.order.specs.inner.Members.{holds, row_holds}
use Rattle.order.proofs.Left.{Left, all_left, lowest, dropped, lowest_within, lowest_left, still, still_left}
use Rattle.order.proofs.bounds.lower_bounds.Invariants.{Taken, Under}
use Rattle.order.proofs.bounds.lower_bounds.Goals as goal

none_taken : (t : List ℕ) (s c : ℕ) → Under t s s c ≡ true
none_taken t s c = (every_in 32 (Taken s s) (λ x. row_holds t x c)).1 (λ x w h. absurd (never (holds s x) h))
  where
    never : (a : Bool) → (a && not a) ≡ true → ⊥
    never true h = false≢true h
    never false h = false≢true h

-- the turn of the lowest that is left
module _ {s rest : ℕ} (left : Left s rest) (some : rest ≡ 0 → ⊥) where
  taken : (x : ℕ) → Among 32 x → Taken s (dropped rest) x ≡ (Taken s rest x || eqb x (lowest rest + 1))
  taken x w = elim (ℕ_discrete x (lowest rest + 1)) [
    | yes q ↦
        let place : x - 1 ≡ (lowest rest) = omega arith in
        let set : holds rest x ≡ true = rw q (lowest_left left some) in
        rw (still left some x, set, left.of x w set, eq-eqb (x - 1) (lowest rest) place, eq-eqb x (lowest rest + 1) q)
    | no q ↦
        rw (still left some x, ne_eqb (x - 1) (lowest rest) (λ e. q (omega arith)), ne_eqb x (lowest rest + 1) q, and-true (holds rest x))
        (sym (or-false (Taken s rest x)))
  ]

  under_more : (t : List ℕ) (c r : ℕ) (all : Bool) → holds r c ≡ (all && Under t s rest c) → holds (bit_and r (get_or t (lowest rest) 0)) c ≡ (all && Under t s (dropped rest) c)
  under_more t c r all e =
      let low = lowest_within left some in
      bit_and_lem r (get_or t (lowest rest) 0) (c - 1)
      ∙ rw (e, every_with 32 (Taken s rest) (Taken s (dropped rest)) (λ x. row_holds t x c) (lowest rest + 1) (omega arith) taken, add-sub_cancel (lowest rest) 1)
      (and_assoc all (Under t s rest c) (holds (get_or t (lowest rest) 0) c))

-- the lowest that is left is a thing
pub bounds-t-rest : goal.bounds-t-rest
bounds-t-rest c = lowest_within c.loop-rest.invariant.0 (λ z. omega arith)

pub loop-rest-preserved : goal.loop-rest-preserved
loop-rest-preserved c =
    let w = c.loop-rest in
    let a = c.args in
    let some : (w.rest ≡ 0 → ⊥) = λ z. omega arith in
    (still_left w.invariant.0 some, λ x v. under_more w.invariant.0 some a.t.now x w.r (holds a.all x) (w.invariant.1 x v))

pub returns : goal.returns
unfolding upper
returns c x v =
    let a = c.args in
    let w = c.loop-rest in
    let none : w.rest ≡ 0 = omega arith in
    w.invariant.1 x v
    ∙ ap (λ (b : Bool). holds a.all x && b)
    (every_agree (λ y. implies (Taken a.s w.rest y) (row_holds a.t.now y x)) (λ y. implies (holds a.s y) (row_holds a.t.now y x)) 32
    (λ y u. rw (none, bit_zero (y - 1), and-true (holds a.s y))))

pub loop-rest-init : goal.loop-rest-init
loop-rest-init c = (all_left _ (omega arith), λ x v. rw (none_taken _ _ x) (sym (and-true _)))

-- What is not of the set is not its greatest, and of the set the lowest that leads it is found first.
use Prim.Native.Nat.{ℕ, ◌+◌, ◌-◌}
use mathlib.Core.Path.{◌≡◌, sym, ap, ◌∙◌}
use mathlib.Core.Bool.{Bool, true, false, and-true}
use mathlib.Core.List.{List}
use native.Mathlib.Nat.{add-sub_cancel}
use native.Mathlib.Omega.{arith}
use native.Mathlib.Decide.{ℕ_discrete}
use borrow.Author.Tests.{ne_eqb}
use lib.Count.{count_trailing_zeros}
use lib.ListN.{get_or}
use Rattle.search.specs.Search.{first, every, implies}
use Rattle.search.proofs.Found.{first_lowest, first_none}
use Rattle.search.proofs.Thing.{thing_none, thing_some}
use Rattle.roleset.proofs.Bits.{bit_zero}
use Rattle.order.specs.Bound.{is_least, least_of, upper}
use Rattle.order.specs.inner.Members.{holds}
use Rattle.order.proofs.Left.{Left, all_left, lowest, dropped, lowest_within, lowest_left, none_lower, still, still_left}
use Rattle.order.proofs.bounds.greatest.Invariants.{leader, Tried}
use Rattle.order.proofs.bounds.greatest.Goals.{After-within}
use Rattle.order.proofs.bounds.greatest.Goals as goal

none_tried : (t : List ℕ) (s : ℕ) → Tried t s s
unfolding is_least
none_tried t s x w e = rw e

-- the turn of the lowest that is left
module _ (t : List ℕ) {s rest : ℕ} (left : Left s rest) (some : rest ≡ 0 → ⊥) (tried : Tried t s rest) where
  tells : {leads : Bool} → leads ≡ every 32 (λ x. implies (holds s x) (holds (get_or t (lowest rest) 0) x)) → leader t s (lowest rest + 1) ≡ leads
  unfolding is_least upper
  tells h =
      let low = lowest_within left some in
      rw (left.of (lowest rest + 1) (omega arith) (lowest_left left some), add-sub_cancel (lowest rest) 1) (sym h)

  leads_first : leader t s (lowest rest + 1) ≡ true → lowest rest + 1 ≡ first 32 (leader t s)
  leads_first h =
      let low = lowest_within left some in
      sym ((first_lowest (leader t s) 32 (lowest rest + 1) (omega arith)).1 (record {
        inside = omega arith;
        holds = h;
        lower = λ x w l. tried x w (none_lower left some x w l);
      }))

  tried_more : leader t s (lowest rest + 1) ≡ false → Tried t s (dropped rest)
  tried_more h x w e = elim (ℕ_discrete x (lowest rest + 1)) [
    | yes q ↦ ap (leader t s) q ∙ h
    | no q ↦ tried x w (rw (ne_eqb (x - 1) (lowest rest) (λ i. q (omega arith)), and-true (holds rest x)) at (sym (still left some x) ∙ e))
  ]

-- the lowest that is left is a thing
pub bounds-t-c : goal.bounds-t-c
bounds-t-c c = lowest_within c.loop-rest.invariant.0 (λ z. omega arith)

tested : (c : After-within)
    → let a = c.args in
    leader a.t.now a.s (count_trailing_zeros 32 c.loop-rest.rest + 1) ≡ c.within.result
tested c =
    let w = c.loop-rest in
    tells c.args.t.now w.invariant.0 (λ z. omega arith) w.invariant.1 c.within.ensures

pub returns-then-within : goal.returns-then-within
unfolding least_of
returns-then-within c =
    let w = c.loop-rest in
    let first_of = leads_first c.args.t.now w.invariant.0 (λ z. omega arith) w.invariant.1 (tested (goal.at.returns-then-within c).After-within ∙ c.if-within.true) in
    (thing_some _ _).1 (first_of, omega arith)

pub loop-rest-preserved : goal.loop-rest-preserved
loop-rest-preserved c =
    let w = c.loop-rest in
    let some : (w.rest ≡ 0 → ⊥) = λ z. omega arith in
    (still_left w.invariant.0 some, tried_more c.args.t.now w.invariant.0 some w.invariant.1 (tested (goal.at.loop-rest-preserved c).After-within ∙ c.if-within.false))

pub returns : goal.returns
unfolding least_of
returns c =
    let w = c.loop-rest in
    let none : w.rest ≡ 0 = omega arith in
    (thing_none _).1 ((first_none (leader c.args.t.now c.args.s) 32).1 (λ x v. w.invariant.1 x v (rw none (bit_zero (x - 1)))))

pub loop-rest-init : goal.loop-rest-init
loop-rest-init c = (all_left _ (omega arith), none_tried c.args.t.now _)

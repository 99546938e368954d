-- A search among the first m things. The upper bounds of a pair are what is over both.
use Prim.Native.Nat.{ℕ, ◌+◌, ◌≤◌, ◌<◌, ◌-◌}
use mathlib.Core.Path.{◌≡◌, sym, ◌∙◌}
use mathlib.Core.Bool.{and_assoc}
use mathlib.Core.List.{List}
use native.Mathlib.Nat.{add-sub_cancel}
use native.Mathlib.Omega.{arith}
use borrow.Author.Rules.{rules}
use borrow.Author.Tests.{lt-ltb, le-ltb}
use lib.Bits.{bit_and}
use lib.Dec.{leb, eqb}
use lib.ListN.{get_or}
use Rattle.search.specs.Search.{first, Among}
use Rattle.search.proofs.Found.{first_none, first_more}
use Rattle.search.proofs.Thing.{thing_absent, thing_found, thing_vain}
use Rattle.roleset.proofs.Bits.{bit_and_lem}
use Rattle.order.specs.Bound.{converse, pair_without_bound, partner_without_bound, lub, least_of, pair, upper}
use Rattle.order.specs.inner.Members.{holds, row_holds}
use Rattle.order.proofs.Bound.{least_cut, upper_pair}
use Rattle.order.proofs.bounds.partner.Invariants.{lone}
use Rattle.order.proofs.bounds.partner.Goals.{After-is_none}
use Rattle.order.proofs.bounds.partner.Goals as goal

module _ (up : List ℕ) (m i : ℕ) where
  -- no thing up to i + 1 comes after it
  none_before : first (i + 1) (lone up m i) ≡ 0
  unfolding pair_without_bound
  none_before = (first_none (lone up m i) (i + 1)).1 (λ b w. rw (le-ltb (i + 1) b w.1))

  -- what the test of a turn tells, with the set of the first m things
  tells : (all j : ℕ) → m ≤ 32 → i < j → j < m → ((a : ℕ) → Among 32 a → holds all a ≡ leb a m)
      → eqb (least_of 32 (converse (row_holds up)) (holds (bit_and (bit_and all (get_or up i 0)) (get_or up j 0)))) 0 ≡ lone up m i (j + 1)
  unfolding pair_without_bound lub
  tells all j l v w h =
      let order = converse (row_holds up) in
      let over = get_or up i 0 in
      let other = get_or up j 0 in
      rw (
        lt-ltb (i + 1) (j + 1) (omega arith),
        least_cut m 32 order (upper m order (pair (i + 1) (j + 1))) (holds (bit_and (bit_and all over) other)) l (λ x u.
            rw (
              bit_and_lem (bit_and all over) other (x - 1),
              bit_and_lem all over (x - 1),
              h x u,
              upper_pair m order (i + 1) (j + 1) x (omega arith) (omega arith),
              add-sub_cancel i 1,
              add-sub_cancel j 1,
            )
            (and_assoc (leb x m) (holds over x) (holds other x))),
      )

-- the test of one turn, as `pair_without_bound`
tested : (c : After-is_none)
    → let a = c.args in
    c.is_none.result ≡ lone a.up.now a.m a.i (c.loop-j.j + 1)
tested c =
    let all = c.first_things in
    let a = c.args in
    thing_absent _ c.greatest.ensures c.is_none.ensures
    ∙ tells a.up.now a.m a.i all.result c.loop-j.j (search rules) (search rules) (search rules) all.ensures

pub returns-then-is_none : goal.returns-then-is_none
unfolding partner_without_bound
returns-then-is_none c =
    let w = c.loop-j in
    thing_found _ _ w.j (search rules) w.invariant (sym (tested (goal.at.returns-then-is_none c).After-is_none) ∙ c.if-is_none.true)

pub loop-j-preserved : goal.loop-j-preserved
loop-j-preserved c =
    let w = c.loop-j in
    first_more _ w.j w.invariant (sym (tested (goal.at.loop-j-preserved c).After-is_none) ∙ c.if-is_none.false)

pub returns : goal.returns
unfolding partner_without_bound
returns c = let w = c.loop-j in thing_vain _ (omega (arith, w.auto.j-end)) w.invariant

pub loop-j-init : goal.loop-j-init
loop-j-init c = let a = c.args in none_before a.up.now a.m a.i

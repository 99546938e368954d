-- A search for the first thing with a partner, in the order as its columns tell it.
use mathlib.Core.Path.{◌≡◌, ◌∙◌}
use native.Mathlib.Omega.{arith}
use borrow.Author.Rules.{rules}
use borrow.Author.Tests.{le-leb}
use Rattle.search.proofs.Found.{first_yet}
use Rattle.order.specs.Closure.{Agree}
use Rattle.order.specs.Bound.{converse}
use Rattle.order.specs.Table.{mark}
use Rattle.order.specs.inner.Members.{row_holds}
use Rattle.order.proofs.Bound.{none_without_more, without_found, none_without, first_pair_agree}
use Rattle.order.proofs.bounds.first_pair.Goals.{After-columns-up}
use Rattle.order.proofs.bounds.first_pair.Goals as goal

-- the columns tell the order of the first m things
told : (c : After-columns-up)
    → let m = c.min-m.result in
    Agree m m (converse (row_holds c.columns-up.result)) (mark c.args.t)
told c a b v w = c.columns-up.ensures b a (omega arith) (omega arith) ∙ rw (le-leb a c.min-m.result v.1)

pub returns-in-Some : goal.returns-in-Some
returns-in-Some c =
    let w = c.loop-i in
    rw (← c.min-m.ensures)
    (without_found _ _ w.i _ (search rules) w.invariant c.in-Some.ensures
    ∙ first_pair_agree _ _ _ (told (goal.at.returns-in-Some c).After-columns-up))

pub loop-i-preserved : goal.loop-i-preserved
loop-i-preserved c =
    let w = c.loop-i in
    none_without_more _ _ w.i w.invariant c.in_default.ensures

pub returns : goal.returns
returns c =
    let m = c.min-m in
    let w = c.loop-i in
    let q : w.i ≡ m.result = omega arith in
    rw (← m.ensures) (none_without _ _ (rw q at w.invariant) ∙ first_pair_agree _ _ _ (told (goal.at.returns c).After-columns-up))

pub loop-i-init : goal.loop-i-init
loop-i-init c = first_yet _

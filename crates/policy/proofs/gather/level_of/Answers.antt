-- Free where the set is empty, undefined where there is no bound, and else the bound.
use Rattle.std.proofs.Common.{ℕ, ◌-◌, ◌≤◌, List, Some, ◌≡◌, sym, ap, ◌∙◌, ◌&&◌, arith, leb}
use mathlib.Core.Bool.{and_comm}
use lib.Bits.{bit_and}
use Rattle.search.specs.Search.{Among, some, thing}
use Rattle.search.proofs.Thing.{thing_some}
use Rattle.search.proofs.Truth.{passed, failed}
use Rattle.search.proofs.Found.{some_cut, every_cut}
use Rattle.roleset.proofs.Bits.{bit_and_lem}
use Rattle.order.specs.Bound.{lub, converse, upper}
use Rattle.order.specs.inner.Members.{holds, row_holds, FirstThings}
use Rattle.order.proofs.Bound.{lub_within, least_cut}
use Rattle.policy.proofs.Gathering.{level_empty, level_unbounded, level_bound}
use Rattle.policy.proofs.gather.level_of.Goals.{After-any, After-greatest_lower}
use Rattle.policy.proofs.gather.level_of.Goals as goal

-- the set cut down to the first n labels
cut : (n all s : ℕ) → FirstThings n all → (l : ℕ) → Among 32 l → holds (bit_and s all) l ≡ (leb l n && holds s l)
cut n all s firsts l w = bit_and_lem s all (l - 1) ∙ rw (firsts l w) (and_comm (holds s l) (leb l n))

-- whether it has a label
some_label : (c : After-any) → let a = c.args in c.any.result ≡ some a.n (holds a.s)
some_label c =
    let all = c.first_things-all in
    let a = c.args in
    c.any.ensures ∙ some_cut a.n 32 c.requires (holds a.s) (holds (bit_and a.s all.result)) (cut a.n all.result a.s all.ensures)

pub returns-then-not-any : goal.returns-then-not-any
returns-then-not-any c = level_empty _ _ _ (failed (some_label (goal.at.returns-then-not-any c).After-any) c.if-not-any.true)

-- the bound that was found
found : (c : After-greatest_lower) → let a = c.args in c.greatest_lower.result ≡ thing (lub a.n (converse (row_holds a.t.now)) (holds a.s))
unfolding lub upper
found c =
    let all = c.first_things-all in
    let a = c.args in
    let order = converse (row_holds a.t.now) in
    c.greatest_lower.ensures
    ∙ ap thing (least_cut a.n 32 order (upper a.n order (holds a.s)) _ c.requires (λ x w.
    rw (
      all.ensures x w,
      every_cut a.n 32 c.requires (holds a.s) (holds (bit_and a.s all.result)) (order x) (cut a.n all.result a.s all.ensures),
    )))

pub returns-in-None : goal.returns-in-None
returns-in-None c =
    level_unbounded _ _ _ (passed (some_label (goal.at.returns-in-None c).After-any) c.if-not-any.false)
    (sym c.in-None.is ∙ found (goal.at.returns-in-None c).After-greatest_lower)

-- a label
bound_within : (n : ℕ) (t : List ℕ) (s b : ℕ) → n ≤ 32 → Some b ≡ thing (lub n (converse (row_holds t)) (holds s)) → b ≤ 32
bound_within n t s b few e = let (q, l) = (thing_some (lub n (converse (row_holds t)) (holds s)) b).0 e in omega (arith, lub_within n (converse (row_holds t)) (holds s))

pub overflow_cast-result : goal.overflow_cast-result
overflow_cast-result c =
    let a = c.args in
    omega (arith, bound_within a.n a.t.now a.s c.in-Some.bound c.requires (sym c.in-Some.is ∙ found (goal.at.overflow_cast-result c).After-greatest_lower))

pub returns-in-Some : goal.returns-in-Some
returns-in-Some c =
    level_bound _ _ _ (passed (some_label (goal.at.returns-in-Some c).After-any) c.if-not-any.false) _
    (sym c.in-Some.is ∙ found (goal.at.returns-in-Some c).After-greatest_lower)

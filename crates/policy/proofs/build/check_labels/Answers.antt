-- The circle is looked for first, and then the pair.
use Rattle.std.proofs.Common.{min, ◌≡◌, sym, ◌∙◌}
use Rattle.search.specs.Search.{thing}
use Rattle.order.specs.Closure.{loop}
use Rattle.order.specs.Table.{mark}
use Rattle.policy.proofs.Dominance.{circle_refused, pair_refused, none_refused}
use Rattle.policy.proofs.build.check_labels.Goals.{After-lowest_loop}
use Rattle.policy.proofs.build.check_labels.Goals as goal

-- the lowest label on a circle, if there is one
lowest : (c : After-lowest_loop) → let a = c.args in c.lowest_loop.result ≡ thing (loop (min a.n 32) (mark a.paths))
lowest c = c.lowest_loop.ensures

pub returns-in-Some : goal.returns-in-Some
returns-in-Some c = circle_refused _ _ _ (sym c.in-Some.is ∙ lowest (goal.at.returns-in-Some c).After-lowest_loop)

pub returns-in-Some-first_pair : goal.returns-in-Some-first_pair
returns-in-Some-first_pair c =
    let none = sym c.in_default.is ∙ lowest (goal.at.returns-in-Some-first_pair c).After-lowest_loop in
    pair_refused _ _ _ none c.in-Some-first_pair.ensures

pub returns : goal.returns
returns c =
    let none = sym c.in_default.is ∙ lowest (goal.at.returns c).After-lowest_loop in
    none_refused _ _ _ none c.in_default-first_pair.ensures

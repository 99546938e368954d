-- The three rows meet in the labels that serve.
use Rattle.std.proofs.Common.{◌≡◌, ◌∙◌, ◌&&◌}
use Rattle.search.specs.Search.{some}
use Rattle.search.proofs.Found.{some_agree}
use Rattle.order.specs.inner.Members.{holds}
use Rattle.policy.specs.inner.Filling.{some_serves}
use Rattle.policy.proofs.assign.some_serves.Goals.{After-meet}
use Rattle.policy.proofs.assign.some_serves.Goals as goal

-- the rows that meet are those of the clearance, of the r-level and of the w-level
met : (c : After-meet) →
    c.meet.result ≡ some 32 (λ y. holds c.row-lower.result y && (holds c.level_row-above.result y && holds c.level_row-below.result y))
met c = c.meet.ensures

pub returns : goal.returns
unfolding some_serves
returns c =
    met (goal.at.returns c).After-meet ∙ some_agree _ _ 32 (λ y w. rw (c.row-lower.ensures y w, c.level_row-above.ensures y w, c.level_row-below.ensures y w))

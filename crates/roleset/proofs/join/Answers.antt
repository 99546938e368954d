-- What is put into the row are the roles of the row that was copied.
use mathlib.Core.Path.{ap}
use mathlib.Core.Bool.{Bool, ◌||◌}
use Rattle.roleset.specs.Row.{member}
use Rattle.roleset.proofs.Rows.{placed_as}
use Rattle.roleset.proofs.join.Goals as goal

pub returns : goal.returns
returns c =
    let start = c.args in
    placed_as (λ r. ap (λ (b : Bool). member start.s.now start.into r || b) (c.row-other.ensures r)) c.unite.ensures

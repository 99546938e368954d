-- Two rows that lie in the slice.
use Rattle.std.proofs.Common.{◌∙◌}
use mathlib.Core.Bool.{and-false}
use Rattle.search.proofs.Found.{some_agree}
use Rattle.roleset.specs.Row.{common, whole}
use Rattle.roleset.proofs.meet.Goals as goal

pub returns : goal.returns
unfolding common
returns c =
    let row = c.in-Some.ensures in
    let other = c.in-Some-row.ensures in
    c.meet.ensures ∙ rw (row.0, other.0) (some_agree _ _ 128 (λ r w. rw (row.1 r, other.1 r)))

pub returns-in_default : goal.returns-in_default
unfolding common
returns-in_default c = rw c.in_default.ensures

pub returns-in_default-row : goal.returns-in_default-row
unfolding common
returns-in_default-row c = rw (c.in_default-row.ensures, and-false (whole c.args.s.now c.args.a))

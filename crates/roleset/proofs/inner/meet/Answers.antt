-- The other row is a set told as two numbers.
use Rattle.std.proofs.Common.{◌∙◌}
use Rattle.search.proofs.Truth.{among_iff}
use Rattle.search.proofs.Found.{some_agree}
use Rattle.roleset.specs.Row.{member}
use Rattle.roleset.proofs.Sets.{in_set_of}
use Rattle.roleset.proofs.inner.meet.Goals as goal

pub returns : goal.returns
returns c =
    let other = member c.args.other.now 0 in
    c.meet_set.ensures ∙ rw (c.low_half.ensures, c.high_half.ensures) (some_agree _ _ 128 (λ r w. rw (in_set_of other r, (among_iff 128 r).1 w)))

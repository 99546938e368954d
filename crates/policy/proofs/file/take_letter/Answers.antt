-- As many lines are taken as lead with the letter.
use Rattle.std.proofs.Common.{◌≡◌}
use Rattle.rolefile.specs.Line.{lines}
use Rattle.policy.proofs.Fronts.{front_lines}
use Rattle.policy.proofs.file.take_letter.Goals as goal

pub returns : goal.returns
returns c =
    let leads = c.leading.ensures in
    let parts = c.split_at.ensures in
    let count : lines c.split_at.result.0.now ≡ c.leading.result = rw parts.front (front_lines c.leading.result c.args.part.now leads.fits) in
    record { leads = rw count leads; front = rw count parts.front; after = rw count parts.back }

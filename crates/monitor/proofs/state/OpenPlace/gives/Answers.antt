-- By the two rows that meet.
use Rattle.std.proofs.Common.{ℕ, ap, rules, ◌∙◌}
use Rattle.roleset.specs.Row.{row_of, common}
use Rattle.policy.specs.Tables.{table_of}
use Rattle.monitor.specs.Session.{gives}
use Rattle.monitor.specs.Refusals.{mode_of}
use Rattle.monitor.proofs.state.OpenPlace.gives.Goals as goal

pub returns : goal.returns
unfolding gives
returns c =
    let a = c.args in
    let row = row_of (table_of (mode_of a.mode)) a.card.number in
    c.meet.ensures ∙ rw c.card_row.ensures (ap (λ (held : ℕ). common a.self.policy.bytes.now held row) (search rules))

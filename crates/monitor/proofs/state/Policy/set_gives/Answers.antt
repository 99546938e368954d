-- The card's row lies in the state.
use Rattle.std.proofs.Common.{arith, ◌∙◌}
use Rattle.roleset.specs.Row.{row_of}
use Rattle.roleset.proofs.Rows.{whole_true}
use Rattle.policy.specs.Tables.{table_of}
use Rattle.monitor.specs.Review.{gives_in}
use Rattle.monitor.specs.Refusals.{mode_of}
use Rattle.monitor.proofs.Answers.{table_low}
use Rattle.monitor.proofs.state.Policy.set_gives.Goals as goal

pub returns : goal.returns
unfolding gives_in
returns c =
    let a = c.args in
    let whole = whole_true a.self.bytes.now (row_of (table_of (mode_of a.mode)) a.card.number) (omega (arith, table_low (mode_of a.mode))) in
    c.meet_set.ensures ∙ rw (c.card_row.ensures, whole)

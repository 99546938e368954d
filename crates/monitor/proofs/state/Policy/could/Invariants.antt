-- A loop that leaves at the first role that could.
use Rattle.std.proofs.Common.{◌≡◌, false}
use Rattle.search.specs.Search.{some}
use Rattle.policy.specs.Tables.{table_of}
use Rattle.monitor.specs.Refusals.{mode_of}
use Rattle.monitor.specs.Rights.{role_could}
use Rattle.monitor.proofs.state.Policy.could.Given as goal

abbrev pub invariant-loop-i : goal.invariant-loop-i
invariant-loop-i l =
    some l.i (role_could l.self.bytes.now l.at.user.number l.at.label.number l.card.number (table_of (mode_of l.mode))) ≡ false

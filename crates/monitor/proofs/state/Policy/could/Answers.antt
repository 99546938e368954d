-- A loop that leaves at the first role that could.
use Rattle.std.proofs.Common.{sym, ◌∙◌, arith}
use Rattle.search.proofs.Found.{some_yet, some_found, some_still, some_vain}
use Rattle.monitor.specs.Session.{roles_in}
use Rattle.monitor.specs.Rights.{could}
use Rattle.monitor.proofs.state.Policy.could.Goals as goal

pub loop-i-init : goal.loop-i-init
loop-i-init c = some_yet _

pub loop-i-preserved : goal.loop-i-preserved
loop-i-preserved c = some_still _ c.loop-i.i c.loop-i.invariant (sym c.role_could.ensures ∙ c.if-role_could.false)

pub returns-then-role_could : goal.returns-then-role_could
unfolding could
returns-then-role_could c = some_found _ (roles_in c.args.self.bytes.now) c.loop-i.i (omega arith) (sym c.role_could.ensures ∙ c.if-role_could.true)

pub returns : goal.returns
unfolding could
returns c = some_vain _ (omega arith) c.loop-i.invariant

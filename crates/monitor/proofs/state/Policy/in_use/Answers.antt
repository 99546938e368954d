-- By the byte that it reads.
use Rattle.std.proofs.Common.{ℕ, ap, eqb}
use Rattle.monitor.specs.Session.{in_use}
use Rattle.monitor.proofs.state.Policy.in_use.Goals as goal

pub returns : goal.returns
unfolding in_use
returns c = rw (← c.at.ensures) (ap (λ (n : ℕ). eqb n 1) c.byte.ensures)

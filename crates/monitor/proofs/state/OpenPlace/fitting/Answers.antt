-- By the label that it reads.
use Rattle.std.proofs.Common.{ℕ, ap, rules, ◌∙◌}
use Rattle.monitor.specs.Session.{fitting}
use Rattle.monitor.proofs.state.OpenPlace.fitting.Goals as goal

pub returns : goal.returns
returns c =
    let a = c.args in
    c.fits.ensures ∙ ap (λ (label : ℕ). fitting a.self.policy.bytes.now label a.role.number) (search rules)

-- Each turn tests one role more.
use Rattle.std.proofs.Common.{ℕ, ◌≡◌, ◌&&◌, leb}
use Rattle.roleset.specs.Row.{member}
use Rattle.monitor.specs.Review.{takable_in}
use Rattle.monitor.proofs.state.Policy.roles_at.Given as goal

abbrev pub invariant-loop-i : goal.invariant-loop-i
invariant-loop-i l = (r : ℕ) → member l.row 0 r ≡ (leb r l.i && takable_in l.self.bytes.now l.at.user.number l.at.label.number r)

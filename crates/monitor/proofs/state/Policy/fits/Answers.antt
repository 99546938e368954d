-- By the two levels that it reads.
use Rattle.std.proofs.Common.{◌≡◌, ◌∙◌}
use Rattle.search.proofs.Truth.{passed, failed}
use Rattle.policy.specs.Tables.{byte_of, passes_in, r_levels_at}
use Rattle.monitor.specs.Session.{fitting}
use Rattle.monitor.proofs.state.Policy.fits.Goals.{After-passes}
use Rattle.monitor.proofs.state.Policy.fits.Goals as goal

-- what the test of the r-level finds
reading : (c : After-passes) → let a = c.args in let reads = byte_of a.self.bytes.now r_levels_at a.role.number in
    c.passes.result ≡ passes_in a.self.bytes.now reads a.label reads
reading c = c.passes.ensures ∙ rw c.level-reads.ensures.0

pub returns-then-not-passes : goal.returns-then-not-passes
unfolding fitting
returns-then-not-passes c = rw (failed (reading (goal.at.returns-then-not-passes c).After-passes) c.if-not-passes.true)

pub returns : goal.returns
unfolding fitting
returns c =
    rw (passed (reading (goal.at.returns c).After-passes) c.if-not-passes.false) (c.passes-2.ensures ∙ rw c.level-writes.ensures.0)

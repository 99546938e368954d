-- The three tests in turn.
use Rattle.std.proofs.Common.{◌≡◌, refl, ne_eqb}
use Rattle.search.proofs.Truth.{passed, failed}
use Rattle.policy.specs.Tables.{byte_of, passes_in, clearances_at, r_levels_at, w_levels_at}
use Rattle.policy.specs.inner.Filling.{some_serves, assign_by_tables}
use Rattle.policy.proofs.assign.assign.Goals.{After-passes, After-some_serves}
use Rattle.policy.proofs.assign.assign.Goals as goal

-- what the tests of 15 and 16 find
reading : (c : After-passes) → let a = c.args in let reads = byte_of a.s.now r_levels_at a.role in
    c.passes.result ≡ passes_in a.s.now reads (byte_of a.s.now clearances_at a.user) reads
reading c = c.passes.ensures

serving : (c : After-some_serves) → let a = c.args in
    c.some_serves.result
    ≡ some_serves a.dominance.now.under a.dominance.now.over (byte_of a.s.now clearances_at a.user) (byte_of a.s.now r_levels_at a.role) (byte_of a.s.now w_levels_at a.role)
serving c = c.some_serves.ensures

pub returns-then-not-passes : goal.returns-then-not-passes
unfolding assign_by_tables
returns-then-not-passes c =
    rw (ne_eqb _ _ c.if-writes.false, failed (reading (goal.at.returns-then-not-passes c).After-passes) c.if-not-passes.true) refl

pub returns-then-not-some_serves : goal.returns-then-not-some_serves
unfolding assign_by_tables
returns-then-not-some_serves c =
    rw (
      ne_eqb _ _ c.if-writes.false,
      passed (reading (goal.at.returns-then-not-some_serves c).After-passes) c.if-not-passes.false,
      failed (serving (goal.at.returns-then-not-some_serves c).After-some_serves) c.if-not-some_serves.true,
    ) refl

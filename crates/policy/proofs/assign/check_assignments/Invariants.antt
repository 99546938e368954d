-- A loop that leaves at the first refusal.
use Rattle.std.proofs.Common.{◌≡◌}
use Rattle.rolefile.specs.Form.{scan}
use Rattle.rolefile.specs.inner.Section.{one, two}
use Rattle.policy.specs.inner.Filling.{assign_by_tables}
use Rattle.policy.proofs.assign.check_assignments.Given as goal

abbrev pub invariant-loop-i : goal.invariant-loop-i
invariant-loop-i l = (scan l.i (λ k. assign_by_tables l.s l.dominance.under l.dominance.over (one l.p k) (two l.p k))).number ≡ 0

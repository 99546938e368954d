-- Each line adds its pair, turned.
use Rattle.std.proofs.Common.{ℕ, ◌≡◌}
use Rattle.policy.specs.inner.Filling.{Related, turned}
use Rattle.policy.proofs.rows.relate_lines.Given as goal

abbrev pub invariant-loop-i : goal.invariant-loop-i
invariant-loop-i g l =
    (row role : ℕ → ℕ → ℕ) → ((a b : ℕ) (q : _) → goal.F-post g l.turn a b q → (q.0 ≡ row a b) × (q.1 ≡ role a b))
    → Related l.table.at l.table.size (turned row role l.p l.i) l.initial.s l.s

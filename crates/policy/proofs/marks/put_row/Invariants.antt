-- Each turn stores one byte more.
use Rattle.std.proofs.Common.{ℕ, ◌+◌, Bool, cond, List}
use Rattle.roleset.proofs.Rows.{Written}
use Rattle.order.specs.Table.{marks}
use Rattle.policy.proofs.marks.put_row.Given as goal

abbrev pub byte_at : List Bool → ℕ → ℕ
byte_at row b = cond (marks row b) 1 0

abbrev pub invariant-loop-j : goal.invariant-loop-j
invariant-loop-j l = Written l.at l.j (λ k. byte_at l.row (k + 1)) l.initial.s l.s

-- Each turn stores both levels of one role more.
use Rattle.order.specs.Bound.{converse}
use Rattle.order.specs.Table.{related}
use Rattle.order.specs.inner.Members.{row_holds}
use Rattle.policy.specs.Policy.{level, level_number}
use Rattle.policy.specs.inner.Filling.{by_mode, LevelBytes}
use Rattle.policy.proofs.gather.put_levels.Given as goal

abbrev pub invariant-loop-i : goal.invariant-loop-i
invariant-loop-i l =
    LevelBytes l.i (λ d r. level_number (level l.n (converse (row_holds (by_mode l.dominance.over l.dominance.under d))) (λ k. related (by_mode l.g.readers l.g.writers d) 0 k r)))
    l.initial.s l.s

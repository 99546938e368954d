-- Each turn takes one role more out of its own row.
use Rattle.std.proofs.Common.{rules}
use Rattle.policy.specs.inner.Filling.{without_loops}
use Rattle.policy.proofs.Flowing.{row_more, loop_removed}
use Rattle.policy.proofs.flow.remove_itself.Goals as goal

pub loop-i-preserved : goal.loop-i-preserved
loop-i-preserved c =
    let t = c.args.t.now in
    let w = c.loop-i in
    row_more (without_loops t) t w.t w.i (search rules) (search rules) (search rules) w.invariant _ _ c.remove.ensures
    (λ q v. loop_removed t w.t w.i q (search rules) (search rules) (search rules) v w.invariant)

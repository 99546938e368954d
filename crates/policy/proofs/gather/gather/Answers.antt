-- Each card adds its own.
use Rattle.std.proofs.Common.{◌∙◌}
use Rattle.policy.proofs.Gathering.{gathered_more, gathered_none}
use Rattle.policy.proofs.gather.gather.Goals as goal

pub loop-o-preserved : goal.loop-o-preserved
loop-o-preserved c = let w = c.loop-o in record {
  readers = λ l r u v. c.gather_one.ensures.readers l r u v ∙ rw (w.invariant.readers l r u v) (gathered_more _ _ w.o l r);
  writers = λ l r u v. c.gather_one.ensures.writers l r u v ∙ rw (w.invariant.writers l r u v) (gathered_more _ _ w.o l r);
}

pub loop-o-init : goal.loop-o-init
loop-o-init c = record { readers = gathered_none _ _; writers = gathered_none _ _ }

-- Each card adds its own.
use Rattle.order.specs.Closure.{Agree}
use Rattle.order.specs.Table.{related}
use Rattle.policy.specs.Tables.{readers_at, writers_at}
use Rattle.policy.specs.inner.Filling.{gathered}
use Rattle.policy.proofs.gather.gather.Given as goal

abbrev pub invariant-loop-o : goal.invariant-loop-o
invariant-loop-o l = record {
  readers : Agree 32 128 (related l.g.readers 0) (gathered l.s readers_at l.o);
  writers : Agree 32 128 (related l.g.writers 0) (gathered l.s writers_at l.o);
}

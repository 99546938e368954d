-- What the columns so far say.
use Rattle.std.proofs.Common.{◌≡◌, take}
use Rattle.rolefile.specs.declared.Field.TheVariants.{Blank}
use Rattle.rolefile.specs.Field.{columns}
use Rattle.rolefile.proofs.read.by_columns.Given as goal

abbrev pub invariant-loop-b : goal.invariant-loop-b
invariant-loop-b l = l.f ≡ columns Blank (take l.b-index l.bytes)

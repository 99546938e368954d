-- The lines of the letter D are marked, and the marks closed.
use Rattle.policy.proofs.Dominance.{paths_are}
use Rattle.policy.proofs.build.paths_of.Goals as goal

pub returns : goal.returns
returns c = paths_are c.args.file.now.ready c.marks_of.result c.paths.result c.marks_of.ensures c.paths.ensures

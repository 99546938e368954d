-- The A lines fill the rows, and the counts are put.
use Rattle.std.proofs.Common.{rules}
use Rattle.policy.proofs.Relating.{related_as, turned_same}
use Rattle.policy.proofs.Finishes.{finished}
use Rattle.policy.proofs.build.finish.Goals as goal

pub returns : goal.returns
returns c =
    let lines = related_as (λ x r. turned_same _ _ x r) (c.relate_lines.ensures (λ a b. a) (λ a b. b) (λ a b q h. search rules)) in
    finished c.args.file.now.ready c.args.s.now c.relate_lines.new.s c.put_counts.new.s c.requires lines c.put_counts.ensures

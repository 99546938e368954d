-- The S lines fill the rows, which are closed; a circle is refused.
use Rattle.std.proofs.Common.{rules}
use Rattle.policy.proofs.Relating.{related_as, turned_back}
use Rattle.policy.proofs.Ranks.{Pathed, pathed_of, ranked_refused, ranked}
use Rattle.policy.proofs.build.rank_roles.Goals.{After-paths}
use Rattle.policy.proofs.build.rank_roles.Goals as goal

pathed : (c : After-paths) → Pathed c.args.file.now.bytes.now c.args.file.now.counts c.args.s.now c.paths.new.s
pathed c =
    let lines = related_as (λ x r. turned_back _ _ x r) (c.relate_lines.ensures (λ a b. b) (λ a b. a) (λ a b q h. search rules)) in
    pathed_of c.args.file.now.ready c.args.s.now c.relate_lines.new.s c.paths.new.s (search rules) (search rules)
    c.requires lines c.paths.ensures

pub returns-in-Some : goal.returns-in-Some
returns-in-Some c = ranked_refused (pathed (goal.at.returns-in-Some c).After-paths) c.in-Some.ensures

pub returns : goal.returns
returns c = ranked (pathed (goal.at.returns c).After-paths) c.in_default.ensures c.reflect.ensures

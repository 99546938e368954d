-- One row is stored, with one mark more, where its thing is a label.
use Rattle.std.proofs.Common.{rules}
use Rattle.search.specs.Search.{Among}
use Rattle.search.proofs.Truth.{one_of, none_of}
use Rattle.policy.proofs.Marked.{pair_none, pair_one}
use Rattle.policy.proofs.marks.add_pair.Goals.{Else-not-among}
use Rattle.policy.proofs.marks.add_pair.Goals as goal

known : (c : Else-not-among) → Among 32 c.args.a
known c = one_of 32 _ c.among.ensures c.if-not-among.false

pub returns-then-not-among : goal.returns-then-not-among
returns-then-not-among c =
    let g = c.args in
    pair_none g.a g.b g.t.now (none_of 32 _ c.among.ensures c.if-not-among.true)

pub returns : goal.returns
returns c =
    let g = c.args in
    pair_one g.a g.b g.t.now c.with_mark.result (known (goal.at.returns c).Else-not-among) (search rules) c.with_mark.ensures

-- Each line adds its pair, turned.
use Rattle.std.proofs.Common.{◌≡◌, arith}
use Rattle.rolefile.specs.Line.{lines}
use Rattle.policy.proofs.Relating.{related_none, related_as, related_more, turned_more, turned_none}
use Rattle.policy.proofs.rows.relate_lines.Goals as goal

pub loop-i-preserved : goal.loop-i-preserved
loop-i-preserved g c row role told =
    let w = c.loop-i in
    let (x, r) = told _ _ _ c.turn-x.ensures in
    let ex = rw (c.first_number.ensures, c.second_number.ensures) at x in
    let er = rw (c.first_number.ensures, c.second_number.ensures) at r in
    related_as (λ y q. turned_more row role c.args.p.now w.i _ _ y q ex er) (related_more (w.invariant row role told) c.relate.ensures)

pub loop-i-init : goal.loop-i-init
loop-i-init g c row role told = related_none _ _ _ _ (λ x r v w. turned_none _ _ _ x r)

pub returns : goal.returns
returns g c row role told =
    let w = c.loop-i in
    let all : w.i ≡ lines c.args.p.now = omega arith in
    rw all at (w.invariant row role told)

-- A search among the first n things.
use Rattle.std.proofs.Common.{add-sub_cancel, arith}
use Rattle.search.proofs.Found.{first_yet, first_more}
use Rattle.search.proofs.Thing.{thing_found, thing_vain}
use Rattle.policy.specs.inner.Filling.{unlabelled_in}
use Rattle.policy.proofs.labels.lowest_unlabelled.Goals as goal

pub returns-then-v : goal.returns-then-v
returns-then-v c =
    let a = c.args in
    let w = c.loop-i in
    thing_found (unlabelled_in a.s.now a.table.at) a.n w.i (omega arith) w.invariant (simp (add-sub_cancel w.i 1) c.if-v.true)

pub loop-i-preserved : goal.loop-i-preserved
loop-i-preserved c =
    let a = c.args in
    let w = c.loop-i in
    first_more (unlabelled_in a.s.now a.table.at) w.i w.invariant (simp (add-sub_cancel w.i 1) c.if-v.false)

pub returns : goal.returns
returns c = thing_vain _ (omega arith) c.loop-i.invariant

pub loop-i-init : goal.loop-i-init
loop-i-init c = first_yet _

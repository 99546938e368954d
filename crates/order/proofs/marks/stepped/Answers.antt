-- Each turn stores one mark more, as the contract says it.
use native.Mathlib.Nat.{add-sub_cancel}
use borrow.Author.Rules.{rules}
use Rattle.order.proofs.Stored.{upto_more}
use Rattle.order.proofs.marks.stepped.Goals as goal

pub loop-j-preserved : goal.loop-j-preserved
loop-j-preserved c =
    let w = c.loop-j in
    (search rules, upto_more _ w.r w.j _ (search rules) w.invariant.1 (simp (add-sub_cancel w.j 1)))

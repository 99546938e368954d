-- Each turn stores the next row.
use native.Mathlib.Nat.{add-sub_cancel}
use borrow.Author.Rules.{rules}
use Rattle.order.specs.inner.Members.{holds}
use Rattle.order.specs.inner.Rounds.{rows_more}
use Rattle.order.proofs.Stored.{set_row}
use Rattle.order.proofs.bounds.spread.Goals as goal

pub loop-j-preserved : goal.loop-j-preserved
loop-j-preserved c =
    let w = c.loop-j in (
      search rules,
      rows_more 32 _ _ w.j _ _ (search rules) w.invariant.1
          (set_row holds 0 _ w.r w.j c.put.result (search rules) (simp (add-sub_cancel w.j 1) c.put.ensures)),
    )

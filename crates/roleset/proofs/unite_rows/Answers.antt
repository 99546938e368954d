-- Each turn places one row more, which has had no turn before; and no row holds a number that is no role's.
use Rattle.std.proofs.Common.{ℕ, ◌+◌, ◌*◌, ◌≤◌, ◌≡◌, ◌∙◌, refl, sym, inr, length, arith}
use mathlib.Core.Bool.{or-false}
use borrow.Author.Tests.{leb-true}
use Rattle.roleset.specs.Row.{member}
use Rattle.roleset.proofs.Rows.{row_kept, rows_unwritten, rows_more, where_front, placed_from}
use Rattle.roleset.proofs.unite_rows.Goals.{Else-not-rows_lie}
use Rattle.roleset.proofs.unite_rows.Goals as goal

lie : (c : Else-not-rows_lie) → c.args.at + 16 * c.args.n ≤ length c.args.s.now
lie c = leb-true _ _ (sym c.if-not-rows_lie.ensures)

pub returns-then-not-is_role : goal.returns-then-not-is_role
unfolding member
returns-then-not-is_role c = rows_unwritten (λ l i m r. rw (← c.if-not-is_role.ensures) (sym (or-false _)))

pub loop-i-preserved : goal.loop-i-preserved
loop-i-preserved c =
    let w = c.loop-i in
    let a = c.args in
    let at = a.at + 16 * w.i in
    let fits = lie (goal.at.loop-i-preserved c).Else-not-rows_lie in
    let left : (r : ℕ) → member w.s at r ≡ member a.s.now at r = λ r. row_kept _ _ w.invariant.rest _ r (inr (omega arith)) in
    let here : at + 16 ≤ length w.s = let long = w.auto.s in omega arith in
    rows_more (omega arith) w.auto.s w.invariant
    (placed_from at _ w.s here (omega arith) c.unite_where.new.from c.unite_where.auto.from c.unite_where.ensures (λ r. refl))
    (λ r. where_front at _ w.s here (omega arith) a.role a.other r ∙ rw (left r, left a.role))

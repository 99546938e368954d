-- The row of the role passed is taken before any is changed.
use Rattle.std.proofs.Common.{◌+◌, ◌*◌, ◌≡◌, ◌∙◌, arith}
use Rattle.order.proofs.Placing.{round_rows}
use Rattle.order.proofs.rows.RoleTableClosing.pass.Goals as goal

pub returns : goal.returns
returns c long =
    let a = c.args in
    let place : 0 + 16 * a.k ≡ 16 * a.k = omega arith in (
      c.unite_rows.auto.s ∙ long,
      round_rows 0 a.self.now (omega arith) a.n a.k _ _ (omega arith) (omega arith) (rw place c.row-other.ensures) c.unite_rows.ensures,
    )

-- The table has the flow, and then its paths; the lowest role with a path to itself is on a circle.
use Rattle.std.proofs.Common.{◌≤◌, min, ◌≡◌, ap, ◌∙◌, cond, leb, length, arith, rules}
use Rattle.search.specs.Search.{thing}
use Rattle.order.specs.Closure.{loop}
use Rattle.order.specs.Table.{related}
use Rattle.policy.specs.Tables.{role_count_at, roles_up_to, cards_up_to}
use Rattle.policy.proofs.Flowing.{no_state, a_state, of_state, front_up_to, front_flowing, flow_circles}
use Rattle.policy.proofs.flow.flow_circle.Goals.{After-lowest_loop}
use Rattle.policy.proofs.flow.flow_circle.Goals as goal

-- the lowest role with a path to itself, if there is one
lowest : (c : After-lowest_loop)
    → let t = c.paths.new.s in
    c.lowest_loop.result ≡ thing (cond (leb 2048 (length t)) (loop (min c.roles-n.result 128) (related t 0)) 0)
lowest c = c.lowest_loop.ensures

pub returns-in_err-s : goal.returns-in_err-s
returns-in_err-s c = c.from_residual.ensures ∙ rw (no_state c.args.s.now c.in_err-s.ensures.cases)

pub returns : goal.returns
returns c =
    let xs = c.args.s.now in
    let s = c.in_ok-s.s.now in
    let chunk = c.in_ok-s.ensures.cases in
    let long : 65536 ≤ length s = search rules in
    let count : min c.roles-n.result 128 ≡ roles_up_to xs = omega (arith, of_state s long c.roles-n.ensures, front_up_to xs s chunk.same role_count_at 128 (omega arith)) in
    lowest c
    ∙ ap thing (flow_circles xs c.table-t.result c.paths.new.s (cards_up_to xs) (min c.roles-n.result 128)
    (λ r q v w. c.table-t.ensures r q v w ∙ rw (a_state s long) (front_flowing xs s chunk.same r q))
    (search rules) (search rules) (search rules) c.paths.ensures
    ∙ rw (a_state xs chunk.enough, count))

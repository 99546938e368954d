-- A search among the first cards, for two roles that differ.
use Rattle.std.proofs.Common.{◌≡◌, ◌∙◌, true, false, arith}
use Rattle.search.specs.Search.{some}
use Rattle.search.proofs.Found.{some_found, some_still, some_vain, some_yet}
use Rattle.policy.specs.Tables.{flows_in, flowing, cards_up_to, flows_by_card}
use Rattle.policy.proofs.Flowing.{no_state, a_state, front_flowing, flow_self, flow_other}
use Rattle.policy.proofs.flow.flows.Goals.{In-Some}
use Rattle.policy.proofs.flow.flows.Goals as goal

-- what is told of the state is told of the slice
told : (c : In-Some) → flowing c.in-Some.s.now (cards_up_to c.in-Some.s.now) c.args.from c.args.to ≡ flows_in c.args.s.now c.args.from c.args.to
told c =
    let chunk = c.in-Some.ensures.cases in
    front_flowing c.args.s.now c.in-Some.s.now chunk.same c.args.from c.args.to ∙ rw (a_state c.args.s.now chunk.enough)

pub returns-in_default : goal.returns-in_default
returns-in_default c = rw (no_state c.args.s.now c.in_default.ensures.cases)

pub returns-then-from-to : goal.returns-then-from-to
returns-then-from-to c =
    let a = c.args in
    let s = c.in-Some.s.now in
    rw (flow_self s (cards_up_to s) a.from a.to c.if-from-to.true) at (told (goal.at.returns-then-from-to c).In-Some)

pub loop-o-init : goal.loop-o-init
loop-o-init c = some_yet _

pub returns-then-flows_by_card : goal.returns-then-flows_by_card
returns-then-flows_by_card c =
    let a = c.args in
    let s = c.in-Some.s.now in
    let w = c.loop-o in
    let found : true ≡ some (cards_up_to s) (flows_by_card s a.from a.to) = some_found (flows_by_card s a.from a.to) (cards_up_to s) w.o (omega (arith, c.count-o-end.ensures)) (rw c.flows_by_card.ensures at c.if-flows_by_card.true) in
    rw (flow_other s (cards_up_to s) a.from a.to c.if-from-to.false, ← found) at (told (goal.at.returns-then-flows_by_card c).In-Some)

pub loop-o-preserved : goal.loop-o-preserved
loop-o-preserved c =
    let a = c.args in
    let w = c.loop-o in
    some_still (flows_by_card c.in-Some.s.now a.from a.to) w.o w.invariant (rw c.flows_by_card.ensures at c.if-flows_by_card.false)

pub returns : goal.returns
returns c =
    let a = c.args in
    let s = c.in-Some.s.now in
    let differ = c.if-from-to.false in
    let vain : false ≡ some (cards_up_to s) (flows_by_card s a.from a.to) = some_vain (flows_by_card s a.from a.to) (omega (arith, c.count-o-end.ensures)) c.loop-o.invariant in
    rw (flow_other s (cards_up_to s) a.from a.to differ, ← vain) at (told (goal.at.returns c).In-Some)

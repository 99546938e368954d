-- What a call at a place asks first refuses. Where it and each test after it has passed, the number is 0.
use Rattle.std.proofs.Common.{refl, rules, arith}
use Rattle.monitor.specs.Calls.{part_number}
use Rattle.monitor.proofs.Answers.{passes}
use Rattle.monitor.proofs.Refused.{handed, session_stops, session_passes, call_passes}
use Rattle.monitor.proofs.cards.part.Goals as goal

pub returns-in_err-session-clause-refused : goal.returns-in_err-session-clause-refused
unfolding part_number
returns-in_err-session-clause-refused c = search (handed, session_stops, rules)

pub returns-clause-refused : goal.returns-clause-refused
unfolding part_number
returns-clause-refused c =
    let session = c.in_ok-session.ensures in
    let card = c.in_ok-card.ensures in
    session_passes _ _ _ session.refused
    (rw (session.policy, session.place, card.done.0) at
    (call_passes _ 25 _ {x = 0} (omega arith) card.refused
    (passes _ 29 _ c.gives.ensures c.if-not-gives.false
    (passes _ 30 _ c.in_card.ensures c.if-not-in_card.false
    (passes _ 31 _ c.stored.ensures c.if-not-stored.false refl)))))

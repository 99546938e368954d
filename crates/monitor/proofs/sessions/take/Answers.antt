-- What a call at a place asks first refuses, and leaves the state.
use Rattle.std.proofs.Common.{◌≡◌, rules}
use Rattle.monitor.specs.Refusals.{number_of}
use Rattle.monitor.specs.Calls.{take_number}
use Rattle.monitor.proofs.Refused.{handed, session_stops, session_passes, call_stops, refused_kept}
use Rattle.monitor.proofs.sessions.take.Goals as goal

pub returns-in_err-session : goal.returns-in_err-session
unfolding take_number
returns-in_err-session c =
    let n = session_stops _ _ _ _ c.in_err-session.ensures.refused in
    record { number = handed _ _ c.from_residual.ensures n; state = refused_kept _ _ _ _ n }

pub returns-in_err-role : goal.returns-in_err-role
unfolding take_number
returns-in_err-role c =
    let a = c.args in
    let n : number_of c.in_err-role.field-0.0 ≡ take_number a.s.now a.place a.role = search (session_passes, call_stops, rules, c.in_err-role.ensures.refused) in
    record { number = handed _ _ c.from_residual-in_err-role.ensures n; state = refused_kept _ _ _ _ n }

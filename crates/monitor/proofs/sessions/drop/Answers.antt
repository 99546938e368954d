-- What a call at a place asks first refuses, and leaves the state.
use Rattle.monitor.specs.Calls.{drop_number}
use Rattle.monitor.proofs.Refused.{handed, session_stops, refused_kept}
use Rattle.monitor.proofs.sessions.drop.Goals as goal

pub returns-in_err-session : goal.returns-in_err-session
unfolding drop_number
returns-in_err-session c =
    let n = session_stops _ _ _ _ c.in_err-session.ensures.refused in
    record { number = handed _ _ c.from_residual.ensures n; state = refused_kept _ _ _ _ n }

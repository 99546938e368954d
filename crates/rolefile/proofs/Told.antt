-- The verdict of a check that answers with an error. Assumes nothing.
use Rattle.std.proofs.Common.{◌≡◌, arith, Result, Ok, Err}
use Rattle.std.specs.Prelude.{MatchResult}
use Rattle.rolefile.specs.declared.Verdict.{Verdict}
use Rattle.rolefile.specs.declared.Refusal.{Refusal}
use Rattle.rolefile.specs.declared.Refusal.TheVariants.{Length, Malformed, Counts, Numbers, Order}
use Rattle.rolefile.specs.Form.{fine}
use Rattle.rolefile.specs.Refusal.{verdict_of, told}
use Rattle.rolefile.proofs.Verdicts.{Refuses}

-- each refusal refuses
pub refusal_refuses : (e : Refusal) → Refuses (verdict_of e)
refusal_refuses Length z = omega arith
refusal_refuses (Malformed k) z = omega arith
refusal_refuses Counts z = omega arith
refusal_refuses (Numbers k) z = omega arith
refusal_refuses (Order k) z = omega arith

-- a verdict that is made from what the check answered
pub told_by : {T E : Type 0} (read : E → Verdict) (r : Result T E) (v : Verdict) → MatchResult r (λ x. v ≡ fine) (λ e. v ≡ read e) → v ≡ told read r
told_by read (Ok x) v h = h
told_by read (Err e) v h = h

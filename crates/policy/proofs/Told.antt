-- The verdict of a load that answers with an error. Assumes nothing.
use Rattle.std.proofs.Common.{arith}
use Rattle.rolefile.proofs.Verdicts.{Refuses}
use Rattle.rolefile.proofs.Told as form
use Rattle.policy.specs.declared.Refusal.{Refusal}
use Rattle.policy.specs.declared.Refusal.TheVariants.{Form, UserLabels, CardLabels, State, LabelCircle, NoBound, RoleCircle, NoWriteLevel, ReadsMore, NoLabel}
use Rattle.policy.specs.Refusal.{verdict_of}

-- each refusal refuses
pub refusal_refuses : (e : Refusal) → Refuses (verdict_of e)
refusal_refuses (Form e) z = form.refusal_refuses e z
refusal_refuses (UserLabels u) z = omega arith
refusal_refuses (CardLabels o) z = omega arith
refusal_refuses State z = omega arith
refusal_refuses (LabelCircle a) z = omega arith
refusal_refuses (NoBound a b) z = omega arith
refusal_refuses (RoleCircle r) z = omega arith
refusal_refuses (NoWriteLevel u r) z = omega arith
refusal_refuses (ReadsMore u r) z = omega arith
refusal_refuses (NoLabel u r) z = omega arith

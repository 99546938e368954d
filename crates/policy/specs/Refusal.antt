-- Why a load is refused, as a verdict. Assumes nothing.
use Rattle.rolefile.specs.declared.Verdict.{Verdict}
use Rattle.rolefile.specs.Form.{refusal}
use Rattle.rolefile.specs.Refusal as form
use Rattle.policy.specs.declared.Refusal.{Refusal}
use Rattle.policy.specs.declared.Refusal.TheVariants.{Form, UserLabels, CardLabels, State, LabelCircle, NoBound, RoleCircle, NoWriteLevel, ReadsMore, NoLabel}

-- its number and its place: "first 1 for users and 2 for cards" with 6, the things on a circle or without a bound, the user and the role
abbrev pub verdict_of : Refusal → Verdict
verdict_of (Form e) = form.verdict_of e
verdict_of (UserLabels u) = refusal 6 1 u
verdict_of (CardLabels o) = refusal 6 2 o
verdict_of State = refusal 7 0 0
verdict_of (LabelCircle a) = refusal 11 a 0
verdict_of (NoBound a b) = refusal 12 a b
verdict_of (RoleCircle r) = refusal 13 r 0
verdict_of (NoWriteLevel u r) = refusal 14 u r
verdict_of (ReadsMore u r) = refusal 15 u r
verdict_of (NoLabel u r) = refusal 16 u r

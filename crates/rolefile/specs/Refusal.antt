-- Why a file is refused for its form, as a verdict. Assumes nothing.
use Rattle.std.specs.Prelude.{Result, Ok, Err}
use Rattle.rolefile.specs.declared.Verdict.{Verdict}
use Rattle.rolefile.specs.declared.Refusal.{Refusal}
use Rattle.rolefile.specs.declared.Refusal.TheVariants.{Length, Malformed, Counts, Numbers, Order}
use Rattle.rolefile.specs.Form.{fine, refusal}

-- its number and its place, a line; the counts stand in line 1
abbrev pub verdict_of : Refusal → Verdict
verdict_of Length = refusal 1 0 0
verdict_of (Malformed k) = refusal 2 k 0
verdict_of Counts = refusal 3 1 0
verdict_of (Numbers k) = refusal 4 k 0
verdict_of (Order k) = refusal 5 k 0

-- the verdict of a check whose errors are read as verdicts by `read`
abbrev pub told : {T E : Type 0} → (E → Verdict) → Result T E → Verdict
told read (Ok x) = fine
told read (Err e) = read e

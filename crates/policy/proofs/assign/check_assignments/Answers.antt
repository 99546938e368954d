-- A loop that leaves at the first refusal.
use Rattle.std.proofs.Common.{◌+◌, ◌≡◌, sym, ap, ◌∙◌, arith}
use Rattle.std.proofs.lemmas.Result.{err_from_is_err_and}
use Rattle.rolefile.specs.declared.Verdict.{Verdict}
use Rattle.rolefile.specs.Line.{lines}
use Rattle.rolefile.specs.Form.{scan}
use Rattle.rolefile.specs.inner.Section.{one, two}
use Rattle.rolefile.proofs.Verdicts.{scan_yet, scan_found, scan_more, scan_clean}
use Rattle.policy.specs.Verdict.{assignment_verdict}
use Rattle.policy.specs.inner.Filling.{assign_by_tables}
use Rattle.policy.proofs.Told.{refusal_refuses}
use Rattle.policy.proofs.Assigning.{tables_clean, numbers_within, scan_assignments}
use Rattle.policy.proofs.assign.check_assignments.Goals.{Start}
use Rattle.policy.proofs.assign.check_assignments.Goals as goal

pub assign-requires : goal.assign-requires
assign-requires c =
    let w = c.loop-i in
    let r = numbers_within c.args.dominance.now.file.now.ready (w.i + 1) (omega arith) in
    rw (c.first_number.ensures, c.second_number.ensures) r

-- the verdict on the lines of the part is that on the file
whole : (c : Start) →
    let a = c.args in
    let dominance = a.dominance.now in
    let p = dominance.file.now.assignments.now in
    let f = dominance.file.now.bytes.now in
    scan (lines p) (λ k. assign_by_tables a.s.now dominance.under dominance.over (one p k) (two p k)) ≡ scan (lines f) (assignment_verdict f)
whole c =
    let dominance = c.args.dominance.now in
    let (labelled, dominating, levelled) = c.requires in
    scan_assignments dominance.file.now.ready c.args.s.now dominance.under dominance.over labelled dominating levelled dominance.lower dominance.upper

pub returns-in_err-assign : goal.returns-in_err-assign
returns-in_err-assign c =
    let w = c.loop-i in
    let p = err_from_is_err_and c.from_residual.result c.from_residual.ensures.1 in
    let e = rw (c.first_number.ensures, c.second_number.ensures) at c.in_err-assign.ensures in
    rw (p.1, p.2)
    (e ∙ scan_found _ _ w.i (omega arith) w.invariant (rw e at (refusal_refuses c.in_err-assign.field-0.0)) ∙ whole (goal.at.returns-in_err-assign c).Start)

pub loop-i-preserved : goal.loop-i-preserved
loop-i-preserved c =
    let w = c.loop-i in
    let e = rw (c.first_number.ensures, c.second_number.ensures) at c.in_ok-assign.ensures in
    scan_more _ w.i w.invariant (ap (λ (v : Verdict). v.number) (sym e))

pub returns : goal.returns
returns c =
    let w = c.loop-i in
    let a = c.args in
    let p = a.dominance.now.file.now.assignments.now in
    let v = a.dominance.now in
    let all : w.i ≡ lines p = omega arith in
    sym (scan_clean _ (lines p) (λ k u. tables_clean a.s.now v.under v.over (one p k) (two p k)) (rw all at w.invariant))
    ∙ whole (goal.at.returns c).Start

pub loop-i-init : goal.loop-i-init
loop-i-init c = scan_yet _

-- Stage after stage: a stage that refuses decides the file, and where none does the tables are the file's.
use Rattle.std.proofs.Common.{Result, IsErrAnd, ℕ, ◌≤◌, min, ◌≡◌, refl, sym, ap, ◌∙◌, List, Bool, ◌&&◌, leb}
use Rattle.std.proofs.lemmas.Result.{err_from_is_err_and}
use Rattle.order.specs.Bound.{converse}
use Rattle.order.specs.Closure.{Agree, with_itself}
use Rattle.order.specs.Table.{mark, Rows}
use Rattle.order.specs.inner.Members.{row_holds}
use Rattle.rolefile.specs.declared.Verdict.{Verdict}
use Rattle.rolefile.specs.Line.{lines}
use Rattle.rolefile.specs.Form.{fine, scan}
use Rattle.rolefile.specs.Said.{labels}
use Rattle.rolefile.proofs.Verdicts.{Refuses}
use Rattle.rolefile.specs.Refusal.{told}
use Rattle.policy.specs.declared.Refusal.{Refusal}
use Rattle.policy.specs.declared.Refusal.TheVariants.{Form}
use Rattle.policy.specs.Refusal.{verdict_of}
use Rattle.policy.specs.declared.file.File.{File}
use Rattle.policy.specs.Verdict.{order_verdict, label_verdict, assignment_verdict, verdict}
use Rattle.policy.specs.inner.Stages.{Paths, Closed, Built}
use Rattle.policy.proofs.Told.{refusal_refuses}
use Rattle.policy.proofs.Readying.{counts_of, head_labels}
use Rattle.policy.proofs.Dominance.{closed_of, closed_rows, closed_agree, order_verdict_is}
use Rattle.policy.proofs.Builds.{refused_lines, refused_labels, refused_order, refused_roles, the_last, built_refused}
use Rattle.policy.proofs.Builds.{Ranked, ranked_of, level_zeros, row_zeros, third_labelled, image}
use Rattle.policy.proofs.build.build.Goals.{After-rank_roles, In_ok-rank_roles}
use Rattle.policy.proofs.build.build.Goals as goal

-- ---- what the stages give

-- t has the paths of dominance, and down their closure
module _ (file : File) (t down : List (List Bool)) (paths : Paths file.bytes.now t)
    (reflected : Rows 32 (min file.counts.labels 32) (with_itself (mark t)) (mark t) (mark down)) where
  few : labels file.bytes.now ≤ 32
  few = (counts_of _ file.ready.lines).labels.1

  head : file.counts.labels ≡ labels file.bytes.now
  head = file.ready.head.labels

  closed : Closed file.bytes.now (mark down)
  closed = closed_of file.bytes.now t down paths (rw (head_labels file.ready) at reflected)

  -- the order's verdict is the file's
  order_is : order_verdict (min file.counts.labels 32) (mark t) (mark down) ≡ label_verdict file.bytes.now
  order_is = rw (head_labels file.ready) (order_verdict_is _ t (mark down) few paths (closed_agree _ (mark down) few closed))

  -- dominance as rows: the labels under each label, and those over it
  lower : (under : List ℕ) → Agree 32 32 (row_holds under) (λ a b. leb a file.counts.labels && mark down a b) → Closed file.bytes.now (row_holds under)
  lower under same = closed_rows _ (mark down) (row_holds under) closed (rw head at same)

  upper : (over : List ℕ) → Agree 32 32 (row_holds over) (λ a b. leb b file.counts.labels && mark down b a) → Closed file.bytes.now (converse (row_holds over))
  upper over same = closed_rows _ (mark down) (converse (row_holds over)) closed (λ a b v w. rw head at (same b a w v))

-- a check that answered with nothing to refuse
passes : {v : Verdict} → fine ≡ v → v.number ≡ 0
passes e = ap (λ (v : Verdict). v.number) (sym e)

-- what stands in the state once no stage before the assignments refuses
stands : (c : In_ok-rank_roles) → Ranked c.in_ok-file.file.bytes.now c.rank_roles.new.s
stands c = ranked_of c.requires c.in_ok-note_labels.ensures refl c.in_ok-rank_roles.ensures refl

pub invariant_of-dominance : goal.invariant_of-dominance
invariant_of-dominance c =
    let file = c.in_ok-file.file in
    let t = c.paths_of-paths.result in
    let down = c.reflected-down.result in
    let p = c.paths_of-paths.ensures in
    let e = c.reflected-down.ensures in
    record {
      marked = closed file t down p e;
      lower = lower file t down p e c.rows.result c.rows.ensures;
      upper = upper file t down p e c.columns.result c.columns.ensures;
    }

pub grant_all-requires : goal.grant_all-requires
grant_all-requires c =
    let s = stands (goal.at.grant_all-requires c).In_ok-rank_roles in
    (s.labelled, s.seniors, level_zeros s, row_zeros s)

pub check_assignments-requires : goal.check_assignments-requires
check_assignments-requires c =
    let s = stands (goal.at.check_assignments-requires c).In_ok-rank_roles in
    let granting = c.grant_all.ensures in
    (third_labelled s granting, granting.dominating, granting.levelled)

-- ---- what is answered

-- a stage that refuses decides the file g, which is f
refused_by : {f g ys : List ℕ} {w : Verdict} (r : Result (Unit {0}) Refusal) (e : Refusal) → g ≡ f → IsErrAnd r (λ x. x ≡ e)
    → verdict_of e ≡ w → (Refuses w → w ≡ verdict g) → Built f (told verdict_of r) ys
refused_by r e same h v decides =
    let p = err_from_is_err_and r h in
    let refuses = refusal_refuses e in
    rw (p.1, p.2) (built_refused _ _ _ (v ∙ decides (rw v at refuses) ∙ ap verdict same) refuses)

pub returns-in_err-file : goal.returns-in_err-file
returns-in_err-file c = refused_by c.from_residual.result (Form c.in_err-file.field-0.0) refl c.from_residual.ensures.1 c.in_err-file.ensures.told (refused_lines _)

pub returns-in_err-note_labels : goal.returns-in_err-note_labels
returns-in_err-note_labels c =
    refused_by c.from_residual-in_err-note_labels.result c.in_err-note_labels.field-0.0 c.in_ok-file.ensures.same c.from_residual-in_err-note_labels.ensures.1
    c.in_err-note_labels.ensures.answer (refused_labels _ c.in_ok-file.file.ready.lines)

pub returns-in_err-check_labels : goal.returns-in_err-check_labels
returns-in_err-check_labels c =
    let v = c.in_err-check_labels.ensures ∙ order_is c.in_ok-file.file _ _ c.paths_of-paths.ensures c.reflected-down.ensures in
    refused_by c.from_residual-in_err-check_labels.result c.in_err-check_labels.field-0.0 c.in_ok-file.ensures.same c.from_residual-in_err-check_labels.ensures.1
    v (refused_order _ c.in_ok-file.file.ready.lines (passes c.in_ok-note_labels.ensures.answer))

-- what the labels' order comes to where the roles are ranked
ordered : (c : After-rank_roles) → (label_verdict c.in_ok-file.file.bytes.now).number ≡ 0
ordered c = passes (c.in_ok-check_labels.ensures ∙ order_is c.in_ok-file.file _ _ c.paths_of-paths.ensures c.reflected-down.ensures)

pub returns-in_err-rank_roles : goal.returns-in_err-rank_roles
returns-in_err-rank_roles c =
    let third = ordered (goal.at.returns-in_err-rank_roles c).After-rank_roles in
    refused_by c.from_residual-in_err-rank_roles.result c.in_err-rank_roles.field-0.0 c.in_ok-file.ensures.same c.from_residual-in_err-rank_roles.ensures.1
    c.in_err-rank_roles.ensures.answer (refused_roles _ c.in_ok-file.file.ready.lines (passes c.in_ok-note_labels.ensures.answer) third)

-- the last stage decides
last : (c : In_ok-rank_roles) → let f = c.in_ok-file.file.bytes.now in scan (lines f) (assignment_verdict f) ≡ verdict f
last c =
    the_last _ c.in_ok-file.file.ready.lines (passes c.in_ok-note_labels.ensures.answer)
    (ordered (goal.at.In_ok-rank_roles c).After-rank_roles) (passes c.in_ok-rank_roles.ensures.answer)

pub returns-in_err-check_assignments : goal.returns-in_err-check_assignments
returns-in_err-check_assignments c =
    refused_by c.from_residual-in_err-check_assignments.result c.in_err-check_assignments.field-0.0 c.in_ok-file.ensures.same c.from_residual-in_err-check_assignments.ensures.1
    c.in_err-check_assignments.ensures (λ h. last (goal.at.returns-in_err-check_assignments c).In_ok-rank_roles)

pub returns : goal.returns
returns c =
    let s = stands (goal.at.returns c).In_ok-rank_roles in
    record {
      answer = c.in_ok-check_assignments.ensures ∙ last (goal.at.returns c).In_ok-rank_roles ∙ ap verdict c.in_ok-file.ensures.same;
      done = λ z. rw c.in_ok-file.ensures.same at (image s c.grant_all.ensures c.finish.ensures);
    }

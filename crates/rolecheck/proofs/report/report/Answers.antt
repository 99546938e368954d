-- By cases on what the load answers; what is put stays in one buffer, and an edit of the buffer is refused there.
use Rattle.std.proofs.Common.{◌∙◌, rules}
use Rattle.rolefile.proofs.Told.{told_by}
use Rattle.policy.specs.Refusal.{verdict_of}
use Rattle.text.proofs.Added.{adds_as, adds_then}
use Rattle.rolecheck.proofs.Whole.{load_written, refused_report, accepted_report, whole}
use Rattle.rolecheck.proofs.report.report.Goals as goal

pub verdict_line-requires : goal.verdict_line-requires
verdict_line-requires c =
    let same = told_by verdict_of c.load-loaded.result c.into.result c.into.ensures in
    let w = load_written c.args.file.now c.load-loaded.result same c.load-loaded.ensures (search rules) in
    (w.number, w.first, w.second)

pub returns-then-is_err-clause-out_after : goal.returns-then-is_err-clause-out_after
returns-then-is_err-clause-out_after c =
    let file = c.args.file.now in
    let same = told_by verdict_of c.load-loaded.result c.into.result c.into.ensures in
    let text = refused_report file c.load-loaded.result same c.load-loaded.ensures (search rules) c.if-is_err.ensures.value in
    λ room. (whole file (search rules) (search rules) (adds_as text c.verdict_line.ensures)).1

pub returns-clause-out_after : goal.returns-clause-out_after
returns-clause-out_after c =
    let file = c.args.file.now in
    let same = told_by verdict_of c.load-loaded.result c.into.result c.into.ensures in
    let text = accepted_report file c.load-loaded.result same c.load-loaded.ensures (search rules) c.if-is_err.ensures.value in
    λ room. (whole file (search rules) (search rules) (adds_as text (adds_then c.verdict_line.ensures c.policy_lines.ensures))).1

pub returns-clause-same_buffer : goal.returns-clause-same_buffer
returns-clause-same_buffer c = c.policy_lines.ensures.same_buffer ∙ (c.verdict_line.ensures.same_buffer ∙ c.new-text.ensures.same_buffer)

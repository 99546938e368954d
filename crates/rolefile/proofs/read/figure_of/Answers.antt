-- A field of a line that the part has, or 0.
use Rattle.std.proofs.Common.{◌∙◌, ◌+◌, ◌*◌, [], arith, le-leb, add-sub_cancel}
use Rattle.rolefile.specs.Line.{line_length, lines}
use Rattle.rolefile.proofs.Reading.{line_there, figure_there}
use Rattle.rolefile.proofs.read.figure_of.Goals as goal

pub returns : goal.returns
returns c =
    let a = c.args in
    let found = c.in-Some.ensures.lookup.3 in
    let line = found.1 [] ∙ line_there a.p.now _ c.whole_lines.ensures.value a.i (omega (arith, found.0, c.whole_lines.ensures.len)) in
    rw (le-leb (a.i + 1) (lines a.p.now) (omega (arith, found.0, c.whole_lines.ensures.len)), add-sub_cancel a.i 1)
    (c.figure.ensures ∙ figure_there a.p.now (line_length * a.i) a.j _ _ c.requires line c.fields.ensures)

-- The bytes of the line that was found.
use Rattle.std.proofs.Common.{◌∙◌, ◌*◌, ◌-◌, [], arith}
use Rattle.rolefile.specs.Line.{line_length, line_at}
use Rattle.rolefile.proofs.Reading.{line_of_piece, line_there}
use Rattle.rolefile.proofs.read.line.Goals as goal

pub returns : goal.returns
unfolding line_at
returns c =
    let a = c.args in
    let found = c.in-Some.ensures.lookup.3 in
    let line = found.1 [] ∙ line_there a.f.now _ c.whole_lines.ensures.value _ (omega (arith, found.0, c.whole_lines.ensures.len)) in
    c.unwrap_or.ensures ∙ c.line_from.ensures ∙ rw (line, c.saturating_sub.ensures) (line_of_piece a.f.now (line_length * (a.k - 1)))

-- Where each field reads as asked, the line is what they say.
use Rattle.std.proofs.Common.{◌∙◌, sym}
use Rattle.rolefile.proofs.Written.{made}
use Rattle.rolefile.proofs.Reading.{taken_iff}
use Rattle.rolefile.proofs.read.line_from.Goals as goal

pub returns : goal.returns
returns c =
    sym (made _ _ _ _ _ _ _ record {
      letter = c.in_ok-letter.ensures.0;
      some = c.in_ok-letter.ensures.1;
      end = c.if-bytes-ne-NEWLINE.false;
      a = sym (rw c.fields.ensures at c.field.ensures) ∙ c.in-Number.is;
      b = sym (rw c.fields.ensures at c.field-2.ensures) ∙ c.in-Number-field.is;
      c = (taken_iff _ _ _).0 (sym (rw (c.fields.ensures, c.field_count.ensures) at c.in_ok-c.ensures));
      d = (taken_iff _ _ _).0 (sym (rw (c.fields.ensures, c.field_count-2.ensures) at c.in_ok-d.ensures));
    }).0

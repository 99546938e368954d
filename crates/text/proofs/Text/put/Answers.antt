-- As many bytes as there is room for stand after those in use.
use Rattle.std.proofs.Common.{refl, rules}
use Rattle.text.proofs.Filled.{filled}
use Rattle.text.proofs.Text.put.Goals as goal

pub returns : goal.returns
returns c =
    let self = c.args.self.now in
    let fill = c.fill-count in
    record {
      same_buffer = refl;
      puts = record {
        size = search rules;
        used = search rules;
        text = filled self.used fill.result _ self.buffer.now c.args.bytes.now fill.new.part self.fits (search rules) (search rules) fill.ensures.bytes (search rules);
      };
    }

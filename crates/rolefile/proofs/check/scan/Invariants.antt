-- The lines before the reader's next one have nothing to refuse, and the last of them is at hand.
use Rattle.std.proofs.Common.{◌≡◌, ◌≤◌, ◌+◌, ◌-◌}
use Rattle.rolefile.specs.Line.{line_at, lines}
use Rattle.rolefile.specs.Form.{fine, header, line_verdict, scan}
use Rattle.rolefile.proofs.check.scan.Given as goal

abbrev pub invariant-loop-k : goal.invariant-loop-k
invariant-loop-k l = let k = l.k-iterator.next in record {
  file : l.k-iterator.file.now ≡ l.f;
  from : 2 ≤ k;
  upto : k ≤ lines l.f + 1;
  head : l.h ≡ header l.f;
  before : l.before ≡ line_at l.f (k - 1);
  clean : fine ≡ scan (k - 1) (line_verdict l.f);
}

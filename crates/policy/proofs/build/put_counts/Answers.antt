-- Four words, each where the one before ends.
use Rattle.policy.proofs.Finishes.{four_words}
use Rattle.policy.proofs.build.put_counts.Goals as goal

pub returns : goal.returns
returns c =
    four_words c.args.file.now.counts c.args.s.now c.put_word.new.s c.put_word-2.new.s c.put_word-3.new.s c.put_word-4.new.s
    c.put_word.ensures c.put_word-2.ensures c.put_word-3.ensures c.put_word-4.ensures

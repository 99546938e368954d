-- A sound state is long enough, and its counts are within their limits.
use Rattle.search.proofs.Truth.{passed}
use Rattle.monitor.proofs.Answers.{sound_iff}
use Rattle.monitor.proofs.state.Policy.new.Goals as goal

pub invariant_of-result : goal.invariant_of-result
invariant_of-result c =
    let sound = passed c.sound.ensures c.if-not-sound.false in
    let s = (sound_iff _).0 sound in
    record { sound = sound; long = s.long; labels = s.labels.1; roles = s.roles; users = s.users; cards = s.cards }

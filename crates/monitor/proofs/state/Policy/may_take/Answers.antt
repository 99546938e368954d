-- The tests one after the other. The check finds this alone; an edit of the label is refused here.
use Rattle.search.proofs.Truth.{passed}
use Rattle.monitor.proofs.state.Policy.may_take.Goals as goal

pub returns-then-entitles : goal.returns-then-entitles
returns-then-entitles c = rw (passed c.entitles.ensures c.if-entitles.true) c.fits.ensures

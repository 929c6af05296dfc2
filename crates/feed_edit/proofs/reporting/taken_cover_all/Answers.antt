use Rattle.feed_edit.proofs.Apart.{cover_all}
use Rattle.feed_edit.proofs.reporting.taken_cover_all.Goals as goal

pub returns : goal.returns
returns c = cover_all

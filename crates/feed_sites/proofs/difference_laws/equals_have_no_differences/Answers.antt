use Rattle.feed_sites.proofs.Equal.{equal_sets_reported, equal_copies_reported}
use Rattle.feed_sites.proofs.difference_laws.equals_have_no_differences.Goals as goal

pub returns : goal.returns
returns c = record { sets = equal_sets_reported; copies = equal_copies_reported }

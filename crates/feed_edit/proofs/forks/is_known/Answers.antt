use Rattle.std.proofs.Common.{◌∙◌}
use Rattle.feed_edit.proofs.Sorting.{searched_known}
use Rattle.feed_edit.proofs.forks.is_known.Goals as goal

pub returns : goal.returns
returns c = c.is_ok.ensures.value ∙ searched_known c.args.known.now c.args.stamp c.binary_search.result c.requires c.binary_search.ensures.bound c.binary_search.ensures.position

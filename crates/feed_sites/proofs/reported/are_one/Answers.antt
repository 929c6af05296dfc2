use Rattle.std.proofs.lemmas.Slice.Eq.{slice_eq-Decides}
use Rattle.feed_sites.proofs.Sets.{same_operations}
use Rattle.feed_sites.proofs.reported.are_one.Goals as goal

pub returns : goal.returns
returns c = slice_eq-Decides same_operations _ _ _ c.eq.ensures

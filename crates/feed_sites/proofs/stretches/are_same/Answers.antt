use Rattle.std.proofs.lemmas.Slice.Eq.{slice_eq-Decides}
use Rattle.desk_ops.proofs.Symbols.{same_symbols}
use Rattle.feed_sites.proofs.stretches.are_same.Goals as goal

pub returns : goal.returns
returns c = slice_eq-Decides same_symbols _ _ _ c.eq.ensures

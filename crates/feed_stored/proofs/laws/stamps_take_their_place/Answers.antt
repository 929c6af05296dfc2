use Rattle.std.proofs.Common.{arith}
use Rattle.feed_stored.proofs.Putting.{rises_with, with_others, with_own}
use Rattle.feed_stored.proofs.laws.stamps_take_their_place.Goals as goal

pub returns : goal.returns
returns c = record { rises = λ stamps new up numbered. rises_with 0 stamps new up (omega arith) numbered; own = with_own; others = with_others }

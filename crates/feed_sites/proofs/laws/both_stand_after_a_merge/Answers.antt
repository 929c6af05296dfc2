use Rattle.feed_sites.proofs.Forking.{merges_with_no_fork}
use Rattle.feed_sites.proofs.Injective.{none_lost}
use Rattle.feed_sites.proofs.Renumbered.{becomes, nothing_collides, others_stay}
use Rattle.feed_sites.proofs.laws.both_stand_after_a_merge.Goals as goal

pub returns : goal.returns
returns c = record { becomes = becomes; stay = others_stay; none_lost = none_lost; apart = nothing_collides; merge = merges_with_no_fork }

use Rattle.std.proofs.lemmas.List.Filters.{dedup_is}
use Rattle.feed_edit.specs.Stamps.{same_stamp}
use Rattle.feed_sites.proofs.Sorting.{sorted_alone}
use Rattle.feed_sites.proofs.alone.alone_in.Goals as goal

pub returns : goal.returns
returns g c =
    sorted_alone c.args.one.now c.args.other.now c.in_ok-stamps.stamps.items c.sort_unstable.new.self.items c.dedup.new.self.items c.requires.one c.requires.other c.in_ok-stamps.ensures c.sort_unstable.ensures.permutation
    c.sort_unstable.ensures.sorted (dedup_is same_stamp c.sort_unstable.new.self.items c.dedup.new.self.items c.dedup.ensures.filtered)

-- Stamps, ordered by site and then by counter.
use Rattle.std.specs.Prelude.{Bool, ◌==◌, ◌&&◌}
use Rattle.std.specs.Ordering.{nat_cmp, ordering_then}
use Rattle.std.specs.declared.cmp.Ordering.{Ordering}
use Rattle.desk_ops.specs.declared.op.Stamp.{Stamp}
use Rattle.feed_edit.specs.declared.stamps.SiteStamp.{SiteStamp}

-- by site, and then by counter
abbrev pub site_cmp : SiteStamp → SiteStamp → Ordering
site_cmp a b = ordering_then (nat_cmp a.site b.site) (nat_cmp a.counter b.counter)

abbrev pub site_stamp_of : Stamp → SiteStamp
site_stamp_of stamp = record { site = stamp.site; counter = stamp.counter }

abbrev pub stamp_at : SiteStamp → Stamp
stamp_at stamp = record { counter = stamp.counter; site = stamp.site }

-- whether two stamps are one
abbrev pub same_stamp : SiteStamp → SiteStamp → Bool
same_stamp a b = (a.site == b.site) && (a.counter == b.counter)

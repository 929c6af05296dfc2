-- The difference of two stored feeds, where it is not written.
use Rattle.std.proofs.Common.{◌≡◌, ℕ, List, refl}
use Rattle.std.specs.Prelude.{Option}
use Rattle.desk_ops.specs.OpSet.{OpSet}
use Rattle.feed_files.specs.Files.{Shelf}
use Rattle.feed_edit.specs.Exporting.{IsSetOf, IsVersion}
use Rattle.feed_edit.specs.declared.exporting.Version.{Version}
use Rattle.feed_sites.specs.Reporting.{IsUnopened, IsUnreported, IsUnwritten}
use Rattle.feed_sites.specs.declared.difference_fault.DifferenceFault.{DifferenceFault}
use Rattle.feed_sites.specs.declared.difference_fault.DifferenceFault.TheVariants as faults

-- where a feed is not opened nothing is written
pub unopened : (one : Version) (other : List ℕ) (first last : Shelf) (now : Option (List ℕ)) (why : DifferenceFault) → IsUnopened one other first last why → IsUnreported one other first last now now why
unopened one other first last now (faults.One why) closed = (refl, closed)
unopened one other first last now (faults.Other why) (set, is, closed) = (refl, set, is, closed)
unopened one other first last now faults.Write never = absurd never
unopened one other first last now faults.NoMemory never = absurd never

-- where both are opened, and what is said of them is not written
pub unwritten : (one : Version) (other : List ℕ) (first last : Shelf) (set others : OpSet) (before after : Option (List ℕ)) (why : DifferenceFault) → last.failures ≡ first.failures → IsVersion one first set → IsSetOf other first others
    → IsUnwritten one.feed.now other set others before after why → IsUnreported one other first last before after why
unwritten one other first last set others before after (faults.One why) counted ones twos never = absurd never
unwritten one other first last set others before after (faults.Other why) counted ones twos never = absurd never
unwritten one other first last set others before after faults.Write counted ones twos (reported, same, reports, prefix) = (counted, reported, same, (set, others, ones, twos, reports), prefix)
unwritten one other first last set others before after faults.NoMemory counted ones twos kept = (kept, counted, set, others, ones, twos)
